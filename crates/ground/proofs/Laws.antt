-- Laws of what every crate stands on.
pub mod Pick
pub mod Join
pub mod Field
pub mod Scan
pub mod Chain
pub mod Table
pub mod Called
