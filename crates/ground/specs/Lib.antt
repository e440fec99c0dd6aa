-- What every crate stands on.
pub mod Pick
pub mod Field
pub mod Scan
pub mod Table
