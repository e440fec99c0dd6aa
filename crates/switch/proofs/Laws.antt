-- Laws of passing.
pub mod Logged
pub mod Gate
pub mod Carried
pub mod Frame
pub mod Paper
pub mod Small
pub mod Listed
