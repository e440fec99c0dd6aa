-- Laws of the logs.
pub mod Frame
pub mod Status
