-- What the logs mean.
pub mod Logs
