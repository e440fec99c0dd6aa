-- What the windows of a partition answer.
pub mod Look
pub mod Scan
