-- Laws of the look.
pub mod Look
pub mod Scan
