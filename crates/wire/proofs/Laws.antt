-- Laws of writing.
pub mod Write
