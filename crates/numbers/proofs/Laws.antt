-- Laws of the table of numbers.
pub mod Frame
pub mod Entries
