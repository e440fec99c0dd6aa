-- Laws of byte counts and of the answer to a refused read.
pub mod Count
pub mod Answer
pub mod Flush
