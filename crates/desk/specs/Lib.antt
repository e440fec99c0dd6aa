-- What the programs over the exam sheet share.
pub mod Hex
pub mod Passing
