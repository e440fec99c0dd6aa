-- Laws of what the programs share.
pub mod Hex
