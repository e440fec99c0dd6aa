-- What the calls for C give back.
pub mod Abi
