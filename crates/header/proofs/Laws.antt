-- Laws of the header's definitions: what the functions' proofs share, and what the layers above cite.
pub mod Lengths
pub mod Words
pub mod Rewrite
