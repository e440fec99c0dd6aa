-- The functions' proofs stand each in a folder of its function's name.
pub mod Laws
