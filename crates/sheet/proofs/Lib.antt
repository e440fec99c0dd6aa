-- The cases.
pub mod Laws
