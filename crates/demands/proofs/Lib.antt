-- The demands as theorems.
pub mod Laws
