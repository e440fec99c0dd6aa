-- The check finds each function's proof by itself, from the laws that the function names.
pub mod Laws
