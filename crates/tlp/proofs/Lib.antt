-- Laws; the functions need no file of their own.
pub mod Laws
