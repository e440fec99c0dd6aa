-- What header words mean: paper 01's "Headers used", and the fields that crossing rewrites.
pub mod Kind
pub mod Words
pub mod Fields
pub mod Rewrite
