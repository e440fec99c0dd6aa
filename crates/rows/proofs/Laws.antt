-- Laws of a row.
pub mod Aligned
pub mod Row
