-- The calls that edit the table of windows.
pub mod Edit
