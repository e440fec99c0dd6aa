-- Laws of the calls that edit the windows.
pub mod Overlap
pub mod Edit
pub mod Frame
