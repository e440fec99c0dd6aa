-- What the table of numbers means.
pub mod Entries
pub mod Buses
