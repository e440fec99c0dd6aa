-- What a row of the windows means.
pub mod Row
