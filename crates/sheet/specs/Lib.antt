-- "The exam sheet: worked traffic", as data.
pub mod Tables
pub mod Cases
pub mod Rules
