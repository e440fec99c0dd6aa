-- The cases, and the rules of form on packets.
pub mod Cases
pub mod Short
pub mod Rules
