-- Laws of the decision.
pub mod Call
pub mod Exactly
pub mod Reached
