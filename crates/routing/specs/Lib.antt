-- The decision: what a call is lent, its refusals, the rule, and what holds at each way.
pub mod Call
pub mod Refusal
pub mod Rule
pub mod Why
pub mod Steps
