-- The demands, and what a change request adds to them, as statements over the passing call's own rule.
pub mod Call
pub mod Settled
pub mod Demand1
pub mod Demand3
pub mod Flush
pub mod Marks
pub mod Rules
