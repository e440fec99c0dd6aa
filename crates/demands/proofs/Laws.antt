-- The demands, and what a change request adds to them, proved.
pub mod Crossing
pub mod Listed
pub mod Demand1
pub mod Settled
pub mod Examination
pub mod Rules
pub mod Outgoing
pub mod CameOut
pub mod Number
pub mod NoConfusion
pub mod Bytes
pub mod Return
pub mod Marks
pub mod Flush
pub mod Witness
pub mod MarksWitness
pub mod FlushWitness
