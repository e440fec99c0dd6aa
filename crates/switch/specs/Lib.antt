-- What passing a packet means: what comes back, and what it changes.
pub mod Answer
pub mod After
