-- Laws of form: what is read, what crossing keeps, and the first rule broken.
pub mod Form
pub mod Rules
