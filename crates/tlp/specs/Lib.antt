-- What packets mean, over header words: paper 01's "Request form", and the rules of form.
pub mod Form
pub mod Rules
