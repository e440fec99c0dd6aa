-- Paper 01's "Byte count", and the answer to a refused read.
pub mod Count
