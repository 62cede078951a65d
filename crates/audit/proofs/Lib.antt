-- What the code's chains of iterators answer, for the proofs of several functions.
pub mod Ranges
