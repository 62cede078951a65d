-- What the exported calls answer, and that their promises determine it.
pub mod Answers
pub mod Unique
