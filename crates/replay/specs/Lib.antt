-- What the program's functions promise each other.
pub mod Turns
