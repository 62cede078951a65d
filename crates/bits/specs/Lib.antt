-- The laws of bits and of the live map.
pub mod Bit
pub mod Map
pub mod Halves
