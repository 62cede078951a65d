-- What a planned path knows of its numbers, and what an ask leaves as it was.
pub mod Fits
pub mod Kept
pub mod Range
