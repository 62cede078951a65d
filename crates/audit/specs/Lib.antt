-- The laws of the audit's code: a turn of its walks (Turns), what its survey finds (Survey), the lists by that (Lists),
-- a pool's bits (Bits) and a pool's blocks (Divided). And that its promise determines it (Unique).
pub mod Turns
pub mod Survey
pub mod Lists
pub mod Bits
pub mod Divided
pub mod Unique
