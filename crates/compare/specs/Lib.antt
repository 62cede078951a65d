-- The laws of the comparison: bytes in runs (Bytes); the kind of an offset, and of a pool's, by the sizes of its blocks
-- (Kinds, Pools); a map word in both heaps (Words); the next live block (Next); what is noted in the list or counted
-- (Noted), and how much that can be (Most); the changes; the order of the tests; and that the promise determines the
-- call (Unique).
pub mod Bytes
pub mod Kinds
pub mod Words
pub mod Next
pub mod Pools
pub mod Most
pub mod Noted
pub mod Changes
pub mod Order
pub mod Unique
