-- Sequences of numbers, however they are kept: what is changed at one number (Update), sequences and those that rise,
-- how many numbers pass a test (Counting), sequences kept by links in the books, families of them, and the walks that
-- test them (Walks).
pub mod Update
pub mod Sequences
pub mod Rising
pub mod Counting
pub mod Linked
pub mod Families
pub mod Walks
pub mod Listing
