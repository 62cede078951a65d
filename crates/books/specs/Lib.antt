-- The pool record as a struct, and the laws of tests, records, lists, starts, sizes and verdicts that steps and calls
-- cite.
pub mod Tests
pub mod Passing
pub mod Records
pub mod Lists
pub mod Starts
pub mod Sizes
pub mod Known
pub mod Refusals
pub mod Readers
pub mod Verdicts
