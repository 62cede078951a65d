-- An ask on a heap that is tested; how far a batch has come, of requests and of words; and that each promise determines
-- its call.
pub mod Asked
pub mod Left
pub mod Words
pub mod Unique
