-- The laws of replay records.
pub mod Small
pub mod Calls
pub mod Reads
pub mod Replies
pub mod Pieces
pub mod OneMore
pub mod Classes
pub mod Live
