-- The laws of the give-back and of resize: the path by its tests, the words that each write leaves as they were for
-- the next, and the block that a moving resize copies to.
pub mod Arenas
pub mod Backs
pub mod BackPath
pub mod Moved
pub mod Moves
