-- The give-backs that empty a pool, and so every give-back: it keeps a plain heap sound.
pub mod Emptied
