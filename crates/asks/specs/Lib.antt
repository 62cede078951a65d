-- The laws of the ask: the path from a listed pool by its tests, and the books after each part of a hand-out.
pub mod AskPath
pub mod HandOut
