-- The laws of loops that store a list or count its words.
pub mod Sets
pub mod Left
pub mod Fresh
pub mod Copy
pub mod Word
pub mod Roll
