-- A plain heap of sequences, and that a heap holds it soundly: what the books say (Books), the plain heap (Plain), that
-- a heap holds it (Bytes to Held), that W-201's audit says yes exactly where one does (Divided to Audited), that format
-- makes one that does (Fresh), and that each path of ask and give back keeps it so (Step to Sources, and Emptied of
-- proofs/).
--
-- Letters that mean one thing throughout, here and in crate laws. A arenas of P pools; al the alignment, and L that it
-- is 8 or 16. h the heap: b its books, m its memory. r the plain heap that it holds, S that it does so soundly. U a
-- view, K that the books say it, F that it says the plain heap. p a pool, a its arena, c its class and s its block
-- size; j and k blocks. r', U', h': after the step.
pub mod Books
pub mod Plain
pub mod Bytes
pub mod Chains
pub mod Sound
pub mod Held
pub mod Divided
pub mod Grounds
pub mod Members
pub mod Passes
pub mod Audited
pub mod Fresh
pub mod Step
pub mod Paths
pub mod AskListed
pub mod GiveBack
pub mod Walked
pub mod Taken
pub mod Sources
