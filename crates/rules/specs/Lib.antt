-- 01 as definitions, in its order, with 02's batch, audit and comparison; what each call promises; and the eight tables
-- that the prover computes about them.
pub mod Say
pub mod Books
pub mod Blocks
pub mod Lists
pub mod Outcome
pub mod Format
pub mod Ask
pub mod GiveBack
pub mod Resize
pub mod View
pub mod Numbers
pub mod Batch
pub mod Audit
pub mod Compare
pub mod Promises
pub mod Replay
pub mod Whole
pub mod Lines
pub mod Cases
pub mod Damaged
pub mod Order
pub mod Batches
pub mod Audits
pub mod Compares
pub mod Sixteen
pub mod Replays
