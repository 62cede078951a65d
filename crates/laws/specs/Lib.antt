-- What holds after every history of calls, by way of the plain heap that crate sound has: the calls and what is held
-- (Holding to Usable), the theorems of any heap (Refused to Batched) and of any two (Changes to Compared), and what a
-- history is (History). What rests on its clauses stands in proofs/, so that a wrong ledger is refused by them: the
-- theorems of every history. Letters mean what they mean in crate sound.
pub mod Holding
pub mod Calls
pub mod Written
pub mod Resized
pub mod Free
pub mod Roll
pub mod NoRoom
pub mod Usable
pub mod Refused
pub mod First
pub mod StandIn
pub mod Batched
pub mod Changes
pub mod Beside
pub mod Compared
pub mod History
pub mod Reached
