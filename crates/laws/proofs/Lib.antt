-- What rests on the clauses of `History`: each call keeps the ledger tied to the heap (Tied, and Dead of dead blocks),
-- and so the theorems after a yes (Yes), of every history (Theorems and Statements), of two of its points (Points), and
-- of the code's runs (Runs).
pub mod Tied
pub mod Yes
pub mod Dead
pub mod Theorems
pub mod Statements
pub mod Points
pub mod Runs
