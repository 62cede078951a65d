-- `batch::ask_rows` has come as far as its turn: the requests before it are served, and the words past the last one
-- stay.
use Rattle.rules.specs.Outcome.{heap_of}
use Rattle.batch.specs.Words.{Rows}
use Rattle.batch.proofs.ask_rows.Given as goal

abbrev pub invariant-loop-i : goal.invariant-loop-i
invariant-loop-i l =
    Rows (heap_of l.initial.memory l.initial.books l.initial.map) l.initial.row (heap_of l.memory l.books l.map) l.row l.i
