-- `batch::ask_all` has come as far as its turn: what is served stands in front, and the rest is still to be asked for.
use Rattle.rules.specs.Outcome.{heap_of}
use Rattle.batch.specs.Left.{Left}
use Rattle.batch.proofs.ask_all.Given as goal

abbrev pub invariant-loop-i : goal.invariant-loop-i
invariant-loop-i l =
    Left (heap_of l.initial.memory l.initial.books l.initial.map) l.initial.requests (heap_of l.memory l.books l.map) l.requests l.i
