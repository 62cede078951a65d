-- `compare::changes::tally` counts the pools in turn: at turn p the counts are those of the pools before pool p.
use Rattle.std.proofs.Common.{◌≡◌, length}
use Rattle.books.specs.Readers.{alignment_in}
use Rattle.compare.specs.Changes.{Counted}
use Rattle.compare.proofs.changes.tally.Given as goal

abbrev pub invariant-loop-pool : goal.invariant-loop-pool
invariant-loop-pool l =
    Counted (alignment_in l.heap) l.heap.shape.arenas l.heap.books.now l.heap.map.now l.pool l.counts × (length l.counts ≡ 64)
