-- `plans::ask::from_mark` meets its contract: it carves only below the mark's bound, where the pool is one of
-- the heap's.
use Rattle.std.proofs.Common.{arith, lt-ltb}
use Rattle.rules.specs.Ask.{from_mark}
use Rattle.plans.proofs.ask.from_mark.Goals as goal

pub returns-then-mark-heap : goal.returns-then-mark-heap
unfolding from_mark
returns-then-mark-heap c = simp (← c.arena_word-mark.ensures.0, lt-ltb _ _ c.if-mark-heap.true) (cc)

pub returns : goal.returns
unfolding from_mark
returns c = grind arith
