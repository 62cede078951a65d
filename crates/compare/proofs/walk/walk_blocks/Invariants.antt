-- `compare::walk::walk_blocks` notes the blocks of the pool, word by word: at turn i those of the words from word i on
-- are to be noted.
use Prim.Native.Nat.{◌+◌, ◌*◌, ◌-◌, ◌≤◌}
use Rattle.rules.specs.Blocks.{capacity}
use Rattle.sequences.specs.Listing.{at_steps}
use Rattle.compare.specs.Kinds.{together_at}
use Rattle.compare.specs.Noted.{Noting}
use Rattle.compare.proofs.walk.walk_blocks.Given as goal

abbrev pub invariant-loop-i : goal.invariant-loop-i
invariant-loop-i l =
    let kind = together_at l.heaps.first.memory.now l.heaps.second.memory.now l.heaps.first.map.now l.heaps.second.map.now
    l.in_first l.in_second l.pool l.size in
    let n = capacity l.size in
    let o = 4096 * l.pool + 48 in
    Noting l.initial.list l.at (at_steps kind o l.size n) l.list l.place (at_steps kind (o + 64 * l.i * l.size) l.size (n - 64 * l.i)) × (l.i ≤ 8)

abbrev pub decreases-loop-i : goal.decreases-loop-i
decreases-loop-i l = 8 - l.i
