-- `loops::roll_blocks` stores the words of the live blocks: at turn i those of the map words from word i on are left.
use Prim.Native.Nat.{◌*◌, ◌-◌, ◌≤◌}
use Rattle.rules.specs.Blocks.{capacity}
use Rattle.rules.specs.View.{roll_blocks}
use Rattle.loops.specs.Left.{Left}
use Rattle.loops.proofs.roll_blocks.Given as goal

abbrev pub invariant-loop-i : goal.invariant-loop-i
invariant-loop-i l =
    let n = capacity l.size in
    Left l.initial.roll l.at (roll_blocks l.map l.pool l.size 0 n) l.roll l.place (roll_blocks l.map l.pool l.size (64 * l.i) (n - 64 * l.i)) × (l.i ≤ 8)

abbrev pub decreases-loop-i : goal.decreases-loop-i
decreases-loop-i l = 8 - l.i
