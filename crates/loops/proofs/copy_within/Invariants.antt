-- `loops::copy_within` stores the bytes as they stood: at turn i those from byte i on are left,
-- and none that is still to be read was written.
use Prim.Native.Nat.{◌+◌, ◌-◌, ◌≤◌}
use lib.ListN.{drop}
use Rattle.rules.specs.View.{part}
use Rattle.loops.specs.Left.{Left}
use Rattle.loops.proofs.copy_within.Given as goal

abbrev pub invariant-loop-i : goal.invariant-loop-i
invariant-loop-i l = Left l.initial.memory l.to (part l.from l.n l.initial.memory) l.memory (l.to + l.i) (drop l.i (part l.from l.n l.initial.memory))
    × (l.i ≤ l.n)

abbrev pub decreases-loop-i : goal.decreases-loop-i
decreases-loop-i l = l.n - l.i
