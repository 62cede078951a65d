-- `loops::fresh_arenas` stores the arena records: at turn i those from arena i on are left.
use Prim.Native.Nat.{◌+◌, ◌*◌, ◌-◌, ◌≤◌}
use Rattle.rules.specs.Format.{fresh_arenas}
use Rattle.loops.specs.Left.{Left}
use Rattle.loops.proofs.fresh_arenas.Given as goal

abbrev pub invariant-loop-i : goal.invariant-loop-i
invariant-loop-i l = Left l.initial.books 72 (fresh_arenas 0 l.arenas) l.books (72 + 8 * l.i) (fresh_arenas l.i (l.arenas - l.i)) × (l.i ≤ l.arenas)

abbrev pub decreases-loop-i : goal.decreases-loop-i
decreases-loop-i l = l.arenas - l.i
