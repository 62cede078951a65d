-- `loops::fresh_pools` stores the pool records: at turn i those from pool i on are left.
use mathlib.Core.Path.{◌≡◌}
use Prim.Native.Nat.{◌+◌, ◌*◌, ◌-◌, ◌≤◌}
use Rattle.rules.specs.Books.{no_class}
use Rattle.rules.specs.Format.{fresh_pools}
use Rattle.loops.specs.Left.{Left}
use Rattle.loops.specs.Fresh.{record_of}
use Rattle.loops.proofs.fresh_pools.Given as goal

abbrev pub invariant-loop-i : goal.invariant-loop-i
invariant-loop-i l = Left l.initial.books l.at (fresh_pools l.n) l.books (l.at + 8 * l.i) (fresh_pools (l.n - l.i)) × (l.i ≤ l.n)
    × (l.fresh ≡ record_of no_class 0)

abbrev pub decreases-loop-i : goal.decreases-loop-i
decreases-loop-i l = l.n - l.i
