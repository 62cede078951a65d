-- `loops::put_roll` stores the roll: at each turn that of the pools from this one on is left.
use Prim.Native.Nat.{◌-◌, ◌≤◌}
use Rattle.rules.specs.View.{roll_pools}
use Rattle.rules.specs.Books.{alignment_of}
use Rattle.loops.specs.Left.{Left}
use Rattle.loops.proofs.put_roll.Given as goal

abbrev pub invariant-loop-pool : goal.invariant-loop-pool
invariant-loop-pool l =
    let s = l.shape in
    let roll = roll_pools (alignment_of s.edition) s.arenas l.books l.map in
    Left l.initial.roll 0 (roll 0 l.n) l.roll l.place (roll l.pool (l.n - l.pool)) × (l.pool ≤ l.n)
