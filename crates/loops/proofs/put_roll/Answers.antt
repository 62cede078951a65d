-- `loops::put_roll` stores the roll: at each turn that of the pools from this one on is left.
use mathlib.Core.Path.{refl}
use native.Mathlib.Omega.{arith}
use Rattle.rules.specs.Books.{alignment_of}
use Rattle.loops.specs.Left.{fewer, begin, turn, done}
use Rattle.loops.specs.Roll.{roll_parts}
use Rattle.loops.proofs.put_roll.Goals as goal

pub loop-pool-init : goal.loop-pool-init
loop-pool-init c =
    let a = c.args in
    let s = a.shape in
    (begin (roll_parts (alignment_of s.edition) s.arenas a.books.now a.map.now a.n) _ 0 _ refl, omega arith)

pub roll_pool-place-requires : goal.roll_pool-place-requires
roll_pool-place-requires c =
    let a = c.args in
    let s = a.shape in
    let f = fewer (roll_parts (alignment_of s.edition) s.arenas a.books.now a.map.now a.n) c.loop-pool.pool (omega arith) in
    omega arith

pub loop-pool-preserved : goal.loop-pool-preserved
loop-pool-preserved c =
    let p = c.loop-pool in
    let a = c.args in
    let s = a.shape in (
      turn (roll_parts (alignment_of s.edition) s.arenas a.books.now a.map.now a.n) p.pool (omega arith) p.invariant.0
          c.roll_pool-place.ensures,
      omega arith,
    )

pub shape_of-roll : goal.shape_of-roll
shape_of-roll c = c.loop-pool.invariant.0.long

pub returns : goal.returns
returns c =
    let p = c.loop-pool in
    let a = c.args in
    let s = a.shape in
    done (roll_parts (alignment_of s.edition) s.arenas a.books.now a.map.now a.n) p.pool (omega arith) p.invariant.0
