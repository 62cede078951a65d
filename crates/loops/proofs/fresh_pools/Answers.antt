-- `loops::fresh_pools` stores the pool records: at turn i those from pool i on are left.
use mathlib.Core.Path.{refl, ap, ◌∙◌}
use Prim.Native.Nat.{◌+◌, ◌*◌}
use native.Mathlib.Omega.{arith}
use lib.ListN.{length}
use lib.Seq.{sets}
use Rattle.loops.specs.Left.{begin, turn, done}
use Rattle.loops.specs.Fresh.{pool_parts}
use Rattle.loops.proofs.fresh_pools.Goals as goal

pub loop-i-init : goal.loop-i-init
loop-i-init c =
    let a = c.args in
    (begin (pool_parts a.n) _ a.at _ (omega arith), omega arith, refl)

pub slice_bounds-store-end : goal.slice_bounds-store-end
slice_bounds-store-end c =
    ap length c.loop-i.invariant.2

pub store-requires : goal.store-requires
store-requires c =
    omega (arith, ap length c.loop-i.invariant.2)

pub loop-i-preserved : goal.loop-i-preserved
loop-i-preserved c =
    let p = c.loop-i in
    let a = c.args in
    let words = ap (sets p.books (a.at + 8 * p.i)) p.invariant.2 in (
      turn (pool_parts a.n) p.i (omega arith) p.invariant.0
          (record { same = c.store.ensures ∙ words; place = omega arith }),
      omega arith,
      p.invariant.2,
    )

pub shape_of-books : goal.shape_of-books
shape_of-books c = c.loop-i.invariant.0.long

pub returns : goal.returns
returns c =
    let p = c.loop-i in
    (done (pool_parts c.args.n) p.i (omega arith) p.invariant.0).same
