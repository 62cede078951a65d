-- `loops::fresh_arenas` stores the arena records: at turn i those from arena i on are left.
use mathlib.Core.Path.{refl, ap, ◌∙◌}
use Prim.Native.Nat.{ℕ, ◌+◌, ◌*◌}
use native.Mathlib.Omega.{arith}
use lib.Seq.{sets}
use Rattle.loops.specs.Left.{begin, turn, done}
use Rattle.loops.specs.Fresh.{record_of, arena_parts}
use Rattle.loops.proofs.fresh_arenas.Goals as goal

pub loop-i-init : goal.loop-i-init
loop-i-init c = (begin (arena_parts c.args.arenas) _ 72 _ refl, omega arith)

pub slice_bounds-store-end : goal.slice_bounds-store-end
slice_bounds-store-end c = refl

pub loop-i-preserved : goal.loop-i-preserved
loop-i-preserved c =
    let p = c.loop-i in
    let a = c.args in
    let link =
    ap (λ (x : ℕ). sets p.books (72 + 8 * p.i) (record_of x p.i)) c.next_of-next.ensures in (
      turn (arena_parts a.arenas) p.i (omega arith) p.invariant.0
          (record { same = c.store.ensures ∙ link; place = omega arith }),
      omega arith,
    )

pub shape_of-books : goal.shape_of-books
shape_of-books c = c.loop-i.invariant.0.long

pub returns : goal.returns
returns c =
    let p = c.loop-i in
    (done (arena_parts c.args.arenas) p.i (omega arith) p.invariant.0).same
