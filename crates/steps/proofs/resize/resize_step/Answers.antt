-- `steps::resize::resize_step` meets its contract: it keeps the offset, or asks and then moves the block; the two runs
-- of bytes never meet.
use Rattle.std.proofs.Math.Bool.{false}
use mathlib.Core.Path.{◌≡◌, sym, ap, ◌∙◌, subst}
use Prim.Native.Nat.{ℕ, min}
use native.Mathlib.Omega.{arith}
use Rattle.std.proofs.lemmas.Result.{err_from_is_err_and}
use Rattle.rules.specs.Books.{alignment_of}
use Rattle.rules.specs.Blocks.{size_at}
use Rattle.rules.specs.Outcome.{heap_of}
use Rattle.rules.specs.Resize.{keeps, copy, give_old, half_done}
use Rattle.books.specs.Sizes.{aligned}
use Rattle.steps.specs.Moves.{Moves, moves_apart, resize_kept, resize_refused, resize_moves}
use Rattle.steps.proofs.resize.resize_step.Goals.{After-min, Else-n-size}
use Rattle.steps.proofs.resize.resize_step.Goals as goal

pub returns-then-n-size-clause-what : goal.returns-then-n-size-clause-what
returns-then-n-size-clause-what c =
    let a = c.args in
    let s = a.shape in
    resize_kept (alignment_of s.edition) s.arenas s.pools (heap_of a.memory.now a.books.now a.map.now) a.offset a.n
    (ap (λ (x : ℕ). keeps x a.n) (sym c.size_at-size.ensures.0) ∙ c.if-n-size.true)

-- past the test the block moves
moves : (c : Else-n-size)
    → let a = c.args in
    keeps (size_at (alignment_of a.shape.edition) a.shape.arenas a.books.now a.offset) a.n ≡ false
moves c = ap (λ (x : ℕ). keeps x c.args.n) (sym c.size_at-size.ensures.0) ∙ c.if-n-size.false

pub returns-in_err-to-clause-what : goal.returns-in_err-to-clause-what
returns-in_err-to-clause-what c =
    let a = c.args in
    let s = a.shape in
    let p = err_from_is_err_and c.from_residual.result c.from_residual.ensures.1 in
    rw (p.1, p.2)
    (resize_refused (alignment_of s.edition) s.arenas s.pools (heap_of a.memory.now a.books.now a.map.now) a.offset a.n
    (moves (goal.at.returns-in_err-to-clause-what c).Else-n-size) _ c.in_err-to.field-0.0 c.in_err-to.ensures)

-- how many bytes are copied
length_is : (c : After-min)
    → let a = c.args in
    c.min.result ≡ min a.n (size_at (alignment_of a.shape.edition) a.shape.arenas a.books.now a.offset)
length_is c = c.min.ensures ∙ ap (min c.args.n) c.size_at-size.ensures.0

pub move_block-requires : goal.move_block-requires
move_block-requires c =
    let a = c.args in
    let s = a.shape in
    let h = heap_of a.memory.now a.books.now a.map.now in
    let w = subst (Moves s.arenas s.pools a.offset c.in_ok-to.to) (sym (length_is c))
    (moves_apart (alignment_of s.edition) s.arenas s.pools h a.offset a.n (aligned s.edition).low c.requires.1 c.in_ok-to.to _
    c.in_ok-to.ensures) in (
      record {
        arenas_low = omega arith;
        arenas_high = omega arith;
        pools_low = omega arith;
        pools_high = omega arith;
        all = omega arith;
        memory = omega arith;
        books = omega arith;
        map = omega arith;
      },
      omega (arith, w.old_inside),
      omega (arith, w.new_inside),
      w.apart,
      w.low,
    )

pub returns-clause-what : goal.returns-clause-what
returns-clause-what c =
    let a = c.args in
    let s = a.shape in
    let to = c.in_ok-to.to in
    let left = heap_of c.ask_step.new.memory c.ask_step.new.books c.ask_step.new.map in
    c.move_block.ensures.what
    ∙ ap (λ (k : ℕ). half_done (alignment_of s.edition) s.arenas s.pools to
    (give_old (alignment_of s.edition) s.arenas s.pools (copy a.offset to k left) a.offset)) (length_is (goal.at.returns-clause-what c).After-min)
    ∙ resize_moves (alignment_of s.edition) s.arenas s.pools (heap_of a.memory.now a.books.now a.map.now) a.offset a.n
    (moves (goal.at.returns-clause-what c).Else-n-size) left to c.in_ok-to.ensures
