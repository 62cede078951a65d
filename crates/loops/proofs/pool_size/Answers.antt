-- `loops::pool_size` answers the size where a bit is set and the size is that of a class, and none elsewhere.
use mathlib.Core.Path.{◌≡◌, sym, ap, ◌∙◌}
use Prim.Native.Nat.{ℕ, ◌*◌, ◌/◌}
use native.Mathlib.Omega.{arith}
use Rattle.rules.specs.Books.{class, pool, alignment_of}
use Rattle.rules.specs.Blocks.{size_of}
use Rattle.books.specs.Sizes.{aligned, no_class_lem, a_class}
use Rattle.loops.specs.Roll.{pool_size}
use Rattle.loops.proofs.pool_size.Goals.{After-size_at-size}
use Rattle.loops.proofs.pool_size.Goals as goal

pub returns-then-none_set-clause-value : goal.returns-then-none_set-clause-value
unfolding pool_size
returns-then-none_set-clause-value c = rw (sym c.none_set.ensures ∙ c.if-none_set.true)

-- the size is read at the pool's first byte
its_size : (c : After-size_at-size)
    → let a = c.args in
    c.size_at-size.result ≡ size_of (alignment_of a.shape.edition) (pool a.shape.arenas a.books.now class a.pool)
its_size c =
    let a = c.args in
    let e : 4096 * a.pool / 4096 ≡ a.pool = omega arith in
    c.size_at-size.ensures.0
    ∙ ap (λ (p : ℕ). size_of (alignment_of a.shape.edition) (pool a.shape.arenas a.books.now class p)) e

pub returns-then-size-gt-LARGEST-clause-value : goal.returns-then-size-gt-LARGEST-clause-value
unfolding pool_size
returns-then-size-gt-LARGEST-clause-value c =
    let a = c.args in
    let s = its_size (goal.at.returns-then-size-gt-LARGEST-clause-value c).After-size_at-size in
    rw (
      sym c.none_set.ensures ∙ c.if-none_set.false,
      no_class_lem (aligned a.shape.edition) (pool a.shape.arenas a.books.now class a.pool) (omega (arith, s, c.if-size-gt-LARGEST.true)),
    )

pub returns-clause-value : goal.returns-clause-value
unfolding pool_size
returns-clause-value c =
    let a = c.args in
    let s = its_size (goal.at.returns-clause-value c).After-size_at-size in
    rw (
      sym c.none_set.ensures ∙ c.if-none_set.false,
      a_class (aligned a.shape.edition) (pool a.shape.arenas a.books.now class a.pool) (omega (arith, s, c.if-size-gt-LARGEST.false)),
    ) s
