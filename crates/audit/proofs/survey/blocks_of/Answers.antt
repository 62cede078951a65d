-- `audit::survey::blocks_of` meets its contract: a number whose size is above the largest is no class.
use mathlib.Core.Path.{ap}
use Prim.Native.Nat.{ℕ, ◌/◌}
use native.Mathlib.Omega.{arith}
use Rattle.rules.specs.Audit.{blocks_of}
use Rattle.books.specs.Sizes.{aligned, no_class_lem, a_class}
use Rattle.books.specs.Starts.{capacity_le}
use Rattle.audit.proofs.survey.blocks_of.Goals as goal

pub returns-then-size-gt-LARGEST : goal.returns-then-size-gt-LARGEST
unfolding blocks_of
returns-then-size-gt-LARGEST c =
    let a = c.args in
    (rw (no_class_lem (aligned a.edition) a.class (omega (arith, c.size_of-size.ensures.0, c.if-size-gt-LARGEST.true))), omega arith)

pub returns : goal.returns
unfolding blocks_of
returns c =
    let size = c.size_of-size in
    let a = c.args in (
      rw (a_class (aligned a.edition) a.class (omega (arith, size.ensures.0, c.if-size-gt-LARGEST.false))) (ap (λ (x : ℕ). 4048 / x) size.ensures.0),
      capacity_le size.result size.ensures.1,
    )
