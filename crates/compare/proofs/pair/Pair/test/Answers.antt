-- `compare::pair::Pair::test` makes the tests in turn, and the last of them by the derived equality of shapes.
use Rattle.std.proofs.Common.{◌≡◌, ◌∙◌, Bool, true, false, not, ℕ, refl, sym, ap, if◌then◌else◌}
use Rattle.rules.specs.Outcome.{heap_of}
use Rattle.compare.specs.Order.{pair_number, by_shapes}
use Rattle.compare.proofs.pair.Pair.test.Goals.{After-ne}
use Rattle.compare.proofs.pair.Pair.test.Goals as goal

abbrev of_test : Bool → ℕ
of_test t = if t then 12 else 0

-- the number, by what the test of the shapes answers
number : (c : After-ne) (t : Bool) → c.ne.result ≡ t
    → let a = c.args in
    pair_number (heap_of a.memory.now a.books.now a.map.now) (heap_of a.memory2.now a.books2.now a.map2.now) ≡ of_test t
number c t e =
    let a = c.args in
    let one = c.in_ok-shape.ensures in
    let two = c.in_ok-shape2.ensures in
    by_shapes (heap_of a.memory.now a.books.now a.map.now) (heap_of a.memory2.now a.books2.now a.map2.now) _ _
    one.number two.number one.shape.read two.shape.read
    ∙ turned _ ∙ ap of_test (sym c.ne.ensures ∙ e)
  where
    turned : (same : Bool) → (if same then 0 else 12) ≡ of_test (not same)
    turned true = refl
    turned false = refl

pub returns-then-ne-clause-number : goal.returns-then-ne-clause-number
returns-then-ne-clause-number c = sym (number (goal.at.returns-then-ne-clause-number c).After-ne true c.if-ne.true)

pub returns-clause-number : goal.returns-clause-number
returns-clause-number c = sym (number (goal.at.returns-clause-number c).After-ne false c.if-ne.false)
