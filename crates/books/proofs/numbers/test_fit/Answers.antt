-- `books::numbers::test_fit` refuses with the number of the first test that fails; past all three A, P, the edition and
-- the lengths are known.
use Rattle.std.proofs.Common.{◌≡◌, true, sym, ◌∙◌, leb-true}
use Rattle.rules.specs.Books.{in_range, is_edition}
use Rattle.rules.specs.Outcome.{heap_of}
use Rattle.rules.specs.Numbers.{range_number, edition_number, length_number, fit_number}
use Rattle.books.specs.Known.{in_range_lem, shaped}
use Rattle.books.proofs.numbers.test_fit.Goals.{Else-not-in_range, Else-not-is_edition, After-exact}
use Rattle.books.proofs.numbers.test_fit.Goals as goal

-- A and P are in range, past the first test
ranged : (c : Else-not-in_range) → in_range c.args.shape.arenas c.args.shape.pools ≡ true
ranged c = sym c.in_range.ensures ∙ c.if-not-in_range.false

pub returns-then-not-in_range-clause-number : goal.returns-then-not-in_range-clause-number
unfolding fit_number range_number
returns-then-not-in_range-clause-number c = simp (sym c.in_range.ensures ∙ c.if-not-in_range.true)

-- the edition is one, past the second test
told : (c : Else-not-is_edition) → is_edition c.args.shape.edition ≡ true
told c = sym c.is_edition.ensures ∙ c.if-not-is_edition.false

pub returns-then-not-is_edition-clause-number : goal.returns-then-not-is_edition-clause-number
unfolding fit_number range_number edition_number
returns-then-not-is_edition-clause-number c =
    simp (ranged (goal.at.returns-then-not-is_edition-clause-number c).Else-not-in_range, sym c.is_edition.ensures ∙ c.if-not-is_edition.true)

pub exact-requires : goal.exact-requires
exact-requires c =
    let f = in_range_lem _ _ (ranged (goal.at.exact-requires c).Else-not-in_range) in
    (f.1, f.4)

pub returns-then-not-exact-clause-number : goal.returns-then-not-exact-clause-number
unfolding fit_number range_number edition_number length_number
returns-then-not-exact-clause-number c =
    simp (
      ranged (goal.at.returns-then-not-exact-clause-number c).Else-not-in_range,
      told (goal.at.returns-then-not-exact-clause-number c).Else-not-is_edition,
      sym c.exact.ensures ∙ c.if-not-exact.true,
    )

pub returns-clause-number : goal.returns-clause-number
unfolding fit_number range_number edition_number length_number
returns-clause-number c =
    simp (
      ranged (goal.at.returns-clause-number c).Else-not-in_range,
      told (goal.at.returns-clause-number c).Else-not-is_edition,
      sym c.exact.ensures ∙ c.if-not-exact.false,
    )

pub returns-clause-fits : goal.returns-clause-fits
returns-clause-fits c =
    let a = c.args in
    let h = heap_of a.memory.now a.books.now a.map.now in (
      shaped h _ _ (ranged (goal.at.returns-clause-fits c).Else-not-in_range) (sym c.exact.ensures ∙ c.if-not-exact.false),
      leb-true _ 1 (told (goal.at.returns-clause-fits c).Else-not-is_edition),
    )
