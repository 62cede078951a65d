-- `books::numbers::test_shape` refuses with the number of the first test that fails; past all of them A, P, the edition
-- and the lengths are known. Books of the right length reach the edition.
use Rattle.std.proofs.Common.{◌≡◌, true, ℕ, List, ap, ap₂, ◌∙◌, sym, arith, length, ltb, lt-ltb, le-ltb, leb-true}
use Rattle.rules.specs.Books.{in_range, is_edition, exact, at}
use Rattle.rules.specs.Outcome.{heap_of}
use Rattle.rules.specs.Numbers.{reach_number, range_number, edition_number, length_number, shape_number}
use Rattle.books.specs.Known.{Shaped, in_range_lem, shaped}
use Rattle.books.proofs.numbers.test_shape.Goals.{
  After-exact,
  After-in_range,
  After-is_edition,
  Else-books-lt2,
  Else-not-exact,
  Else-not-in_range,
}
use Rattle.books.proofs.numbers.test_shape.Goals as goal

-- the books reach words 0 and 1, past the first test
reaches : (c : Else-books-lt2) → ltb 1 (length c.args.books.now) ≡ true
reaches c = lt-ltb 1 (length c.args.books.now) (omega (arith, c.if-books-lt2.false))

-- whether A and P are in range is what the words there say, and whether the lengths are exact
range_is : (c : After-in_range) → let b = c.args.books.now in c.in_range.result ≡ in_range (at b 0) (at b 1)
range_is c = c.in_range.ensures ∙ ap₂ in_range c.word-arenas.ensures.0 c.word-pools.ensures.0

exact_is : (c : After-exact)
    → let a = c.args in
    let b = a.books.now in
    c.exact.result ≡ exact (at b 0) (at b 1) (heap_of a.memory.now b a.map.now)
exact_is c =
    let a = c.args in
    c.exact.ensures
    ∙ ap₂ (λ (A P : ℕ). exact A P (heap_of a.memory.now a.books.now a.map.now))
    c.word-arenas.ensures.0 c.word-pools.ensures.0

-- past the second test A and P are in range; past the third the lengths are exact
in_range_is : (c : Else-not-in_range) → let b = c.args.books.now in in_range (at b 0) (at b 1) ≡ true
in_range_is c = sym (range_is (goal.at.Else-not-in_range c).After-in_range) ∙ c.if-not-in_range.false

known : (c : Else-not-exact)
    → let a = c.args in
    let b = a.books.now in
    Shaped (at b 0) (at b 1) (length a.memory.now) (length b) (length a.map.now)
known c =
    let a = c.args in
    let b = a.books.now in
    shaped (heap_of a.memory.now b a.map.now) (at b 0) (at b 1) (in_range_is (goal.at.Else-not-exact c).Else-not-in_range)
    (sym (exact_is (goal.at.Else-not-exact c).After-exact) ∙ c.if-not-exact.false)

pub returns-then-books-lt2-clause-number : goal.returns-then-books-lt2-clause-number
unfolding shape_number reach_number
returns-then-books-lt2-clause-number c =
    let b = c.args.books.now in simp (le-ltb 1 (length b) (omega (arith, c.if-books-lt2.true)))

pub returns-then-not-in_range-clause-number : goal.returns-then-not-in_range-clause-number
unfolding shape_number reach_number range_number
returns-then-not-in_range-clause-number c =
    simp (
      reaches (goal.at.returns-then-not-in_range-clause-number c).Else-books-lt2,
      sym (range_is (goal.at.returns-then-not-in_range-clause-number c).After-in_range) ∙ c.if-not-in_range.true,
    )

pub exact-requires : goal.exact-requires
exact-requires c =
    let f = in_range_lem _ _ (sym c.in_range.ensures ∙ c.if-not-in_range.false) in
    (f.1, f.4)

pub returns-then-not-exact-clause-number : goal.returns-then-not-exact-clause-number
unfolding shape_number reach_number range_number length_number
returns-then-not-exact-clause-number c =
    simp (
      reaches (goal.at.returns-then-not-exact-clause-number c).Else-books-lt2,
      in_range_is (goal.at.returns-then-not-exact-clause-number c).Else-not-in_range,
      sym (exact_is (goal.at.returns-then-not-exact-clause-number c).After-exact) ∙ c.if-not-exact.true,
    ) c.wrong_length.ensures

pub shape_of-shape-requires : goal.shape_of-shape-requires
shape_of-shape-requires c = omega (arith, (known c).books)

abbrev words : After-is_edition → List ℕ
words c = c.args.books.now

edition_is : (c : After-is_edition) → c.is_edition.result ≡ is_edition (at (words c) 68)
edition_is c = c.is_edition.ensures ∙ ap (λ s. is_edition s.edition) c.shape_of-shape.ensures

long : (c : After-is_edition) → ltb 68 (length (words c)) ≡ true
long c = lt-ltb 68 (length (words c)) (omega (arith, (known (goal.at.After-is_edition c).Else-not-exact).books))

pub returns-then-not-is_edition-clause-number : goal.returns-then-not-is_edition-clause-number
unfolding shape_number reach_number range_number edition_number
returns-then-not-is_edition-clause-number c =
    let at-edition = (goal.at.returns-then-not-is_edition-clause-number c).After-is_edition in
    simp (
      reaches (goal.at.returns-then-not-is_edition-clause-number c).Else-books-lt2,
      in_range_is (goal.at.returns-then-not-is_edition-clause-number c).Else-not-in_range,
      long at-edition,
      sym (edition_is at-edition) ∙ c.if-not-is_edition.true,
    )

pub returns-clause-number : goal.returns-clause-number
unfolding shape_number reach_number range_number edition_number length_number
returns-clause-number c =
    let at-edition = (goal.at.returns-clause-number c).After-is_edition in
    simp (
      reaches (goal.at.returns-clause-number c).Else-books-lt2,
      in_range_is (goal.at.returns-clause-number c).Else-not-in_range,
      long at-edition,
      sym (edition_is at-edition) ∙ c.if-not-is_edition.false,
      sym (exact_is (goal.at.returns-clause-number c).After-exact) ∙ c.if-not-exact.false,
    )

pub returns-clause-shape : goal.returns-clause-shape
returns-clause-shape c =
    let read = c.shape_of-shape.ensures in record {
      read = read;
      shaped = rw read (known (goal.at.returns-clause-shape c).Else-not-exact);
      edition = leb-true _ 1 (sym c.is_edition.ensures ∙ c.if-not-is_edition.false);
    }
