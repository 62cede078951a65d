-- `books::numbers::wrong_length` refuses with 1 for another edition that the books reach, and otherwise with 2.
use Rattle.std.proofs.Common.{◌≡◌, true, ap, ◌∙◌, sym, arith, length, ltb, lt-ltb, le-ltb}
use Rattle.rules.specs.Books.{is_edition, at}
use Rattle.rules.specs.Numbers.{reach_number, edition_number}
use Rattle.books.proofs.numbers.wrong_length.Goals.{After-is_edition, Else-books-le-EDITION}
use Rattle.books.proofs.numbers.wrong_length.Goals as goal

-- past the first test the books reach the edition
reaches : (c : Else-books-le-EDITION) → ltb 68 (length c.args.books.now) ≡ true
reaches c = lt-ltb 68 (length c.args.books.now) (omega (arith, c.if-books-le-EDITION.false))

pub returns-then-books-le-EDITION : goal.returns-then-books-le-EDITION
unfolding reach_number
returns-then-books-le-EDITION c =
    let b = c.args.books.now in
    simp (le-ltb 68 (length b) (omega (arith, c.if-books-le-EDITION.true)))

-- what is tested is the books' edition
edition_is : (c : After-is_edition)
    → c.is_edition.result ≡ is_edition (at c.args.books.now 68)
edition_is c = c.is_edition.ensures ∙ ap is_edition c.word.ensures.0

pub returns-then-not-is_edition : goal.returns-then-not-is_edition
unfolding reach_number edition_number
returns-then-not-is_edition c =
    simp (
      reaches (goal.at.returns-then-not-is_edition c).Else-books-le-EDITION,
      (sym (edition_is (goal.at.returns-then-not-is_edition c).After-is_edition) ∙ c.if-not-is_edition.true),
    )

pub returns : goal.returns
unfolding reach_number edition_number
returns c =
    simp (
      reaches (goal.at.returns c).Else-books-le-EDITION,
      (sym (edition_is (goal.at.returns c).After-is_edition) ∙ c.if-not-is_edition.false),
    )
