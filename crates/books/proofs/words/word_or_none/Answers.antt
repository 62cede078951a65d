-- `books::words::word_or_none` reads the word where there is one.
use mathlib.Core.Path.{sym}
use native.Mathlib.Omega.{arith}
use lib.ListN.{get_or-eq_default}
use Rattle.books.proofs.words.word_or_none.Goals as goal

pub returns-then-books-i : goal.returns-then-books-i
returns-then-books-i c = let a = c.args in (sym (get_or-eq_default a.books.now 0 c.if-books-i.true), omega arith)
