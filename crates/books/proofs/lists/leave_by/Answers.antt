-- `books::lists::leave_by` writes what leaving a list writes, in its order: the two callees keep the length,
-- so that own words are inside.
use Rattle.rules.specs.Lists.{leave_by}
use native.Mathlib.Omega.{arith}
use lib.ListN.{length-set}
use Rattle.books.proofs.lists.leave_by.Goals as goal

pub bounds-books-at-2 : goal.bounds-books-at-2
bounds-books-at-2 c = simp length-set (omega arith)

pub shape_of-books : goal.shape_of-books
shape_of-books c =
    simp (length-set, c.put_previous.auto.books, c.put_next.auto.books)

pub returns : goal.returns
unfolding leave_by
returns c = cc
