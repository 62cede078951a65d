-- `books::lists::join_by` writes what joining a list writes, in its order: the callee keeps the length,
-- so that the head is inside.
use Rattle.rules.specs.Lists.{join_by}
use native.Mathlib.Omega.{arith}
use lib.ListN.{length-set}
use Rattle.books.proofs.lists.join_by.Goals as goal

pub bounds-books-at-2 : goal.bounds-books-at-2
bounds-books-at-2 c = simp length-set (omega arith)

pub shape_of-books : goal.shape_of-books
shape_of-books c = simp (length-set, c.put_previous.auto.books)

pub returns : goal.returns
unfolding join_by
returns c =
    simp (c.put_previous.ensures, c.link_to-link.ensures)
