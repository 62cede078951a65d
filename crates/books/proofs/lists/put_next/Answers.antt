-- `books::lists::put_next` writes the head where the link is 0,
-- and otherwise the next word of the member that it leads to.
use borrow.Author.Tests.{eq-eqb, ne_eqb}
use Rattle.books.proofs.lists.put_next.Goals as goal

pub returns-then-link-eq0 : goal.returns-then-link-eq0
returns-then-link-eq0 c = simp (eq-eqb _ _ c.if-link-eq0.true)

pub returns : goal.returns
returns c = simp (ne_eqb _ _ c.if-link-eq0.false, c.next_at-at.ensures)
