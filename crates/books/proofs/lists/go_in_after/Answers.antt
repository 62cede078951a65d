-- `books::lists::go_in_after` joins behind the member, between its link and its next word.
use Rattle.books.proofs.lists.go_in_after.Goals as goal

pub returns : goal.returns
returns c =
    simp (c.join_by.ensures, c.link_to.ensures)
