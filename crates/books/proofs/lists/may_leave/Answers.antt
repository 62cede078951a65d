-- `books::lists::may_leave` meets its contract: it compares both links with the bound, as the rule does.
use Rattle.books.proofs.lists.may_leave.Goals as goal

pub returns : goal.returns
returns c = cc
