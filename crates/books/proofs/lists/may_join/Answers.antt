-- `books::lists::may_join` meets its contract: it compares the head with the bound, as the rule does.
use Rattle.books.proofs.lists.may_join.Goals as goal

pub returns : goal.returns
returns c = cc
