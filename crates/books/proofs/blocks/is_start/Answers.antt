-- `books::blocks::is_start` answers the three tests of a start in turn: the first that fails decides.
use borrow.Author.Tests.{le-leb, lt-leb}
use Rattle.rules.specs.Blocks.{is_start}
use Rattle.books.proofs.blocks.is_start.Goals as goal

pub returns-then-o-lt48 : goal.returns-then-o-lt48
unfolding is_start
returns-then-o-lt48 c = simp (lt-leb _ _ c.if-o-lt48.true)

pub returns-then-last-o : goal.returns-then-last-o
unfolding is_start
returns-then-last-o c = simp (le-leb _ _ c.if-o-lt48.false, lt-leb _ _ c.if-last-o.true)

pub returns : goal.returns
unfolding is_start
returns c = simp (le-leb _ _ c.if-o-lt48.false, le-leb _ _ c.if-last-o.false)
