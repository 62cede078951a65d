-- `books::numbers::test_size` makes the test of the rules.
use Rattle.rules.specs.Numbers.{size_number}
use Rattle.books.proofs.numbers.test_size.Goals as goal

pub returns-then-n-clause-number : goal.returns-then-n-clause-number
unfolding size_number
returns-then-n-clause-number c = rw c.if-n.true

pub returns-clause-number : goal.returns-clause-number
unfolding size_number
returns-clause-number c = rw c.if-n.false
