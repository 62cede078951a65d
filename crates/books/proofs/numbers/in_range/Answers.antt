-- `books::numbers::in_range` answers the four tests of A and P as they are defined.
use mathlib.Core.Path.{refl}
use Rattle.rules.specs.Books.{in_range}
use Rattle.books.proofs.numbers.in_range.Goals as goal

pub returns : goal.returns
unfolding in_range
returns c = refl
