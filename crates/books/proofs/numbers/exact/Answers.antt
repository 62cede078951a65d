-- `books::numbers::exact` answers the three tests of the lengths as they are defined:
-- with A and A × P in range no length wraps.
use mathlib.Core.Path.{refl}
use Rattle.rules.specs.Books.{exact}
use Rattle.books.proofs.numbers.exact.Goals as goal

pub returns : goal.returns
unfolding exact
returns c = refl
