-- `books::numbers::is_edition` answers the test of an edition as it is defined.
use mathlib.Core.Path.{refl}
use Rattle.books.proofs.numbers.is_edition.Goals as goal

pub returns : goal.returns
returns c = refl
