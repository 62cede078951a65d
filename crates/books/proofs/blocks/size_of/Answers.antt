-- `books::blocks::size_of` multiplies by the alignment of the edition.
use mathlib.Core.Path.{refl}
use native.Mathlib.Omega.{arith}
use Rattle.books.specs.Sizes.{of_eight, of_sixteen}
use Rattle.books.proofs.blocks.size_of.Goals as goal

pub returns-then-edition-eq-EIGHT : goal.returns-then-edition-eq-EIGHT
returns-then-edition-eq-EIGHT c = rw (of_eight _ c.if-edition-eq-EIGHT.true) (refl, omega arith, λ l. omega arith)

pub returns : goal.returns
returns c = rw (of_sixteen _ c.if-edition-eq-EIGHT.false) (refl, omega arith, λ l. omega arith)
