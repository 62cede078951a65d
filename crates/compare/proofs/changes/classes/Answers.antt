-- `compare::changes::classes`: 64 of edition eight, and 32 of sixteen.
use Rattle.std.proofs.Common.{arith}
use Rattle.books.specs.Sizes.{of_eight, of_sixteen}
use Rattle.compare.proofs.changes.classes.Goals as goal

pub returns-then-edition-eq-EIGHT : goal.returns-then-edition-eq-EIGHT
returns-then-edition-eq-EIGHT c = (rw (of_eight c.args.edition c.if-edition-eq-EIGHT.true), omega arith)

pub returns : goal.returns
returns c = (rw (of_sixteen c.args.edition c.if-edition-eq-EIGHT.false), omega arith)
