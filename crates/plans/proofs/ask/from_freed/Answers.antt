-- `plans::ask::from_freed` meets its contract: it makes the tests of the rules.
use Rattle.std.proofs.Common.{arith}
use Rattle.rules.specs.Ask.{from_freed}
use Rattle.plans.proofs.ask.from_freed.Goals as goal

pub returns : goal.returns
unfolding from_freed
returns c = grind arith
