-- `plans::ask::from_unused` meets its contract: it makes the tests of the rules, for the first pool of the arena.
use Rattle.std.proofs.Common.{arith}
use Rattle.rules.specs.Ask.{from_unused}
use Rattle.plans.proofs.ask.from_unused.Goals as goal

pub returns : goal.returns
unfolding from_unused
returns c = grind arith
