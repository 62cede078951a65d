-- `plans::ask::from_usable` meets its contract: it takes the path that the rules take by the freed-pool head:
-- none, one of the pools, or none of them.
use Rattle.std.proofs.Common.{arith}
use Rattle.rules.specs.Ask.{from_usable}
use Rattle.plans.proofs.ask.from_usable.Goals as goal

pub returns-in-None : goal.returns-in-None
unfolding from_usable
returns-in-None c = grind arith

pub returns-in-Some : goal.returns-in-Some
unfolding from_usable
returns-in-Some c = grind arith

pub returns-in-Some-2 : goal.returns-in-Some-2
unfolding from_usable
returns-in-Some-2 c = grind arith
