-- `plans::ask::take_again` meets its contract: it takes the path that the rules take by the pool's class.
use Rattle.std.proofs.Common.{arith}
use Rattle.rules.specs.Ask.{take_again}
use Rattle.plans.proofs.ask.take_again.Goals as goal

pub returns-then-index-class : goal.returns-then-index-class
unfolding take_again
returns-then-index-class c = grind arith

pub returns : goal.returns
unfolding take_again
returns c = grind arith
