-- `plans::ask::set_anew` meets its contract: it makes the two tests of the rules.
use Rattle.std.proofs.Common.{arith}
use Rattle.rules.specs.Ask.{set_anew}
use Rattle.plans.proofs.ask.set_anew.Goals as goal

pub returns : goal.returns
unfolding set_anew
returns c = grind arith
