-- `audit::survey::Survey::in_use` asks for a set bit of a carved pool.
use Rattle.std.proofs.Common.{arith}
use Rattle.rules.specs.Audit.{in_use}
use Rattle.audit.proofs.survey.Survey.in_use.Goals as goal

pub returns : goal.returns
unfolding in_use
returns c = grind (arith, c.args.self.now.surveyed.counted c.args.n c.requires)
