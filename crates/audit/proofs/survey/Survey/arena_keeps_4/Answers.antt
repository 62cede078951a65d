-- `audit::survey::Survey::arena_keeps_4` makes the tests of `arena_keeps4`.
use Rattle.std.proofs.Common.{arith}
use Rattle.rules.specs.Audit.{arena_keeps4}
use Rattle.audit.proofs.survey.Survey.arena_keeps_4.Goals as goal

pub returns : goal.returns
unfolding arena_keeps4
returns c = grind arith
