-- `audit::survey::Survey::arena_keeps_6` makes the tests of `arena_keeps6`.
use Rattle.std.proofs.Common.{arith}
use Rattle.rules.specs.Audit.{arena_keeps6}
use Rattle.audit.proofs.survey.Survey.arena_keeps_6.Goals as goal

pub returns : goal.returns
unfolding arena_keeps6
returns c = grind arith
