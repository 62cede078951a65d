-- `audit::survey::Survey::arena_keeps_2` makes the tests of `arena_keeps2`.
use Rattle.std.proofs.Common.{arith}
use Rattle.rules.specs.Audit.{arena_keeps2}
use Rattle.audit.proofs.survey.Survey.arena_keeps_2.Goals as goal

pub returns : goal.returns
unfolding arena_keeps2
returns c = grind arith
