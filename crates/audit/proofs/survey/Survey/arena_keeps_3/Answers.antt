-- `audit::survey::Survey::arena_keeps_3` makes the tests of `arena_keeps3`.
use Rattle.std.proofs.Common.{arith}
use Rattle.rules.specs.Audit.{arena_keeps3}
use Rattle.audit.proofs.survey.Survey.arena_keeps_3.Goals as goal

pub returns : goal.returns
unfolding arena_keeps3
returns c = grind arith
