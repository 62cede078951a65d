-- `audit::survey::Survey::arena_keeps_9` makes the tests of `arena_keeps9`: it reads the next arena's word only where
-- there is a next.
use Rattle.std.proofs.Common.{arith}
use Rattle.rules.specs.Audit.{arena_keeps9}
use Rattle.audit.proofs.survey.Survey.arena_keeps_9.Goals as goal

pub returns-then-not-is_followed : goal.returns-then-not-is_followed
unfolding arena_keeps9
returns-then-not-is_followed c = grind arith

pub returns : goal.returns
unfolding arena_keeps9
returns c = grind arith
