-- `audit::survey::arena_home_of` makes the tests of `arena_home_of` in turn.
use Rattle.std.proofs.Common.{arith}
use Rattle.audit.specs.Survey.{arena_home_of}
use Rattle.audit.proofs.survey.arena_home_of.Goals as goal

pub returns-then-is_open-eq0 : goal.returns-then-is_open-eq0
unfolding arena_home_of
returns-then-is_open-eq0 c = grind arith

pub returns-then-is_open-ne1 : goal.returns-then-is_open-ne1
unfolding arena_home_of
returns-then-is_open-ne1 c = grind arith

pub returns-then-arena_word-eq0 : goal.returns-then-arena_word-eq0
unfolding arena_home_of
returns-then-arena_word-eq0 c = grind arith

pub returns : goal.returns
unfolding arena_home_of
returns c = grind arith
