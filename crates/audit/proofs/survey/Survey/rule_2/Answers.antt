-- `audit::survey::Survey::rule_2` looks at the spare words of the books, and asks the arenas and the pools.
use Rattle.rules.specs.Audit.{rule2}
use Rattle.audit.proofs.survey.Survey.rule_2.Goals as goal

pub returns : goal.returns
unfolding rule2
returns c = rw (c.word.ensures.0, c.word-2.ensures.0, c.word-3.ensures.0, c.arenas_keep_2.ensures, c.pools_keep_2.ensures)
