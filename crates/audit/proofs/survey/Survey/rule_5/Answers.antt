-- `audit::survey::Survey::rule_5` asks each pool in turn.
use Rattle.std.proofs.Common.{rules, tests}
use Rattle.audit.proofs.Ranges.{all_is}
use Rattle.audit.proofs.survey.Survey.rule_5.Goals as goal

pub returns : goal.returns
returns c = all_is _ _ c.args.self.now.surveyed.counts_long c.all.ensures.ran (λ x b q k. search (rules, tests))
