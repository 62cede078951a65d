-- `audit::survey::Survey::arenas_keep_6` asks each arena in turn.
use Rattle.std.proofs.Common.{refl, rules, tests}
use Rattle.audit.proofs.Ranges.{all_is}
use Rattle.audit.proofs.survey.Survey.arenas_keep_6.Goals as goal

pub returns : goal.returns
returns c = all_is _ _ refl c.all.ensures.ran (λ x b q k. search (rules, tests))
