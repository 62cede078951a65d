-- `audit::survey::Survey::pools_keep_6` asks each pool in turn.
use Rattle.std.proofs.Common.{rules, tests}
use Rattle.audit.proofs.Ranges.{folds_to}
use Rattle.audit.proofs.survey.Survey.pools_keep_6.Goals as goal

pub returns : goal.returns
returns c = folds_to _ _ c.args.self.now.surveyed.counts_long c.fold.ensures.ran (λ a x b q k. search (rules, tests))
