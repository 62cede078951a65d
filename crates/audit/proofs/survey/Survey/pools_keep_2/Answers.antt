-- `audit::survey::Survey::pools_keep_2` asks each pool in turn.
use Rattle.std.proofs.Common.{◌*◌, refl, rules, tests}
use Rattle.rules.specs.Audit.{pool_keeps2}
use Rattle.audit.proofs.Ranges.{folds_to}
use Rattle.audit.proofs.survey.Survey.pools_keep_2.Goals as goal

pub returns : goal.returns
returns c =
    let h = c.args.self.now.heap in
    folds_to (pool_keeps2 h.shape.arenas h.books.now) (h.shape.arenas * h.shape.pools) refl c.fold.ensures.ran (λ a x b q k. search (rules, tests))
