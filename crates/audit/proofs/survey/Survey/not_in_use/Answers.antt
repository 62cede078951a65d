-- `audit::survey::Survey::not_in_use` counts the pools of the arena that are not in use.
use Rattle.std.proofs.Common.{not, ◌*◌, ◌+◌, ◌∙◌, rules, tests}
use Rattle.std.proofs.lemmas.Iterator.{YieldsList-from_range}
use Rattle.std.proofs.lemmas.Iterator.Consumers.{count_from_yields_List, YieldsList-from_filter}
use Rattle.rules.specs.Audit.{in_use}
use Rattle.audit.proofs.Ranges.{many_numbers}
use Rattle.audit.proofs.survey.Survey.not_in_use.Goals as goal

pub returns : goal.returns
returns c =
    let h = c.args.self.now.heap in
    count_from_yields_List c.filter.result _ c.count.ensures.ran
    (YieldsList-from_filter _ (λ i. not (in_use h.shape.pools h.books.now h.map.now (c.args.a * h.shape.pools + i)))
    (YieldsList-from_range 0 h.shape.pools h.shape.pools c.filter.ensures.source (search rules)) c.filter.ensures.closure
    (λ x b q k. search (rules, tests)))
    ∙ many_numbers _ h.shape.pools
