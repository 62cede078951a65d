-- `compare::blocks::kind_apart`: an offset that is live in both has another size.
use Rattle.std.proofs.Common.{◌∙◌, rules}
use Rattle.compare.specs.Kinds.{kind_number, apart, by_side_same}
use Rattle.compare.proofs.blocks.kind_apart.Goals as goal

pub returns : goal.returns
unfolding apart
returns c =
    let found = c.kind_by_side.ensures in
    found.2 ∙ by_side_same c.args.in_first c.args.in_second (kind_number found.0) 3 (λ e. let said = found.1 e in search rules)
