-- `compare::blocks::kind_together`: a block that is live in both has other bytes, or none differ.
use Rattle.std.proofs.Common.{◌∙◌, rules}
use Rattle.compare.specs.Kinds.{kind_number, together, by_side_same}
use Rattle.compare.proofs.blocks.kind_together.Goals as goal

pub returns : goal.returns
unfolding together
returns c =
    let found = c.kind_by_side.ensures in
    found.2 ∙ by_side_same c.args.in_first c.args.in_second (kind_number found.0) _ (λ e. let said = found.1 e in search rules)
