-- `compare::bytes::same_groups` asks each group.
use Rattle.std.proofs.Common.{◌≡◌, ◌+◌, ◌*◌, ◌-◌, ◌∙◌, ℕ, ap, refl, arith, rules, tests}
use Rattle.std.proofs.lemmas.Iterator.{YieldsList-from_range}
use Rattle.std.proofs.lemmas.Iterator.Search.{all_from_yields_List}
use Rattle.rules.specs.Compare.{same_bytes}
use Rattle.compare.specs.Bytes.{run_groups}
use Rattle.compare.proofs.bytes.same_groups.Goals as goal

pub returns : goal.returns
returns c =
    let a = c.args in
    let long : a.groups - 0 ≡ a.groups = omega arith in
    let begin : a.at + 0 * a.group ≡ a.at = omega arith in
    all_from_yields_List (λ i. same_bytes a.first.now a.second.now (a.at + i * a.group) a.group) _ _ _ c.all.ensures.ran
    (YieldsList-from_range 0 a.groups a.groups refl long) (λ x b q k. search (rules, tests))
    ∙ run_groups a.first.now a.second.now a.at a.group 0 a.groups
    ∙ ap (λ (o : ℕ). same_bytes a.first.now a.second.now o (a.groups * a.group)) begin
