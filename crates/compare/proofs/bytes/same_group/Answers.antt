-- `compare::bytes::same_group` folds over the bytes: its answer of those so far is that of their run.
use Rattle.std.proofs.Common.{◌≡◌, ◌+◌, ◌-◌, ◌&&◌, ℕ, nat_eq, refl, ap, ◌∙◌, arith, rules, tests}
use Rattle.std.specs.List.{list_all}
use Rattle.std.proofs.iter.Yields.{nat_range_steps}
use Rattle.std.proofs.lemmas.Fn.{fold_over}
use Rattle.std.proofs.lemmas.Iterator.{YieldsList-from_range}
use Rattle.rules.specs.Books.{at}
use Rattle.rules.specs.Compare.{same_bytes}
use Rattle.compare.specs.Bytes.{all_push, run_of}
use Rattle.compare.proofs.bytes.same_group.Goals as goal

pub returns : goal.returns
returns c =
    let a = c.args in
    let begin : a.at + 0 ≡ a.at = omega arith in
    let long : a.group - 0 ≡ a.group = omega arith in
    fold_over nat_range_steps (λ x. x) _ (λ ys b. b ≡ list_all (λ i. nat_eq (at a.first.now (a.at + i)) (at a.second.now (a.at + i))) ys) _
    (λ ys s x b f' j k.
    let q : b ≡ (nat_eq (at a.first.now (a.at + x)) (at a.second.now (a.at + x)) && s) = search (rules, tests) in
    (q ∙ all_push _ ys x s j, search rules))
    (record { start = 0; end = a.group }) _ _ _ (YieldsList-from_range 0 a.group a.group refl long).runs refl c.fold.ensures.ran
    ∙ run_of a.first.now a.second.now a.at 0 a.group
    ∙ ap (λ (o : ℕ). same_bytes a.first.now a.second.now o a.group) begin
