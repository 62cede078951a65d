-- `audit::survey::set_bits` adds up the ones of the pool's eight words.
use Rattle.std.proofs.Common.{◌≡◌, ◌*◌, ◌≤◌, ◌<◌, sym, ◌∙◌, take, drop, arith, rules}
use Rattle.std.specs.List.{sum_by}
use Rattle.std.specs.Int.Count.{ones_in}
use Rattle.rules.specs.Say.{how_many}
use Rattle.rules.specs.Books.{is_set}
use Rattle.bits.specs.Map.{not_set}
use Rattle.sequences.specs.Counting.{many_none, many_le}
use Rattle.audit.specs.Bits.{words_bits}
use Rattle.audit.proofs.survey.set_bits.Goals.{Else-none_set}
use Rattle.audit.proofs.survey.set_bits.Goals as goal

pub returns-then-none_set : goal.returns-then-none_set
returns-then-none_set c = (
  sym (many_none (is_set c.args.map.now c.args.n) 512 (not_set c.args.map.now c.args.n (sym c.none_set.ensures ∙ c.if-none_set.true))),
  omega arith,
)

-- the ones of the words are the set bits, and no more than 512
ones : (c : Else-none_set)
    → let a = c.args in
    let added = sum_by (ones_in 64) (take 8 (drop (8 * a.n) a.map.now)) in
    (added ≡ how_many (is_set a.map.now a.n) 512) × (added ≤ 512)
ones c =
    let k = words_bits c.args.map.now c.args.n 8 (omega arith) in
    (k, omega (arith, k, many_le (is_set c.args.map.now c.args.n) 512))

pub sum-requires-clause-fits : goal.sum-requires-clause-fits
sum-requires-clause-fits c =
    let a = c.args in
    let few = (ones (goal.at.sum-requires-clause-fits c).Else-none_set).1 in
    let fits : sum_by (ones_in 64) (take 8 (drop (8 * a.n) a.map.now)) < 18446744073709551616 = omega (arith, few) in
    search rules

pub returns : goal.returns
returns c =
    let a = c.args in
    let added : c.sum.result ≡ sum_by (ones_in 64) (take 8 (drop (8 * a.n) a.map.now)) = search rules in
    let t = ones (goal.at.returns c).Else-none_set in
    (added ∙ t.0, omega (arith, added, t.1))
