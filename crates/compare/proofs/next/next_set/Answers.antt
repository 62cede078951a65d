-- `compare::next::next_set` looks at what is left of the bit's own word, and then for the first word after it that is
-- not 0.
use Rattle.std.proofs.Common.{◌≡◌, ◌≢◌, List, Option, Some, ℕ, ◌+◌, ◌*◌, ◌/◌, ◌%◌, ◌^◌, ◌<◌, ◌≤◌, MatchOption, subst, arith, rules, tests}
use Rattle.std.proofs.lemmas.Iterator.{first_from_Range}
use Rattle.std.proofs.lemmas.List.{get_or_read}
use lib.Count.{trailing_le}
use Rattle.rules.specs.Books.{at}
use Rattle.compare.specs.Next.{Clear, clear_more, rest_clear, rest_first, words_clear}
use Rattle.compare.proofs.next.next_set.Goals.{Then-rest-ne0, Else-rest-ne0, After-find, In_ok-i}
use Rattle.compare.proofs.next.next_set.Goals as goal

pub returns-then-rest-ne0 : goal.returns-then-rest-ne0
returns-then-rest-ne0 c =
    let a = c.args in
    let rest = at a.map.now (8 * a.pool + a.k / 64) / 2 ^ (a.k % 64) in
    let some : 0 < rest = omega (arith, c.if-rest-ne0.true) in
    let f = rest_first a.map.now a.pool (a.k / 64) (a.k % 64) (omega arith) (c.type_inv.map (8 * a.pool + a.k / 64)).fits some in
    let q : 64 * (a.k / 64) + a.k % 64 ≡ a.k = omega arith in
    (omega arith, omega (arith, f.0), rw q at f.1, rw q at f.2)

-- the words after the bit's own are 0, or those before word i are and word i is not
abbrev Searched : ℕ → List ℕ → ℕ → Option ℕ → Type 0
Searched k map pool found = MatchOption found ((i : ℕ) → k ≤ i → i < 8 → at map (8 * pool + i) ≡ 0)
    (λ i. (k ≤ i) × (i < 8) × (at map (8 * pool + i) ≢ 0) × ((j : ℕ) → k ≤ j → j < i → at map (8 * pool + j) ≡ 0))

searched : (c : After-find) → let a = c.args in Searched (a.k / 64 + 1) a.map.now a.pool c.find.result
searched c =
    let a = c.args in
    first_from_Range _ _ _ _ (λ i. at a.map.now (8 * a.pool + i) ≢ 0) (λ i. at a.map.now (8 * a.pool + i) ≡ 0)
    c.find.ensures.ran
    (λ x q k. grind (arith, tests, get_or_read))
    (λ x q k. (search rules, grind (arith, tests, get_or_read)))

-- nothing is set before the word after the bit's own
own_clear : (c : Else-rest-ne0) → let a = c.args in Clear a.map.now a.pool a.k (64 * (a.k / 64 + 1))
own_clear c =
    let a = c.args in
    let q : 64 * (a.k / 64) + a.k % 64 ≡ a.k = omega arith in
    rw q at (rest_clear a.map.now a.pool (a.k / 64) (a.k % 64) (omega arith) c.if-rest-ne0.false)

pub returns-in_err-i : goal.returns-in_err-i
returns-in_err-i c =
    let a = c.args in
    let none = subst (Searched (a.k / 64 + 1) a.map.now a.pool) (c.in_err-i.was) (searched (goal.at.returns-in_err-i c).After-find) in
    rw c.from_residual.ensures (clear_more a.map.now a.pool (own_clear (goal.at.returns-in_err-i c).Else-rest-ne0)
    (words_clear a.map.now a.pool (a.k / 64 + 1) 8 none))

-- the word that is found
word : (c : In_ok-i) → let a = c.args in Searched (a.k / 64 + 1) a.map.now a.pool (Some c.in_ok-i.i)
word c = subst (Searched (c.args.k / 64 + 1) c.args.map.now c.args.pool) c.in_ok-i.was (searched (goal.at.In_ok-i c).After-find)

pub overflow_mul-result : goal.overflow_mul-result
overflow_mul-result c = omega (arith, (word c).1)

pub overflow_add-result-3 : goal.overflow_add-result-3
overflow_add-result-3 c =
    omega (arith, (word (goal.at.overflow_add-result-3 c).In_ok-i).1, trailing_le 64 (at c.args.map.now (8 * c.args.pool + c.in_ok-i.i)))

pub returns : goal.returns
returns c =
    let a = c.args in
    let i = c.in_ok-i.i in
    let here = word (goal.at.returns c).In_ok-i in
    let w = at a.map.now (8 * a.pool + i) in
    let whole : w / 2 ^ 0 ≡ w = omega arith in
    let none : 64 * i + 0 ≡ 64 * i = omega arith in
    let some : 0 < w = omega (arith, here.2) in
    let f = rw (whole, none) at (rest_first a.map.now a.pool i 0 (omega arith) (c.type_inv.map (8 * a.pool + i)).fits (rw whole some)) in
    let between = words_clear a.map.now a.pool (a.k / 64 + 1) i here.3 in (
      omega (arith, here.0),
      omega (arith, f.0, here.1),
      clear_more a.map.now a.pool (own_clear (goal.at.returns c).Else-rest-ne0) (clear_more a.map.now a.pool between f.1),
      f.2,
    )
