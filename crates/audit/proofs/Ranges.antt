-- What chains over a range of numbers answer, in the words of the rules.
use Rattle.std.proofs.Common.{◌≡◌, refl, Bool, true, false, List, [], ◌∷◌, ◌++◌, ℕ, zero, suc, ◌+◌, ◌-◌, if◌then◌else◌, length}
use Rattle.std.proofs.Common.{sym, ap, ◌∙◌, add-one, arith, MatchOption, Option, filter, count_by}
use Rattle.std.proofs.Math.Bool.{◌&&◌, and_comm, and-true}
use Rattle.std.proofs.lemmas.List.{map-id}
use Rattle.std.proofs.lemmas.List.FromFn.{map-range_with_len_more}
use Rattle.std.proofs.lemmas.List.Folds.{list_all-append}
use Rattle.std.proofs.lemmas.List.Sums.{sum_by_push, length-filter, fold-append}
use Rattle.std.proofs.lemmas.Iterator.{YieldsList-from_range}
use Rattle.std.proofs.lemmas.Iterator.Consumers.{fold_from_yields_List}
use Rattle.std.proofs.lemmas.Iterator.Search.{all_from_yields_List}
use Rattle.std.proofs.iter.Yields.{nat_range_steps}
use Rattle.std.specs.List.{list_all, fold, range_with_len, FoldsTo}
use Rattle.std.specs.Fn.{Called}
use Rattle.std.specs.Iterator.{YieldsThen, Drains}
use Rattle.std.specs.declared.ops.Range.{Range}
use denote.Param.Members.{Mut}
use Rattle.rules.specs.Say.{all_below, how_many}
use Rattle.audit.specs.Turns.{all_same}

-- the numbers of a range, by the last of them
range-more : (a n : ℕ) → range_with_len a (suc n) ≡ range_with_len a n ++ (a + n) ∷ []
range-more a n =
    ap (range_with_len a) (sym (add-one n)) ∙ sym (map-id (range_with_len a (n + 1)))
    ∙ map-range_with_len_more (λ (x : ℕ). x) a n (a + n) refl
    ∙ ap (λ (xs : List ℕ). xs ++ (a + n) ∷ []) (map-id (range_with_len a n))

-- all of them pass
all_numbers : (test : ℕ → Bool) (a n : ℕ) → list_all test (range_with_len a n) ≡ all_below (λ i. test (a + i)) n
unfolding all_below
all_numbers test a zero = refl
all_numbers test a (suc n) =
    ap (list_all test) (range-more a n) ∙ list_all-append test (range_with_len a n) ((a + n) ∷ [])
    ∙ rw (all_numbers test a n, and-true (test (a + n))) (and_comm (all_below (λ i. test (a + i)) n) (test (a + n)))

-- what `(a..z).all(f)` answers, where each call of f answers the test; y, where it begins, being a
pub all_from : {F : Type 0} {g : Mut F (ℕ × Unit {0}) Bool} {u : Range ℕ} {f : F} {r : Bool} {y z : ℕ}
    (test : ℕ → Bool) (a : ℕ)
    → y ≡ a
    → (xs : List ℕ) × (o : Option ℕ) × (j : F) × YieldsThen nat_range_steps (record { start = y; end = z }) xs o u
    × FoldsTo (λ p x q. Called g p (x, tt) true q) f xs j
    × MatchOption o (r ≡ true) (λ x. (r ≡ false) × ((h : F) × Called g j (x, tt) false h))
    → ((x : ℕ) (b : Bool) (q : F) → Called g f (x, tt) b q → (q ≡ f) × (b ≡ test x))
    → r ≡ all_below (λ i. test (a + i)) (z - a)
all_from {y = y} {z = z} test a e ran each =
    all_from_yields_List test _ _ _ ran (YieldsList-from_range y z (z - y) refl refl) each
    ∙ rw e (all_numbers test a (z - a))

-- and what `(0..z).all(f)` does, z being n
pub all_is : {F : Type 0} {g : Mut F (ℕ × Unit {0}) Bool} {u : Range ℕ} {f : F} {r : Bool} {z : ℕ}
    (test : ℕ → Bool) (n : ℕ)
    → z ≡ n
    → (xs : List ℕ) × (o : Option ℕ) × (j : F) × YieldsThen nat_range_steps (record { start = 0; end = z }) xs o u
    × FoldsTo (λ p x q. Called g p (x, tt) true q) f xs j
    × MatchOption o (r ≡ true) (λ x. (r ≡ false) × ((h : F) × Called g j (x, tt) false h))
    → ((x : ℕ) (b : Bool) (q : F) → Called g f (x, tt) b q → (q ≡ f) × (b ≡ test x))
    → r ≡ all_below test n
all_is {z = z} test n e ran each =
    let all : z - 0 ≡ n = omega (arith, e) in
    rw all at (all_from test 0 refl ran each) ∙ all_same test (λ i. test (0 + i)) n (λ k l. ap test (omega arith))

-- all of them pass, by a test more for each
all_folded : (test : ℕ → Bool) (n : ℕ) → fold (λ kept x. test x && kept) true (range_with_len 0 n) ≡ all_below test n
unfolding all_below
all_folded test zero = refl
all_folded test (suc n) =
    let z : 0 + n ≡ n = omega arith in
    ap (fold (λ kept x. test x && kept) true) (range-more 0 n)
    ∙ fold-append (λ kept x. test x && kept) true (range_with_len 0 n) ((0 + n) ∷ []) ∙ rw (z, all_folded test n) refl

-- what `(0..z).fold(true, f)` answers, where each call of f makes the test besides, z being n
pub folds_to : {F : Type 0} {g : Mut F (Bool × (ℕ × Unit {0})) Bool} {f : F} {r : Bool} {z : ℕ}
    (test : ℕ → Bool) (n : ℕ)
    → z ≡ n
    → (xs : List ℕ) × (q : F) × Drains nat_range_steps (record { start = 0; end = z }) xs
    × FoldsTo {P = F × Bool} (λ a x b. Called g a.0 (a.1, (x, tt)) b.1 b.0) (f, true) xs (q, r)
    → ((a : Bool) (x : ℕ) (b : Bool) (q : F) → Called g f (a, (x, tt)) b q → (q ≡ f) × (b ≡ (test x && a)))
    → r ≡ all_below test n
folds_to {g = g} {r = r} {z = z} test n e ran each =
    let all : z - 0 ≡ n = omega (arith, e) in
    fold_from_yields_List g (λ kept x. test x && kept) true r ran (YieldsList-from_range 0 z (z - 0) refl refl) each
    ∙ rw all (all_folded test n)

-- how many of the numbers below n pass
pub many_numbers : (test : ℕ → Bool) (n : ℕ) → length (filter test (range_with_len 0 n)) ≡ how_many test n
unfolding how_many
many_numbers test n = length-filter test (range_with_len 0 n) ∙ go n
  where
    go : (n : ℕ) → count_by test (range_with_len 0 n) ≡ how_many test n
    go zero = refl
    go (suc n) =
        let z : 0 + n ≡ n = omega arith in
        ap (count_by test) (range-more 0 n) ∙ sum_by_push (λ k. if test k then 1 else 0) (range_with_len 0 n) (0 + n)
        ∙ rw z (omega (arith, go n))
