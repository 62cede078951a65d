-- The bytes of two memories, compared in runs.
-- Assumes nothing.
use Rattle.std.specs.Prelude.{◌≡◌, refl, Bool, true, false, ◌&&◌, List, [], ◌∷◌, ◌++◌, ℕ, zero, suc, ◌+◌, ◌*◌, eqb, nat_eq}
use Rattle.std.specs.List.{list_all, range_with_len}
use Rattle.std.proofs.Common.{sym, ap, ◌∙◌, suc-mul, arith}
use Rattle.std.proofs.lemmas.List.Folds.{list_all-append}
use Rattle.rules.specs.Say.{all_below}
use Rattle.rules.specs.Books.{at}
use Rattle.rules.specs.Compare.{same_bytes}

-- all pass, with one more
pub all_push : (f : ℕ → Bool) (ys : List ℕ) (y : ℕ) (a : Bool) → a ≡ list_all f ys
    → (f y && a) ≡ list_all f (ys ++ (y ∷ []))
all_push f ys y a e =
    ap (λ (x : Bool). f y && x) e ∙ turned (f y) (list_all f ys) ∙ sym (list_all-append f ys (y ∷ []))
  where
    turned : (t u : Bool) → t && u ≡ u && (t && true)
    turned true true = refl
    turned true false = refl
    turned false true = refl
    turned false false = refl

module _ (m m' : List ℕ) where
  -- a run is the same where its front is and what comes after it is
  pub run_parts : (o k n : ℕ) → same_bytes m m' o k && same_bytes m m' (o + k) n ≡ same_bytes m m' o (k + n)
  unfolding all_below
  run_parts o k zero =
      let z : k + 0 ≡ k = omega arith in rw z (true_last (same_bytes m m' o k))
    where
      true_last : (t : Bool) → t && true ≡ t
      true_last true = refl
      true_last false = refl
  run_parts o k (suc n) =
      let z : k + suc n ≡ suc (k + n) = omega arith in
      let t : o + k + n ≡ o + (k + n) = omega arith in
      rw (z, t) (swap (same_bytes m m' o k) (eqb (at m (o + (k + n))) (at m' (o + (k + n)))) (same_bytes m m' (o + k) n)
      ∙ ap (λ (x : Bool). eqb (at m (o + (k + n))) (at m' (o + (k + n))) && x) (run_parts o k n))
    where
      swap : (t u v : Bool) → t && (u && v) ≡ u && (t && v)
      swap true u v = refl
      swap false true v = refl
      swap false false v = refl

  -- and where each of its bytes is
  pub run_of : (o j n : ℕ)
      → list_all (λ i. nat_eq (at m (o + i)) (at m' (o + i))) (range_with_len j n) ≡ same_bytes m m' (o + j) n
  unfolding all_below
  run_of o j zero = refl
  run_of o j (suc n) =
      let z : o + j + 0 ≡ o + j = omega arith in
      let e : o + (j + 1) ≡ o + j + 1 = omega arith in
      let f : 1 + n ≡ suc n = omega arith in
      let rest = run_of o (j + 1) n ∙ ap (λ (x : ℕ). same_bytes m m' x n) e in
      rw rest (rw (z, f) at (front (nat_eq (at m (o + j + 0)) (at m' (o + j + 0))) (same_bytes m m' (o + j + 1) n) ∙ run_parts (o + j) 1 n))
    where
      front : (t u : Bool) → t && u ≡ (t && true) && u
      front true u = refl
      front false u = refl

  -- and where each of its groups is
  pub run_groups : (o n j k : ℕ)
      → list_all (λ i. same_bytes m m' (o + i * n) n) (range_with_len j k) ≡ same_bytes m m' (o + j * n) (k * n)
  unfolding all_below
  run_groups o n j zero = let z : 0 * n ≡ 0 = omega arith in rw z
  run_groups o n j (suc k) =
      let e : suc k * n ≡ n + k * n = omega (arith, suc-mul k n) in
      let f : o + (j + 1) * n ≡ o + j * n + n = omega (arith, suc-mul j n) in
      ap (λ (x : Bool). same_bytes m m' (o + j * n) n && x) (run_groups o n (j + 1) k ∙ ap (λ (x : ℕ). same_bytes m m' x (k * n)) f)
      ∙ run_parts (o + j * n) n (k * n) ∙ ap (same_bytes m m' (o + j * n)) (sym e)
