-- The laws of `sets l i vs`, the list l with vs stored from place i on.
-- Assumes nothing.
use Rattle.std.specs.Prelude.{◌≡◌, refl, List, [], ◌∷◌, ◌++◌, ◌⊎◌, ℕ, suc, ◌+◌, ◌≤◌, ◌<◌, length, get_or, set, drop}
use Rattle.std.proofs.Common.{sym, ap, ◌∙◌, append-nil, inl, inr, suc-add, add-suc, add-zero, arith, get_or-set_other}
use Rattle.std.proofs.lemmas.List.Edits.{sets, sets-eq}
use Rattle.std.proofs.Math.Seq.{drop-length}

-- two lists stored one after the other
pub sets_append : (l : List ℕ) (i : ℕ) (xs ys : List ℕ) → sets l i (xs ++ ys) ≡ sets (sets l i xs) (i + length xs) ys
sets_append l i [] ys = ap (λ (k : ℕ). sets l k ys) (sym (add-zero i))
sets_append l i (x ∷ xs) ys =
    sets_append (set l i x) (suc i) xs ys
    ∙ ap (λ (k : ℕ). sets (sets l i (x ∷ xs)) k ys) (suc-add i (length xs) ∙ sym (add-suc i (length xs)))

-- a list that is stored at the front
pub sets_front : (l vs : List ℕ) → length vs ≤ length l → sets l 0 vs ≡ vs ++ drop (length vs) l
sets_front l vs h =
    let e : 0 + length vs ≡ length vs = omega arith in
    sets-eq vs l 0 (omega arith) ∙ ap (λ (k : ℕ). vs ++ drop k l) e

-- a list that takes every place
pub sets_all : (l vs : List ℕ) → length vs ≡ length l → sets l 0 vs ≡ vs
sets_all l vs e =
    sets_front l vs (omega arith)
    ∙ ap (λ (k : ℕ). vs ++ drop k l) e
    ∙ ap (λ (r : List ℕ). vs ++ r) (drop-length l)
    ∙ append-nil vs

-- a place outside the run holds what it held
pub sets_other : (l : List ℕ) (i : ℕ) (vs : List ℕ) (k : ℕ) → (k < i) ⊎ (i + length vs ≤ k)
    → get_or (sets l i vs) k 0 ≡ get_or l k 0
sets_other l i [] k h = refl
sets_other l i (v ∷ vs) k h = sets_other (set l i v) (suc i) vs k (later h) ∙ get_or-set_other l i k v 0 (λ e. apart h e)
  where
    later : (k < i) ⊎ (i + suc (length vs) ≤ k) → (k < suc i) ⊎ (suc i + length vs ≤ k)
    later (inl a) = inl (omega arith)
    later (inr a) = inr (omega arith)

    apart : (k < i) ⊎ (i + suc (length vs) ≤ k) → k ≡ i → ⊥
    apart (inl a) e = omega arith
    apart (inr a) e = omega arith
