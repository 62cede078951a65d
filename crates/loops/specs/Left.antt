-- Loops that store a list, a part of it each turn, or count its words: what is left of the list at each turn.
-- Assumes nothing.
use Rattle.std.specs.Prelude.{◌≡◌, refl, List, [], ◌∷◌, ◌++◌, ◌⊎◌, ℕ, zero, suc, ◌+◌, ◌-◌, ◌*◌, ◌≤◌, ◌<◌, length, get_or, set, drop, map, sum}
use Rattle.std.proofs.Common.{sym, ap, ap₂, ◌∙◌, inl, inr, add-one, mul-add, arith, length-append, drop-cons}
use Rattle.std.proofs.lemmas.List.Edits.{sets}
use Rattle.std.specs.List.{range_with_len}
use Rattle.std.proofs.lemmas.List.Sums.{sum_by-cons}
use Rattle.std.proofs.Math.Seq.{length-sets, drop-length}
use Rattle.loops.specs.Sets.{sets_append, sets_other}

-- `all` comes in n parts, for a loop over 0 to n: at turn i the rest is that turn's part and the rest of the next
pub record Parts (all : List ℕ) (n : ℕ) (rest part : ℕ → List ℕ) : Type 0 where
  pub first : rest 0 ≡ all
  pub more : (i : ℕ) → i < n → rest i ≡ part i ++ rest (i + 1)
  pub last : rest n ≡ []

-- a list that is defined by the first part's number and how many there are
pub counted : (f g : ℕ → ℕ → List ℕ) → ((i : ℕ) → f i zero ≡ []) → ((i k : ℕ) → f i (suc k) ≡ g i k ++ f (suc i) k)
    → (n : ℕ) → Parts (f 0 n) n (λ i. f i (n - i)) (λ i. g i (n - (i + 1)))
counted f g none one n = record {
  first = ap (f 0) (omega arith);
  more = λ i h.
      let e : n - i ≡ suc (n - (i + 1)) = omega arith in
      ap (f i) e ∙ one i (n - (i + 1)) ∙ ap (λ (k : ℕ). g i (n - (i + 1)) ++ f k (n - (i + 1))) (sym (add-one i));
  last = (let e : n - n ≡ 0 = omega arith in ap (f n) e) ∙ none n;
}

-- any list, element by element
pub listed : (l : List ℕ) → Parts l (length l) (λ i. drop i l) (λ i. get_or l i 0 ∷ [])
listed l = record {
  first = refl;
  more = λ i h. drop-cons l i 0 h ∙ ap (λ (k : ℕ). get_or l i 0 ∷ drop k l) (sym (add-one i));
  last = drop-length l;
}

-- x is x₀ with `all` stored from place `at` on, and j is the place after it
pub record Stored (x₀ : List ℕ) (at : ℕ) (all x : List ℕ) (j : ℕ) : Type 0 where
  pub same : x ≡ sets x₀ at all
  pub place : j ≡ at + length all

-- x is on the way there: `left` is still to be stored, from place j on
pub record Left (x₀ : List ℕ) (at : ℕ) (all x : List ℕ) (j : ℕ) (left : List ℕ) : Type 0 where
  pub same : sets x j left ≡ sets x₀ at all
  pub place : j + length left ≡ at + length all
  pub long : length x ≡ length x₀

-- nothing is stored yet
pub unstored : (x : List ℕ) (at : ℕ) (all : List ℕ) → Left x at all x at all
unstored x at all = record { same = refl; place = refl; long = refl }

module _ {x₀ all x left : List ℕ} {at j : ℕ} (l : Left x₀ at all x j left) where
  -- a part of what is left is stored
  pub store : {part rest y : List ℕ} {k : ℕ} → left ≡ part ++ rest → Stored x j part y k → Left x₀ at all y k rest
  store {part} {rest} e s = record {
    same =
        ap₂ (λ (z : List ℕ) (p : ℕ). sets z p rest) s.same s.place
        ∙ sym (sets_append x j part rest)
        ∙ ap (sets x j) (sym e)
        ∙ l.same;
    place = omega (arith, ap length e, length-append part rest, l.place, s.place);
    long = ap length s.same ∙ length-sets x j part ∙ l.long;
  }

  -- nothing is left, so all is stored
  pub finish : left ≡ [] → Stored x₀ at all x j
  finish e = record { same = sym (ap (sets x j) e) ∙ l.same; place = omega (arith, ap length e, l.place) }

-- two words are stored
pub two : (x : List ℕ) (j u v : ℕ) → Stored x j (u ∷ v ∷ []) (set (set x j u) (j + 1) v) (j + 2)
two x j u v = record { same = rw add-one; place = refl }

module _ {all : List ℕ} {n : ℕ} {rest part : ℕ → List ℕ} (parts : Parts all n rest part) where
  -- a turn leaves so many words fewer
  pub fewer : (i : ℕ) → i < n → length (rest i) ≡ length (part i) + length (rest (i + 1))
  fewer i h = ap length (parts.more i h) ∙ length-append (part i) (rest (i + 1))

  -- at the end nothing is left
  pub none_left : (i : ℕ) → i ≡ n → rest i ≡ []
  none_left i e = ap rest e ∙ parts.last

  -- where each part's length is w times a number, the whole's is w times their sum
  pub together : (w : ℕ) (f : ℕ → ℕ) → ((i : ℕ) → i < n → length (part i) ≡ w * f i)
      → w * sum (map f (range_with_len 0 n)) ≡ length all
  together w f each = from 0 n (omega arith) ∙ ap length parts.first
    where
      from : (i k : ℕ) → i + k ≡ n → w * sum (map f (range_with_len i k)) ≡ length (rest i)
      from i zero e = omega (arith, ap length (none_left i (omega arith)))
      from i (suc k) e =
          let others = sum (map f (range_with_len (i + 1) k)) in
          ap (λ (x : ℕ). w * x) (sum_by-cons (λ x. x) (f i) (map f (range_with_len (i + 1) k)))
          ∙ mul-add w (f i) others
          ∙ ap₂ (λ (x y : ℕ). x + y) (sym (each i (omega arith))) (from (i + 1) k (omega arith))
          ∙ sym (fewer i (omega arith))

  -- nothing is stored yet
  pub begin : (x : List ℕ) (at j : ℕ) → j ≡ at → Left x at all x j (rest 0)
  begin x at j e = record {
    same = ap₂ (sets x) e parts.first;
    place = ap₂ (λ (k : ℕ) (l : List ℕ). k + length l) e parts.first;
    long = refl;
  }

  -- a turn stores its part
  pub turn : {x₀ x y : List ℕ} {at j k : ℕ} (i : ℕ) → i < n
      → Left x₀ at all x j (rest i) → Stored x j (part i) y k → Left x₀ at all y k (rest (i + 1))
  turn i h l = store l (parts.more i h)

  -- all is stored
  pub done : {x₀ x : List ℕ} {at j : ℕ} (i : ℕ) → i ≡ n → Left x₀ at all x j (rest i) → Stored x₀ at all x j
  done i e l = finish l (none_left i e)

-- a place outside the run holds what it held
pub untouched : {x₀ all x left : List ℕ} {at j : ℕ} → Left x₀ at all x j left → at ≤ j
    → (k : ℕ) → (k < at) ⊎ (at + length all ≤ k) → get_or x k 0 ≡ get_or x₀ k 0
untouched {x₀} {all} {x} {left} {at} {j} l h k o =
    sym (sets_other x j left k (outside o)) ∙ ap (λ (z : List ℕ). get_or z k 0) l.same ∙ sets_other x₀ at all k o
  where
    outside : (k < at) ⊎ (at + length all ≤ k) → (k < j) ⊎ (j + length left ≤ k)
    outside (inl a) = inl (omega arith)
    outside (inr a) = inr (omega (arith, l.place))
