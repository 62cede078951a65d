-- The laws of the live map: what every block's bit is after one is put, and of a pool that has no bit set. The map is
-- a list of words, eight for each pool.
-- Assumes nothing.
use Rattle.std.specs.Prelude.{◌≡◌, refl, Bool, true, false, ◌&&◌, List, ℕ, zero, suc, ◌+◌, ◌*◌, ◌/◌, ◌%◌, ◌≤◌, ◌<◌, eqb, length, set, take, drop, if◌then◌else◌}
use Rattle.std.proofs.Common.{sym, ap, ◌∙◌, not-suc-le-zero, add-one, arith, length-set, length-drop, get_or-drop}
use Rattle.std.proofs.Common.{get_or-set_same, get_or-set_other, eq-eqb, ne_eqb, eqb-true}
use Rattle.std.specs.List.{fold}
use Rattle.std.specs.Int.Bits.{bit_or, or_zero_l}
use Rattle.std.proofs.lemmas.Bool.{false≢true}
use Rattle.std.proofs.lemmas.Nat.{le_or_l}
use Rattle.std.proofs.lemmas.List.Sums.{fold_more}
use Rattle.std.proofs.Math.Nat.{add-zero}
use Rattle.std.proofs.Math.Decide.{dec_lt, ℕ_discrete}
use Rattle.std.proofs.Math.Seq.{set_out}
use Rattle.rules.specs.Books.{at, bit, put_bit, map_word, is_set, put_map_bit}
use Rattle.bits.specs.Bit.{no_bit, put_same, put_other}

-- putting a bit keeps the length
pub length_put : (m : List ℕ) (n k d : ℕ) → length (put_map_bit n k d m) ≡ length m
length_put m n k d = length-set m (map_word n k) _

-- the block whose bit is put has it
pub put_same_block : (m : List ℕ) (n k d : ℕ) → d < 2 → map_word n k < length m
    → is_set (put_map_bit n k d m) n k ≡ eqb d 1
put_same_block m n k d hd l =
    ap (λ (x : ℕ). eqb (bit x (k % 64)) 1) (get_or-set_same m (map_word n k) _ 0 l)
    ∙ ap (λ (x : ℕ). eqb x 1) (put_same (at m (map_word n k)) (k % 64) d hd)

-- in the list of words: bit i of word v is put, and bit j of word w is another
other : (m : List ℕ) (v i w j d : ℕ) → d < 2 → (v ≡ w → i ≡ j → ⊥)
    → bit (at (set m v (put_bit (at m v) i d)) w) j ≡ bit (at m w) j
other m v i w j d hd h = go (ℕ_discrete w v) (dec_lt v (length m))
  where
    go : Dec (w ≡ v) → Dec (v < length m) → bit (at (set m v (put_bit (at m v) i d)) w) j ≡ bit (at m w) j
    go (no n) t = ap (λ (x : ℕ). bit x j) (get_or-set_other m v w _ 0 n)
    go (yes e) (yes p) =
        rw e (ap (λ (x : ℕ). bit x j) (get_or-set_same m v _ 0 p) ∙ put_other (at m v) i j d hd (h (sym e)))
    go (yes e) (no p) = ap (λ (x : List ℕ). bit (at x w) j) (set_out m v _ (omega arith))

-- every other block is as it was, of this pool and of every other
pub put_other_block : (m : List ℕ) (n k d y j : ℕ) → d < 2 → k < 512 → j < 512 → (y ≡ n → j ≡ k → ⊥)
    → is_set (put_map_bit n k d m) y j ≡ is_set m y j
put_other_block m n k d y j hd hk hj h =
    ap (λ (x : ℕ). eqb x 1) (other m (map_word n k) (k % 64) (map_word y j) (j % 64) d hd (λ e f. h (omega arith) (omega arith)))

-- both in one: the test of any block after the bit of block k of pool n is put
pub put_block : (m : List ℕ) (n k d y j : ℕ) → d < 2 → k < 512 → j < 512 → map_word n k < length m
    → is_set (put_map_bit n k d m) y j ≡ (if eqb y n then (if eqb j k then eqb d 1 else is_set m y j) else is_set m y j)
put_block m n k d y j hd hk hj l = go (ℕ_discrete y n) (ℕ_discrete j k)
  where
    go : Dec (y ≡ n) → Dec (j ≡ k)
        → is_set (put_map_bit n k d m) y j ≡ (if eqb y n then (if eqb j k then eqb d 1 else is_set m y j) else is_set
        m y j)
    go (yes p) (yes q) = rw (eq-eqb y n p, eq-eqb j k q, p, q) (put_same_block m n k d hd l)
    go (yes p) (no q) = rw (eq-eqb y n p, ne_eqb j k q) (put_other_block m n k d y j hd hk hj (λ _ e. q e))
    go (no p) t = rw (ne_eqb y n p) (put_other_block m n k d y j hd hk hj (λ e _. p e))

-- ---- the first n of some words are 0
unfoldable pub zeros : (ℕ → ℕ) → ℕ → Bool
zeros w zero = true
zeros w (suc n) = zeros w n && eqb (w n) 0

pub each_zero : (w : ℕ → ℕ) (n : ℕ) → zeros w n ≡ true → (i : ℕ) → i < n → w i ≡ 0
unfolding zeros
each_zero w zero e i h = absurd (not-suc-le-zero h)
each_zero w (suc n) e i h = go (zeros w n) (eqb (w n) 0) refl refl e (λ z. each_zero w n z i) (ℕ_discrete i n)
  where
    go : (t u : Bool) → zeros w n ≡ t → eqb (w n) 0 ≡ u → t && u ≡ true → (zeros w n ≡ true → i < n → w i ≡ 0)
        → Dec (i ≡ n) → w i ≡ 0
    go true true p q r rest (yes s) = ap w s ∙ eqb-true (w n) 0 q
    go true true p q r rest (no s) = rest p (omega arith)
    go true false p q r rest d = absurd (false≢true r)
    go false u p q r rest d = absurd (false≢true r)

-- an or is 0 where both of its words are
or_zero : (a b : ℕ) → eqb (bit_or a b) 0 ≡ eqb a 0 && eqb b 0
or_zero zero b = ap (λ (x : ℕ). eqb x 0) (or_zero_l b)
or_zero (suc a) b =
    rw (ne_eqb (bit_or (suc a) b) 0 (λ e. omega (arith, e, le_or_l (suc a) b)), ne_eqb (suc a) 0 (λ e. omega (arith, e)))

-- and that of n words of a list where each of them is
or_zeros : (m : List ℕ) (first n : ℕ) → first + n ≤ length m
    → eqb (fold bit_or 0 (take n (drop first m))) 0 ≡ zeros (λ i. at m (first + i)) n
unfolding zeros
or_zeros m first zero h = refl
or_zeros m first (suc n) h =
    let l = drop first m in
    let more : fold bit_or 0 (take (suc n) l) ≡ bit_or (fold bit_or 0 (take n l)) (at m (first + n)) =
    rw (← add-one n) (fold_more bit_or 0 l n 0 (omega (arith, length-drop first m)) ∙ ap (bit_or (fold bit_or 0 (take n l))) (get_or-drop first m n 0)) in
    ap (λ (x : ℕ). eqb x 0) more
    ∙ or_zero (fold bit_or 0 (take n l)) (at m (first + n))
    ∙ ap (λ (t : Bool). t && eqb (at m (first + n)) 0) (or_zeros m first n (omega arith))

-- ---- no bit of pool p is set
abbrev pub none_set : List ℕ → ℕ → Bool
none_set m p =
    eqb (at m (8 * p)) 0
    && eqb (at m (8 * p + 1)) 0
    && eqb (at m (8 * p + 2)) 0
    && eqb (at m (8 * p + 3)) 0
    && eqb (at m (8 * p + 4)) 0
    && eqb (at m (8 * p + 5)) 0
    && eqb (at m (8 * p + 6)) 0
    && eqb (at m (8 * p + 7)) 0

module _ (m : List ℕ) (p : ℕ) where
  eight : zeros (λ i. at m (8 * p + i)) 8 ≡ none_set m p
  unfolding zeros
  eight = rw add-zero

  -- as the code writes it: the or of its words is 0
  pub code_none : 8 * p + 8 ≤ length m → eqb (fold bit_or 0 (take 8 (drop (8 * p) m))) 0 ≡ none_set m p
  code_none h = or_zeros m (8 * p) 8 h ∙ eight

  -- so none of its blocks is live
  pub not_set : none_set m p ≡ true → (k : ℕ) → k < 512 → is_set m p k ≡ false
  not_set e k h = rw (each_zero (λ i. at m (8 * p + i)) 8 (eight ∙ e) (k / 64) (omega arith), no_bit (k % 64))
