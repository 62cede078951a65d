-- The set bits of a word, from the lowest up; the roll of a map word, and a pool's roll as that of its words.
-- Assumes nothing.
use Rattle.std.specs.Prelude.{◌≡◌, false, ◌⊎◌, eqb, length, if◌then◌else◌}
use Rattle.std.proofs.Math.Path.{refl, ap, ap₂}
use Rattle.std.proofs.Common.{sym, ◌∙◌, inl, inr, not-suc-le-zero, le_of_suc-le-suc, zero-add, add-zero, suc-mul, le-div_iff_mul-le, div-lt_iff_lt-mul, shr-shr}
use mathlib.Core.List.{List, [], ◌∷◌, ◌++◌, append_assoc}
use Prim.Native.Nat.{ℕ, zero, suc, ◌+◌, ◌*◌, ◌-◌, ◌/◌, ◌%◌, ◌^◌, ◌≤◌, ◌<◌, min}
use Rattle.std.proofs.Math.Nat.{suc-add, add-suc, add-mul-div_right, add-mul}
use Rattle.std.proofs.Math.Numerals.{add-one}
use native.Mathlib.Omega.{arith}
use Rattle.std.specs.Int.Count.{ones_in, count_trailing_zeros}
use Rattle.rules.specs.Books.{at, bit, is_set, offset_of}
use Rattle.rules.specs.Blocks.{start_of, last_start, capacity}
use Rattle.rules.specs.View.{roll_blocks}
use Rattle.bits.specs.Halves.{parity, first_odd, first_even, without_first, without_odd, without_even}
use Rattle.loops.specs.Left.{Parts}

-- ---- a word's set bits, from the lowest up: what is said of each among the first n, the lowest being bit j
unfoldable pub each_bit : (ℕ → List ℕ) → ℕ → ℕ → ℕ → List ℕ
each_bit said w j zero = []
each_bit said w j (suc n) = (if eqb (w % 2) 1 then said j else []) ++ each_bit said (w / 2) (suc j) n

module _ (said : ℕ → List ℕ) where
  -- by the word's lowest bit
  odd : (w j n : ℕ) → w % 2 ≡ 1 → each_bit said w j (suc n) ≡ said j ++ each_bit said (w / 2) (suc j) n
  unfolding each_bit
  odd w j n e = rw e

  even : (w j n : ℕ) → w % 2 ≡ 0 → each_bit said w j (suc n) ≡ each_bit said (w / 2) (suc j) n
  unfolding each_bit
  even w j n e = rw e

  twice : (w j n : ℕ) {v : ℕ} → v ≡ w * 2 → each_bit said v j (suc n) ≡ each_bit said w (suc j) n
  unfolding each_bit
  twice w j n {v} e =
      let low : v % 2 ≡ 0 = omega arith in
      let half : v / 2 ≡ w = omega arith in
      rw (low, half)

  -- from set bit to set bit: where the first of a word of k bits is not among the n, none of them is set
  none_from : (k n w j : ℕ) → n ≤ count_trailing_zeros k w → each_bit said w j n ≡ []
  unfolding each_bit count_trailing_zeros
  none_from k zero w j h = refl
  none_from zero (suc n) w j h = absurd (not-suc-le-zero h)
  none_from (suc k) (suc n) w j h = go (parity w) (none_from k n (w / 2) (suc j))
    where
      go : (w % 2 ≡ 1) ⊎ (w % 2 ≡ 0) → (n ≤ count_trailing_zeros k (w / 2) → each_bit said (w / 2) (suc j) n ≡ [])
          → each_bit said w j (suc n) ≡ []
      go (inl e) rest = absurd (omega (arith, first_odd k w e))
      go (inr e) rest = even w j n e ∙ rest (omega (arith, first_even k w e))

  -- otherwise it comes first, and then those of the word without it
  first_from : (k n w j : ℕ) → n ≤ k → count_trailing_zeros k w < n
      → each_bit said w j n ≡ said (j + count_trailing_zeros k w) ++ each_bit said (without_first w) j n
  first_from k zero w j l h = absurd (not-suc-le-zero h)
  first_from zero (suc n) w j l h = absurd (not-suc-le-zero l)
  first_from (suc k) (suc n) w j l h = go (parity w) (first_from k n (w / 2) (suc j) (le_of_suc-le-suc l))
    where
      go : (w % 2 ≡ 1) ⊎ (w % 2 ≡ 0)
          → let t = count_trailing_zeros k (w / 2) in
          (t < n → each_bit said (w / 2) (suc j) n ≡ said (suc j + t)
          ++ each_bit said (without_first (w / 2)) (suc j) n)
          → each_bit said w j (suc n) ≡ said (j + count_trailing_zeros (suc k) w)
          ++ each_bit said (without_first w) j (suc n)
      go (inl e) rest =
          let place : j ≡ j + count_trailing_zeros (suc k) w = rw (first_odd k w e) (omega arith) in
          odd w j n e ∙ ap₂ (λ (x : ℕ) (r : List ℕ). said x ++ r) place (sym (twice (w / 2) j n (without_odd w e)))
      go (inr e) rest =
          let t = count_trailing_zeros k (w / 2) in
          let place : suc j + t ≡ j + count_trailing_zeros (suc k) w = rw (first_even k w e) (omega arith) in
          even w j n e
          ∙ rest (omega (arith, first_even k w e))
          ∙ ap₂ (λ (x : ℕ) (r : List ℕ). said x ++ r) place (sym (twice (without_first (w / 2)) j n (without_even w e)))

  -- both of a whole word, whose lowest bit is bit 0
  pub none_live : (k n w : ℕ) → n ≤ count_trailing_zeros k w → each_bit said w 0 n ≡ []
  none_live k n w = none_from k n w 0

  pub first_live : (k n w : ℕ) → n ≤ k → count_trailing_zeros k w < n
      → each_bit said w 0 n ≡ said (count_trailing_zeros k w) ++ each_bit said (without_first w) 0 n
  first_live k n w l h = rw zero-add at (first_from k n w 0 l h)

-- ---- a map word's blocks have size s, and the first is at offset o: offset and size of block j
abbrev pub two_words : ℕ → ℕ → ℕ → List ℕ
two_words o s j = (o + j * s) ∷ s ∷ []

-- of each live block among the first n
abbrev pub roll_word : ℕ → ℕ → ℕ → ℕ → List ℕ
roll_word w o s n = each_bit (two_words o s) w 0 n

-- two roll words for each set bit
length_from : (o s w j n : ℕ) → length (each_bit (two_words o s) w j n) ≡ 2 * ones_in n w
unfolding each_bit ones_in
length_from o s w j zero = refl
length_from o s w j (suc n) = go (parity w) (length_from o s (w / 2) (suc j) n)
  where
    go : (w % 2 ≡ 1) ⊎ (w % 2 ≡ 0) → length (each_bit (two_words o s) (w / 2) (suc j) n) ≡ 2 * ones_in n (w / 2)
        → length (each_bit (two_words o s) w j (suc n)) ≡ 2 * (w % 2 + ones_in n (w / 2))
    go (inl e) rest = omega (arith, ap length (odd (two_words o s) w j n e))
    go (inr e) rest = omega (arith, ap length (even (two_words o s) w j n e))

pub length_word : (w o s n : ℕ) → length (roll_word w o s n) ≡ 2 * ones_in n w
length_word w o s n = length_from o s w 0 n

-- ---- where a word's blocks end: how many of its 64, of size s and the first at offset o, start at `last` or before it
abbrev pub up_to : ℕ → ℕ → ℕ → ℕ
up_to o s last = min 64 ((last - o) / s + 1)

-- block k is one of them if it does; if it starts past it, there are no more than k
module _ (o s last k : ℕ) (low : 1 ≤ s) where
  pub not_past : k < 64 → o + k * s ≤ last → k < up_to o s last
  not_past h l = omega (arith, (le-div_iff_mul-le {k = s} {x = k} {y = last - o} low).1 (omega arith))

  pub past : o ≤ last → last < o + k * s → up_to o s last ≤ k
  past h l = omega (arith, (div-lt_iff_lt-mul {k = s} {x = last - o} {y = k} low).1 (omega arith))

-- ---- a pool's blocks, word by word
-- how many of n blocks word i has
abbrev pub in_word : ℕ → ℕ → ℕ
in_word n i = min 64 (n - 64 * i)

-- the blocks of word i of pool p, and where the pool's last block starts at the latest
module _ (p s i : ℕ) (low : 1 ≤ s) (high : s ≤ 4048) where
  pub some_there : offset_of p (start_of s (64 * i)) ≤ offset_of p (last_start s) → 64 * i < capacity s
  some_there h = (le-div_iff_mul-le {k = s} {x = suc (64 * i)} {y = 4048} low).1 (omega (arith, suc-mul (64 * i) s))

  pub none_there : offset_of p (last_start s) < offset_of p (start_of s (64 * i)) → capacity s ≤ 64 * i
  none_there h = omega (arith, (div-lt_iff_lt-mul {k = s} {x = 4048} {y = 64 * i + 1} low).1 (omega (arith, suc-mul (64 * i) s)))

  pub up_to_last : 64 * i < capacity s
      → up_to (offset_of p (start_of s (64 * i))) s (offset_of p (last_start s)) ≡ in_word (capacity s) i
  up_to_last h =
      let n = 64 * i + 1 in
      let inside : n * s ≤ 4048 = (le-div_iff_mul-le {k = s} {x = n} {y = 4048} low).0 (omega arith) in
      let span : 4048 ≡ (4048 - n * s) + n * s = omega arith in
      let blocks : capacity s ≡ (4048 - n * s) / s + n =
      ap (λ (k : ℕ). k / s) span ∙ add-mul-div_right (4048 - n * s) n low in
      let rest : offset_of p (last_start s) - offset_of p (start_of s (64 * i)) ≡ 4048 - n * s = omega (arith, suc-mul (64 * i) s) in
      rw rest (omega arith)

module _ (m : List ℕ) (p s : ℕ) where
  -- where none of n blocks has its bit set, none is in the roll
  pub none_rolled : (k n : ℕ) → ((j : ℕ) → j < k + n → is_set m p j ≡ false) → roll_blocks m p s k n ≡ []
  unfolding roll_blocks
  none_rolled k zero clear = refl
  none_rolled k (suc n) clear =
      rw (clear k (omega arith)) (none_rolled (suc k) n (λ j h. clear j (omega arith)))

  -- the n blocks of word i from its bit j on
  from_bit : (i j n : ℕ) → j + n ≤ 64
      → roll_blocks m p s (64 * i + j) n
      ≡ each_bit (two_words (offset_of p (start_of s (64 * i))) s) (at m (8 * p + i) / 2 ^ j) j n
  unfolding roll_blocks each_bit bit
  from_bit i j zero h = refl
  from_bit i j (suc n) h =
      let w = at m (8 * p + i) in
      let k = 64 * i + j in
      let word : k / 64 ≡ i = omega arith in
      let place : k % 64 ≡ j = omega arith in
      let next : suc k ≡ 64 * i + suc j = omega arith in
      let half : w / 2 ^ suc j ≡ w / 2 ^ j / 2 = rw add-one at (sym (shr-shr w j 1)) in
      let start : offset_of p (start_of s k) ≡ offset_of p (start_of s (64 * i)) + j * s = omega (arith, add-mul (64 * i) j s) in
      rw (word, place, next, from_bit i (suc j) n (omega arith), half, start)

  -- its first n blocks
  from_first : (i n : ℕ) → n ≤ 64
      → roll_blocks m p s (64 * i) n ≡ roll_word (at m (8 * p + i)) (offset_of p (start_of s (64 * i))) s n
  from_first i n h =
      let none : 64 * i + 0 ≡ 64 * i = omega arith in
      let whole : at m (8 * p + i) / 2 ^ 0 ≡ at m (8 * p + i) = omega arith in
      rw (none, whole) at (from_bit i 0 n (omega arith))

  -- a run of blocks and the run after it
  pub split : (k a b : ℕ) → roll_blocks m p s k (a + b) ≡ roll_blocks m p s k a ++ roll_blocks m p s (k + a) b
  unfolding roll_blocks
  split k zero b = rw (zero-add, add-zero)
  split k (suc a) b = rw (suc-add a b, add-suc k a, ← suc-add k a, split (suc k) a b, append_assoc)

  -- past the last of n blocks there is none
  pub none_after : (n i : ℕ) → n ≤ 64 * i → roll_blocks m p s (64 * i) (n - 64 * i) ≡ []
  unfolding roll_blocks
  none_after n i h = let e : n - 64 * i ≡ 0 = omega arith in ap (roll_blocks m p s (64 * i)) e

  -- the pool's n blocks, in as many words as they take
  pub word_parts : (n : ℕ)
      → Parts (roll_blocks m p s 0 n) ((n + 63) / 64) (λ i. roll_blocks m p s (64 * i) (n - 64 * i))
      (λ i. roll_word (at m (8 * p + i)) (offset_of p (start_of s (64 * i))) s (in_word n i))
  unfolding roll_blocks
  word_parts n = record {
    first = (let e : n - 0 ≡ n = omega arith in ap (roll_blocks m p s 0) e);
    more = λ i h.
        let e : n - 64 * i ≡ in_word n i + (n - 64 * (i + 1)) = omega arith in
        ap (roll_blocks m p s (64 * i)) e
        ∙ split (64 * i) (in_word n i) (n - 64 * (i + 1))
        ∙ ap₂ (λ (x y : List ℕ). x ++ y) (from_first i (in_word n i) (omega arith)) (next i (n - 64 * (i + 1)) refl);
    last = none_after n ((n + 63) / 64) (omega arith);
  }
    where
      -- where r blocks come after those of word i, it has 64, so they begin with the next word
      next : (i r : ℕ) → r ≡ n - 64 * (i + 1)
          → roll_blocks m p s (64 * i + in_word n i) r ≡ roll_blocks m p s (64 * (i + 1)) r
      next i zero e = refl
      next i (suc r) e =
          let f : 64 * i + in_word n i ≡ 64 * (i + 1) = omega arith in
          ap (λ (k : ℕ). roll_blocks m p s k (suc r)) f
