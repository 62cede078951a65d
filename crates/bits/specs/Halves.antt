-- The laws of a word that is taken apart from its lowest bit up: `w % 2` is that bit, and `w / 2` has the bits above
-- it. The machine's counts are defined so: that of trailing zeros, which is the place of the first set bit, and that
-- of ones.
-- Assumes nothing.
use Rattle.std.specs.Prelude.{◌≡◌, refl, ◌⊎◌, ℕ, zero, suc, ◌+◌, ◌-◌, ◌*◌, ◌/◌, ◌%◌, ◌^◌, ◌≤◌, ◌<◌, min}
use Rattle.std.proofs.Common.{ap, ap₂, ◌∙◌, inl, inr, not-suc-le-zero, add-suc, add-zero, mul-one, pow-suc, add-one, arith}
use Rattle.std.proofs.Math.Nat.{mod-one}
use Rattle.std.specs.Int.Bits.{bit_and, and_step, and_self, shifted_half, shifted_even}
use Rattle.std.proofs.lemmas.Nat.{and_le_r}
use Rattle.std.proofs.Math.Pow.{field, mod-mod-pow}
use Rattle.std.specs.Int.Count.{ones, ones_in, ones_step, under, count_trailing_zeros}
use Rattle.rules.specs.Books.{bit}
use Rattle.bits.specs.Bit.{bit_zero, bit_suc}

-- the lowest bit is set, or it is not
pub parity : (w : ℕ) → (w % 2 ≡ 1) ⊎ (w % 2 ≡ 0)
parity w = go (w % 2) (omega arith)
  where
    go : (d : ℕ) → d < 2 → (d ≡ 1) ⊎ (d ≡ 0)
    go zero h = inr refl
    go (suc zero) h = inl refl
    go (suc (suc d)) h = absurd (omega arith)

-- ---- the place of the first set bit, among k bits
pub first_odd : (k w : ℕ) → w % 2 ≡ 1 → count_trailing_zeros (suc k) w ≡ 0
unfolding count_trailing_zeros
first_odd k w e = ap (λ (d : ℕ). under d (count_trailing_zeros k (w / 2))) e

pub first_even : (k w : ℕ) → w % 2 ≡ 0 → count_trailing_zeros (suc k) w ≡ suc (count_trailing_zeros k (w / 2))
unfolding count_trailing_zeros
first_even k w e = ap (λ (d : ℕ). under d (count_trailing_zeros k (w / 2))) e

-- it is one of them, where any is set
pub first_there : (k w : ℕ) → 0 < w → w < 2 ^ k → count_trailing_zeros k w < k
first_there zero w h l = absurd (omega arith)
first_there (suc k) w h l = go (parity w) (first_there k (w / 2))
  where
    go : (w % 2 ≡ 1) ⊎ (w % 2 ≡ 0) → (0 < w / 2 → w / 2 < 2 ^ k → count_trailing_zeros k (w / 2) < k)
        → count_trailing_zeros (suc k) w < suc k
    go (inl e) rest = omega (arith, first_odd k w e)
    go (inr e) rest = omega (arith, first_even k w e, rest (omega arith) (omega (arith, pow-suc 2 k)))

-- below it none is set, and it is
pub none_before : (k w j : ℕ) → j < count_trailing_zeros k w → bit w j ≡ 0
unfolding count_trailing_zeros
none_before zero w j h = absurd (not-suc-le-zero h)
none_before (suc k) w j h = go (parity w) j h (none_before k (w / 2))
  where
    go : (w % 2 ≡ 1) ⊎ (w % 2 ≡ 0) → (j : ℕ) → j < count_trailing_zeros (suc k) w
        → ((i : ℕ) → i < count_trailing_zeros k (w / 2) → bit (w / 2) i ≡ 0) → bit w j ≡ 0
    go (inl e) j h rest = absurd (omega (arith, first_odd k w e))
    go (inr e) zero h rest = bit_zero w ∙ e
    go (inr e) (suc j) h rest = bit_suc w j ∙ rest j (omega (arith, first_even k w e))

pub first_set : (k w : ℕ) → count_trailing_zeros k w < k → bit w (count_trailing_zeros k w) ≡ 1
first_set zero w h = absurd (not-suc-le-zero h)
first_set (suc k) w h = go (parity w) (first_set k (w / 2))
  where
    go : (w % 2 ≡ 1) ⊎ (w % 2 ≡ 0) → (count_trailing_zeros k (w / 2) < k
        → bit (w / 2) (count_trailing_zeros k (w / 2)) ≡ 1)
        → bit w (count_trailing_zeros (suc k) w) ≡ 1
    go (inl e) rest = ap (bit w) (first_odd k w e) ∙ bit_zero w ∙ e
    go (inr e) rest =
        ap (bit w) (first_even k w e) ∙ bit_suc w (count_trailing_zeros k (w / 2)) ∙ rest (omega (arith, first_even k w e))

-- ---- `w & (w - 1)`, the word without its first set bit
abbrev pub without_first : ℕ → ℕ
without_first w = bit_and w (w - 1)

-- an odd word loses its lowest bit, and an even one a bit of its half
pub without_odd : (w : ℕ) → w % 2 ≡ 1 → without_first w ≡ w / 2 * 2
without_odd w e =
    let half : (w - 1) / 2 ≡ w / 2 = omega arith in
    let low : (w - 1) % 2 ≡ 0 = omega arith in
    omega (
      arith,
      and_step w (w - 1) ∙ ap₂ (λ (x y : ℕ). bit_and (w / 2) x * 2 + min (w % 2) y) half low,
      and_self (w / 2),
    )

pub without_even : (w : ℕ) → w % 2 ≡ 0 → without_first w ≡ without_first (w / 2) * 2
without_even w e =
    let half : (w - 1) / 2 ≡ w / 2 - 1 = omega arith in
    omega (
      arith,
      and_step w (w - 1) ∙ ap₂ (λ (x y : ℕ). bit_and (w / 2) x * 2 + min y ((w - 1) % 2)) half e,
    )

-- so it is a smaller one
pub without_less : (w : ℕ) → 0 < w → without_first w < w
without_less w h = omega (arith, and_le_r w (w - 1))

-- ---- how many of the n lowest bits are set: `ones_in n w`
pub no_ones : (n : ℕ) → ones_in n 0 ≡ 0
unfolding ones_in
no_ones zero = refl
no_ones (suc n) = omega (arith, no_ones n)

pub few_ones : (n w : ℕ) → ones_in n w ≤ n
unfolding ones_in
few_ones zero w = omega arith
few_ones (suc n) w = omega (arith, few_ones n (w / 2))

-- a word that is cut to n bits has those ones
low_ones : (n w : ℕ) → ones (w % 2 ^ n) ≡ ones_in n w
unfolding ones ones_in
low_ones zero w = ap ones (mod-one w)
low_ones (suc n) w =
    ones_step (w % 2 ^ suc n)
    ∙ ap₂ (λ (x y : ℕ). x + ones y) (rw add-one at (mod-mod-pow w n 1)) (rw add-one at (field w n 1))
    ∙ ap (λ (x : ℕ). w % 2 + x) (low_ones n (w / 2))

-- bits that are shifted in from below are 0
shifted_ones : (j n w : ℕ) → ones_in (n + j) (w * 2 ^ j) ≡ ones_in n w
unfolding ones_in
shifted_ones zero n w = ap₂ ones_in (add-zero n) (mul-one w)
shifted_ones (suc j) n w =
    ap (λ (x : ℕ). ones_in x (w * 2 ^ suc j)) (add-suc n j)
    ∙ omega (arith, shifted_even w j, ap (ones_in (n + j)) (shifted_half w j), shifted_ones j n w)

-- `count_ones(w << (k - n))` at a width of k bits: those above the n lowest are shifted out
pub code_count : (k n w : ℕ) → n ≤ k → ones (w * 2 ^ (k - n) % 2 ^ k) ≡ ones_in n w
code_count k n w h =
    let e : k ≡ n + (k - n) = omega arith in
    low_ones k (w * 2 ^ (k - n))
    ∙ ap (λ (x : ℕ). ones_in x (w * 2 ^ (k - n))) e
    ∙ shifted_ones (k - n) n w
