-- The laws of one bit of a word: `bit w j` and `put_bit w j d` of crate rules, and the machine's shift and mask, which
-- are the same.
-- Assumes nothing.
use Rattle.std.specs.Prelude.{◌≡◌, refl, ℕ, zero, suc, ◌+◌, ◌-◌, ◌*◌, ◌/◌, ◌%◌, ◌^◌, ◌≤◌, ◌<◌, min, max}
use Rattle.std.proofs.Common.{sym, ap, ap₂, ◌∙◌, mul_assoc, mul_comm, one-mul, pow-suc, mod-eq_of_lt, not-suc-le-zero, le_of_suc-le-suc, arith}
use Rattle.std.proofs.Math.Nat.{div-div-eq-div-mul, zero-div}
use Rattle.std.proofs.Math.Pow.{pow-lt}
use Rattle.std.specs.Int.Bits.{bit_and, bit_or, or_step, and_step, or_zero_r}
use Rattle.std.proofs.lemmas.Nat.{and_mask}
use Rattle.rules.specs.Books.{bit, put_bit}

-- a word of zeros has no bit set
pub no_bit : (j : ℕ) → bit 0 j ≡ 0
unfolding bit
no_bit j = rw (zero-div (2 ^ j))

-- ---- digit by digit: bit j + 1 of a word is bit j of its half
pub bit_zero : (w : ℕ) → bit w zero ≡ w % 2
unfolding bit
bit_zero w = omega arith

pub bit_suc : (w j : ℕ) → bit w (suc j) ≡ bit (w / 2) j
unfolding bit
bit_suc w j =
    ap (λ (x : ℕ). w / x % 2) (pow-suc 2 j ∙ mul_comm (2 ^ j) 2) ∙ ap (λ (x : ℕ). x % 2) (sym (div-div-eq-div-mul w 2 (2 ^ j)))

scale : (d j : ℕ) → d * 2 ^ suc j ≡ d * 2 ^ j * 2
scale d j = ap (λ (x : ℕ). d * x) (pow-suc 2 j) ∙ sym (mul_assoc d (2 ^ j) 2)

weigh : (w j : ℕ) → bit w (suc j) * 2 ^ suc j ≡ bit (w / 2) j * 2 ^ j * 2
weigh w j = ap (λ (x : ℕ). x * 2 ^ suc j) (bit_suc w j) ∙ scale (bit (w / 2) j) j

bit_le : (w j : ℕ) → bit w j * 2 ^ j ≤ w
bit_le w zero = omega (arith, bit_zero w)
bit_le w (suc j) = omega (arith, weigh w j, bit_le (w / 2) j)

put_zero : (w d : ℕ) → put_bit w zero d ≡ w / 2 * 2 + d
unfolding put_bit
put_zero w d = omega (arith, bit_zero w)

put_suc : (w j d : ℕ) → put_bit w (suc j) d ≡ put_bit (w / 2) j d * 2 + w % 2
unfolding put_bit
put_suc w j d = omega (arith, weigh w j, scale d j, bit_le (w / 2) j)

put_half : (w j d : ℕ) → put_bit w (suc j) d / 2 ≡ put_bit (w / 2) j d
put_half w j d = omega (arith, put_suc w j d)

put_rest : (w d : ℕ) → d < 2 → put_bit w zero d / 2 ≡ w / 2
put_rest w d h = omega (arith, put_zero w d)

-- ---- the laws
-- the bit that is put is as it was put
pub put_same : (w j d : ℕ) → d < 2 → bit (put_bit w j d) j ≡ d
put_same w zero d h = omega (arith, bit_zero (put_bit w zero d), put_zero w d)
put_same w (suc j) d h = bit_suc (put_bit w (suc j) d) j ∙ ap (λ (x : ℕ). bit x j) (put_half w j d) ∙ put_same (w / 2) j d h

-- every other bit is as it was
pub put_other : (w j i d : ℕ) → d < 2 → (j ≡ i → ⊥) → bit (put_bit w j d) i ≡ bit w i
put_other w zero zero d hd h = absurd (h refl)
put_other w zero (suc i) d hd h =
    bit_suc (put_bit w zero d) i ∙ ap (λ (x : ℕ). bit x i) (put_rest w d hd) ∙ sym (bit_suc w i)
put_other w (suc j) zero d hd h = omega (arith, bit_zero (put_bit w (suc j) d), put_suc w j d, bit_zero w)
put_other w (suc j) (suc i) d hd h =
    bit_suc (put_bit w (suc j) d) i
    ∙ ap (λ (x : ℕ). bit x i) (put_half w j d)
    ∙ put_other (w / 2) j i d hd (λ e. h (ap suc e))
    ∙ sym (bit_suc w i)

-- ---- the machine's operations, with the bit at its weight
or_put : (w j : ℕ) → bit_or w (2 ^ j) ≡ put_bit w j 1
or_put w zero = omega (arith, or_step w 1, or_zero_r (w / 2), put_zero w 1)
or_put w (suc j) =
    let e : bit_or w (2 ^ suc j) ≡ bit_or (w / 2) (2 ^ j) * 2 + max (w % 2) zero =
    or_step w (2 ^ suc j)
    ∙ ap₂ (λ (x y : ℕ). bit_or (w / 2) x * 2 + max (w % 2) y) (omega (arith, pow-suc 2 j)) (omega (arith, pow-suc 2 j)) in
    omega (arith, e, or_put (w / 2) j, put_suc w j 1)

and_put : (k w j : ℕ) → j < k → w < 2 ^ k → bit_and w (2 ^ k - 1 - 2 ^ j) ≡ put_bit w j 0
and_put zero w j hj hw = absurd (not-suc-le-zero hj)
and_put (suc k) w zero hj hw =
    let e : bit_and w (2 ^ suc k - 1 - 1) ≡ bit_and (w / 2) (2 ^ k - 1) * 2 + min (w % 2) zero =
    and_step w (2 ^ suc k - 1 - 1)
    ∙ ap₂ (λ (x y : ℕ). bit_and (w / 2) x * 2 + min (w % 2) y) (omega (arith, pow-suc 2 k)) (omega (arith, pow-suc 2 k)) in
    let m : bit_and (w / 2) (2 ^ k - 1) ≡ w / 2 = and_mask (w / 2) k ∙ mod-eq_of_lt (omega (arith, pow-suc 2 k)) in
    omega (arith, e, m, put_zero w 0)
and_put (suc k) w (suc j) hj hw =
    let l : 2 ^ j < 2 ^ k = pow-lt (le_of_suc-le-suc hj) in
    let e : bit_and w (2 ^ suc k - 1 - 2 ^ suc j) ≡ bit_and (w / 2) (2 ^ k - 1 - 2 ^ j) * 2 + min (w % 2) 1 =
    and_step w (2 ^ suc k - 1 - 2 ^ suc j)
    ∙ ap₂
    (λ (x y : ℕ). bit_and (w / 2) x * 2 + min (w % 2) y)
    (omega (arith, pow-suc 2 k, pow-suc 2 j))
    (omega (arith, pow-suc 2 k, pow-suc 2 j)) in
    omega (
      arith,
      e,
      and_put k (w / 2) j (le_of_suc-le-suc hj) (omega (arith, pow-suc 2 k)),
      put_suc w j 0,
    )

shl_one : (k j : ℕ) → j < k → 1 * 2 ^ j % 2 ^ k ≡ 2 ^ j
shl_one k j h = ap (λ (x : ℕ). x % 2 ^ k) (one-mul (2 ^ j)) ∙ mod-eq_of_lt (pow-lt h)

-- ---- as the code writes them, at a width of k bits
-- `w >> j & 1`
pub code_test : (w j : ℕ) → bit_and (w / 2 ^ j) 1 ≡ bit w j
unfolding bit
code_test w j = and_mask (w / 2 ^ j) 1

-- `w | 1 << j`
pub code_set : (k w j : ℕ) → j < k → bit_or w (1 * 2 ^ j % 2 ^ k) ≡ put_bit w j 1
code_set k w j h = ap (bit_or w) (shl_one k j h) ∙ or_put w j

-- `w & !(1 << j)`
pub code_clear : (k w j : ℕ) → j < k → w < 2 ^ k → bit_and w (2 ^ k - 1 - 1 * 2 ^ j % 2 ^ k) ≡ put_bit w j 0
code_clear k w j h hw = ap (λ (x : ℕ). bit_and w (2 ^ k - 1 - x)) (shl_one k j h) ∙ and_put k w j h hw
