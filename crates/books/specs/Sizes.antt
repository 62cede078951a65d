-- What is known of an edition's alignment, 8 or 16, of block sizes and capacities at it, and of how many blocks a pool
-- is to have on its chain.
-- Assumes nothing.
use Rattle.std.specs.Prelude.{◌≡◌, refl, ◌⊎◌, Bool, true, false, not, ◌&&◌, List, ℕ, ◌+◌, ◌*◌, ◌-◌, ◌/◌, ◌^◌, ◌≤◌, ◌<◌, leb, ltb, if◌then◌else◌}
use Rattle.std.proofs.Common.{inl, inr, mod-lt, mul-add, mul-one, div-lt_iff_lt-mul, le-div_iff_mul-le, div-mul-le_self, arith, ne_eqb, le-leb}
use Rattle.std.proofs.Math.Nat.{div-add-mod}
use Rattle.std.proofs.Math.Decide.{ℕ_discrete}
use Rattle.std.specs.Int.Bits.{bit_or, or_step, or_zero_r}
use Rattle.std.proofs.lemmas.Bool.{lt-leb}
use Rattle.rules.specs.Books.{alignment_of, class, pool, carved}
use Rattle.rules.specs.Blocks.{class_of, size_of, last_class, capacity}
use Rattle.rules.specs.Audit.{set_bits, in_use, blocks_of, has_spare, least_on_chain}
use Rattle.books.specs.Starts.{capacity_le}

-- an alignment at which the laws hold
pub record Aligned (al : ℕ) : Type 0 where
  pub is : (al ≡ 8) ⊎ (al ≡ 16)
  pub low : 8 ≤ al

-- and so those of the two editions
eight : Aligned 8
eight = record { is = inl refl; low = omega arith }

sixteen : Aligned 16
sixteen = record { is = inr refl; low = omega arith }

pub of_eight : (e : ℕ) → e ≡ 0 → alignment_of e ≡ 8
unfolding alignment_of
of_eight e z = rw z

pub of_sixteen : (e : ℕ) → (e ≡ 0 → ⊥) → alignment_of e ≡ 16
unfolding alignment_of
of_sixteen e d = rw (ne_eqb e 0 d)

-- as the code has a class and its size: from a size in eights, by the edition
pub shifted : (e : ℕ) → e ≤ 1 → (n : ℕ) → (n - 1) / 8 / 2 ^ e ≡ class_of (alignment_of e) n
shifted e l n = go (ℕ_discrete e 0)
  where
    go : Dec (e ≡ 0) → (n - 1) / 8 / 2 ^ e ≡ class_of (alignment_of e) n
    go (yes z) = rw (of_eight e z, z) (omega arith)
    go (no d) = let o : e ≡ 1 = omega arith in rw (of_sixteen e d, o) (omega arith)

pub rounded : (e : ℕ) → e ≤ 1 → (n : ℕ)
    → 8 * (bit_or ((n - 1) / 8) e + 1) ≡ size_of (alignment_of e) (class_of (alignment_of e) n)
rounded e l n = go (ℕ_discrete e 0)
  where
    go : Dec (e ≡ 0) → 8 * (bit_or ((n - 1) / 8) e + 1) ≡ size_of (alignment_of e) (class_of (alignment_of e) n)
    go (yes z) = rw (of_eight e z, z, or_zero_r ((n - 1) / 8))
    go (no d) =
        let o : e ≡ 1 = omega arith in
        rw (of_sixteen e d, o) (omega (arith, or_step ((n - 1) / 8) 1, or_zero_r ((n - 1) / 8 / 2)))

pub aligned : (e : ℕ) → Aligned (alignment_of e)
aligned e = go (ℕ_discrete e 0)
  where
    go : Dec (e ≡ 0) → Aligned (alignment_of e)
    go (yes z) = rw (of_eight e z) eight
    go (no d) = rw (of_sixteen e d) sixteen

-- a number is a class exactly if its size is at most the largest
pub class_size : {al : ℕ} → Aligned al → (c : ℕ)
    → (c ≤ last_class al → size_of al c ≤ 512) × (size_of al c ≤ 512 → c ≤ last_class al)
class_size {al} L c = go L.is
  where
    go : (al ≡ 8) ⊎ (al ≡ 16) → (c ≤ last_class al → size_of al c ≤ 512) × (size_of al c ≤ 512 → c ≤ last_class al)
    go (inl e) = rw e (λ l. omega arith, λ l. omega arith)
    go (inr e) = rw e (λ l. omega arith, λ l. omega arith)

module _ {al : ℕ} (L : Aligned al) (c : ℕ) (l : c ≤ last_class al) where
  pub size_low : 8 ≤ size_of al c
  size_low = omega (arith, mul-add al c 1, mul-one al, L.low)

  pub size_high : size_of al c ≤ 512
  size_high = (class_size L c).0 l

  pub capacity_high : capacity (size_of al c) ≤ 506
  capacity_high = capacity_le (size_of al c) size_low

  pub capacity_low : 2 ≤ capacity (size_of al c)
  capacity_low = (le-div_iff_mul-le {k = size_of al c} {x = 2} {y = 4048} (omega (arith, size_low))).1 (omega (arith, size_high))

  -- 64 class heads are enough
  pub class_low : c < 64
  class_low = omega (arith, l, last_low)
    where
      last_low : last_class al < 64
      last_low = (div-lt_iff_lt-mul {k = al} {x = 511} {y = 64} (omega (arith, L.low))).1 (omega (arith, L.low))

-- 02, W-201, "a class above 63 has no blocks": a class has as many as its capacity
pub blocks_are : (al c : ℕ) → c ≤ last_class al → blocks_of al c ≡ capacity (size_of al c)
unfolding blocks_of
blocks_are al c l = rw (le-leb c (last_class al) l)

-- "with two at least on the chain if the pool is freed, one unless it is full": by how many of its blocks are live
abbrev pub least_by : ℕ → ℕ → ℕ
least_by live blocks = if ltb 0 live then (if ltb live blocks then 1 else 0) else 2

-- which is what a carved pool of a class is asked for
pub least_is : (al A P : ℕ) (b map : List ℕ) (n : ℕ) → carved P b n ≡ true → pool A b class n ≤ last_class al
    → least_on_chain al A P b map n ≡ least_by (set_bits map n) (capacity (size_of al (pool A b class n)))
unfolding in_use has_spare
least_is al A P b map n e l =
    rw (e, blocks_are al (pool A b class n) l) (go (ltb 0 (set_bits map n)) (ltb (set_bits map n) (capacity (size_of al (pool A b class n)))))
  where
    go : (t u : Bool)
        → ◌≡◌ {A = ℕ} (if not t then 2 else if t && not u then 0 else 1) (if t then (if u then 1 else 0) else 2)
    go true true = refl
    go true false = refl
    go false u = refl

-- the test of a class, by its size
pub no_class_lem : {al : ℕ} → Aligned al → (c : ℕ) → 512 < size_of al c → leb c (last_class al) ≡ false
no_class_lem {al} L c l = let d : ¬ (c ≤ last_class al) = λ h. absurd (omega (arith, l, (class_size L c).0 h)) in lt-leb c (last_class al) (omega (arith, d))

pub a_class : {al : ℕ} → Aligned al → (c : ℕ) → size_of al c ≤ 512 → leb c (last_class al) ≡ true
a_class {al} L c l = le-leb c (last_class al) ((class_size L c).1 l)

-- a size from 1 to 512 has a class
pub has_class : {al : ℕ} → Aligned al → (n : ℕ) → n ≤ 512 → class_of al n ≤ last_class al
has_class {al} L n l = (le-div_iff_mul-le {k = al} {x = class_of al n} {y = 511} (omega (arith, L.low))).1 (omega (arith, div-mul-le_self (n - 1) al))

-- a size is at most the block size of its class
pub class_fits : {al : ℕ} → Aligned al → (n : ℕ) → n ≤ size_of al (class_of al n)
class_fits {al} L n = omega (arith, div-add-mod (n - 1) al, mod-lt (n - 1) {m = al} (omega (arith, L.low)), mul-add al (class_of al n) 1, mul-one al)
