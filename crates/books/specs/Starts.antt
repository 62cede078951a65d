-- The laws of block starts, once for every block size.
-- Assumes nothing.
use Rattle.std.specs.Prelude.{◌≡◌, refl, Bool, true, false, ◌&&◌, ◌||◌, ℕ, ◌+◌, ◌*◌, ◌-◌, ◌%◌, ◌≤◌, ◌<◌, leb, eqb}
use Rattle.std.proofs.Common.{
  sym,
  ap,
  ◌∙◌,
  div-add-mod',
  div-mul-le_self,
  le-div_iff_mul-le,
  mul-le-mul_left,
  mul-le-mul_right,
  mul-div_cancel,
  arith,
  leb-true,
  eqb-true,
  eq-eqb,
  le-leb,
}
use Rattle.std.proofs.Math.Bool.{or-true}
use Rattle.std.proofs.Math.Nat.{mul-mod_left}
use Rattle.std.proofs.Math.Decide.{dec_lt}
use Rattle.books.specs.Tests.{both}
use Rattle.rules.specs.Blocks.{start_of, last_start, is_start, block_no, capacity}

-- what is known of the start o of a block of size s
pub record Start (s o : ℕ) : Type 0 where
  pub low : 48 ≤ o
  pub ends : o + s ≤ 4096
  pub place : start_of s (block_no s o) ≡ o
  pub number : block_no s o < capacity s
  pub few : block_no s o < 506

-- the largest capacity is that of blocks of 8 bytes
pub capacity_le : (s : ℕ) → 8 ≤ s → capacity s ≤ 506
capacity_le s h = omega (arith, div-mul-le_self 4048 s, mul-le-mul_left (capacity s) h)

-- a start that passes the test is one
pub start : (s o : ℕ) → 8 ≤ s → is_start s o ≡ true → Start s o
unfolding is_start
start s o h e =
    let t = both (leb 48 o && leb o (last_start s)) (eqb ((o - 48) % s) 0) e in
    let r = both (leb 48 o) (leb o (last_start s)) t.0 in
    let low : 48 ≤ o = leb-true 48 o r.0 in
    let high : o ≤ last_start s = leb-true o (last_start s) r.1 in
    let whole : (o - 48) % s ≡ 0 = eqb-true ((o - 48) % s) 0 t.1 in
    let place : start_of s (block_no s o) ≡ o = omega (arith, div-add-mod' (o - 48) s) in
    let number : block_no s o < capacity s = (le-div_iff_mul-le {k = s} (omega arith)).1 (omega arith) in
    record { low = low; ends = omega arith; place = place; number = number; few = omega (arith, capacity_le s h) }

-- block k starts at `start_of s k`, and nothing else starts there
pub start_is : (s k : ℕ) → k < capacity s → is_start s (start_of s k) ≡ true
unfolding is_start
start_is s k l =
    let e : start_of s k - 48 ≡ k * s = omega arith in
    let high : start_of s k ≤ last_start s = omega (arith, mul-le-mul_right s l, div-mul-le_self 4048 s) in
    rw (le-leb 48 (start_of s k) (omega arith), le-leb (start_of s k) (last_start s) high, e, mul-mod_left k s)

pub number_is : (s k : ℕ) → 1 ≤ s → block_no s (start_of s k) ≡ k
number_is s k p = let e : start_of s k - 48 ≡ k * s = omega arith in rw e (mul-div_cancel k p)

-- blocks 0 and 1, which every pool has
pub first_block : (s : ℕ) → 1 ≤ s → s ≤ 4048 → (is_start s 48 ≡ true) × (block_no s 48 ≡ 0)
first_block s l h =
    let e : start_of s 0 ≡ 48 = omega arith in
    (rw e at (start_is s 0 ((le-div_iff_mul-le {k = s} l).1 (omega arith))), rw e at (number_is s 0 l))

pub second_block : (s : ℕ) → 1 ≤ s → s ≤ 2024 → (is_start s (48 + s) ≡ true) × (block_no s (48 + s) ≡ 1)
second_block s l h =
    let e : start_of s 1 ≡ 48 + s = omega arith in
    (rw e at (start_is s 1 ((le-div_iff_mul-le {k = s} l).1 (omega arith))), rw e at (number_is s 1 l))

-- 02, W-201, "a block start or the last block's end": both are where a block would start, of a number up to the
-- capacity
module _ (s o : ℕ) (low : 8 ≤ s) where
  pub next_is : is_start s o || eqb o (start_of s (capacity s)) ≡ true
      → (o ≡ start_of s (block_no s o)) × (block_no s o ≤ capacity s)
  next_is e = go (is_start s o) refl e
    where
      go : (t : Bool) → is_start s o ≡ t → t || eqb o (start_of s (capacity s)) ≡ true
          → (o ≡ start_of s (block_no s o)) × (block_no s o ≤ capacity s)
      go true p q = let S = start s o low p in (sym S.place, omega (arith, S.number))
      go false p q =
          let f : o ≡ start_of s (capacity s) = eqb-true o (start_of s (capacity s)) q in
          let g : block_no s o ≡ capacity s = ap (block_no s) f ∙ number_is s (capacity s) (omega arith) in
          (f ∙ ap (start_of s) (sym g), omega arith)

  pub is_next : (v : ℕ) → o ≡ start_of s v → v ≤ capacity s → is_start s o || eqb o (start_of s (capacity s)) ≡ true
  is_next v e l = go (dec_lt v (capacity s))
    where
      go : Dec (v < capacity s) → is_start s o || eqb o (start_of s (capacity s)) ≡ true
      go (yes d) = rw (e, start_is s v d)
      go (no d) = let q : v ≡ capacity s = omega arith in rw (eq-eqb o (start_of s (capacity s)) (e ∙ ap (start_of s) q), or-true)
