-- The roll, of any books and map: offset and size of what the live test finds at each offset, by rising offset. Roll
-- call goes from pool to pool and block to block, and between the blocks the live test finds nothing.
-- Assumes nothing.
use Rattle.std.specs.Prelude.{◌≡◌, Bool, ◌&&◌, if◌then◌else◌}
use Rattle.std.proofs.Math.Path.{refl, sym, ap, ap₂}
use Rattle.std.proofs.Common.{◌∙◌, mul-le-mul_right, div-mul-le_self}
use Rattle.std.proofs.Math.Bool.{true, false}
use mathlib.Core.List.{List, [], ◌∷◌, ◌++◌}
use Prim.Native.Nat.{ℕ, zero, suc, ◌+◌, ◌*◌, ◌/◌, ◌%◌, ◌≤◌, ◌<◌}
use Rattle.std.proofs.Math.Nat.{suc-mul}
use native.Mathlib.Omega.{arith}
use Rattle.std.proofs.Math.Dec.{leb}
use borrow.Author.Tests.{leb-true, ne_eqb, lt-ltb}
use Rattle.rules.specs.Say.{listing}
use Rattle.rules.specs.Books.{memory_length, is_set, class, pool, offset_of}
use Rattle.rules.specs.Blocks.{size_of, last_class, start_of, is_start, block_no, capacity, size_at, live}
use Rattle.rules.specs.View.{roll_blocks, roll_pool, roll_pools, roll}
use Rattle.books.specs.Starts.{start_is, number_is}
use Rattle.books.specs.Sizes.{Aligned, size_low}
use Rattle.sequences.specs.Listing.{
  entry,
  entry_none,
  listing_none,
  listing_add,
  at_steps,
  InBlocks,
  pool_is,
  starts_only,
}

-- ---- what a pool of blocks of the size s holds: at its block starts s where the bit is set, and nothing elsewhere
record Holds (g : ℕ → ℕ) (p s : ℕ) (set : ℕ → Bool) : Type 0 where
  blocks : InBlocks g p s
  first : (k : ℕ) → k < capacity s → g (4096 * p + 48 + k * s) ≡ (if set k then s else 0)

module _ {g : ℕ → ℕ} {p s : ℕ} (m : List ℕ) (H : Holds g p s (λ k. is_set m p k)) where
  -- roll call's blocks are those starts
  blocks_are : (k n : ℕ) → k + n ≤ capacity s → roll_blocks m p s k n ≡ at_steps g (4096 * p + 48 + k * s) s n
  unfolding roll_blocks at_steps
  blocks_are k zero l = refl
  blocks_are k (suc n) l =
      let t : 4096 * p + 48 + k * s + s ≡ 4096 * p + 48 + suc k * s = omega (arith, suc-mul k s) in
      ap₂ (λ (x y : List ℕ). x ++ y)
      (go (is_set m p k) (ap g (sym place) ∙ H.first k (omega arith)) ∙ ap (entry g) (sym place))
      (blocks_are (suc k) n (omega arith) ∙ ap (λ (x : ℕ). at_steps g x s n) (sym t))
    where
      place : 4096 * p + 48 + k * s ≡ offset_of p (start_of s k)
      place = omega arith

      go : (t : Bool) → g (offset_of p (start_of s k)) ≡ (if t then s else 0)
          → (if t then offset_of p (start_of s k) ∷ s ∷ [] else []) ≡ entry g (offset_of p (start_of s k))
      go true e = rw (e, ne_eqb s 0 (omega (arith, H.blocks.some)))
      go false e = sym (entry_none g (offset_of p (start_of s k)) e)

  -- and so a pool is listed as roll call has it
  roll_pool_lem : roll_blocks m p s 0 (capacity s) ≡ listing g (4096 * p) 4096
  roll_pool_lem =
      let z : 4096 * p + 48 + 0 * s ≡ 4096 * p + 48 = omega arith in
      blocks_are 0 (capacity s) (omega arith) ∙ ap (λ (x : ℕ). at_steps g x s (capacity s)) z ∙ sym (pool_is H.blocks)

-- ---- by the live test
module _ {al : ℕ} (L : Aligned al) (A P : ℕ) (b m : List ℕ) where
  -- the size of the live block at o, 0 where there is none
  unfoldable pub size_held : ℕ → ℕ
  size_held o = if live al A P b m o then size_at al A b o else 0

  module _ (p : ℕ) (l : p < A * P) where
    abbrev c : ℕ
    c = pool A b class p

    abbrev s : ℕ
    s = size_of al (pool A b class p)

    at_pool : (x : ℕ) → x < 4096
        → size_held (4096 * p + x) ≡ (if leb c (last_class al) && is_start s x
        && is_set m p (block_no s x) then s else 0)
    unfolding size_held live
    at_pool x u =
        let d : (4096 * p + x) / 4096 ≡ p = omega arith in
        let e : (4096 * p + x) % 4096 ≡ x = omega arith in
        rw (d, e, lt-ltb (4096 * p + x) (memory_length A P) (omega arith))

    -- a pool of no class holds nothing; one of a class holds the blocks whose bits are set
    no_class_lem : leb c (last_class al) ≡ false → listing size_held (4096 * p) 4096 ≡ []
    no_class_lem e = listing_none size_held (4096 * p) 4096 (λ i u. at_pool i u ∙ rw e)

    holds : leb c (last_class al) ≡ true → 8 ≤ s → Holds size_held p s (λ k. is_set m p k)
    holds e eight =
        record {
          blocks = starts_only size_held p s (omega arith) (λ x u off. at_pool x u ∙ rw (e, off));
          first = λ k u.
              let q : 4096 * p + 48 + k * s ≡ 4096 * p + start_of s k = omega arith in
              let f : start_of s k < 4096 = omega (arith, mul-le-mul_right s u, suc-mul k s, div-mul-le_self 4048 s) in
              ap size_held q ∙ at_pool (start_of s k) f ∙ rw (e, start_is s k u, number_is s k (omega arith));
        }

    pub pool_roll : roll_pool al A b m p ≡ listing size_held (4096 * p) 4096
    unfolding roll_pool
    pool_roll = go (leb c (last_class al)) refl
      where
        go : (t : Bool) → leb c (last_class al) ≡ t
            → (if t then roll_blocks m p s 0 (capacity s) else []) ≡ listing size_held (4096 * p) 4096
        go true e = roll_pool_lem m (holds e (size_low L c (leb-true c (last_class al) e)))
        go false e = sym (no_class_lem e)

  -- pool by pool
  pools_roll : (p n : ℕ) → p + n ≤ A * P → roll_pools al A b m p n ≡ listing size_held (4096 * p) (n * 4096)
  unfolding roll_pools
  pools_roll p zero l = sym (listing_none size_held (4096 * p) 0 (λ i u. absurd (omega arith)))
  pools_roll p (suc n) l =
      let q : suc n * 4096 ≡ 4096 + n * 4096 = omega arith in
      let t : 4096 * p + 4096 ≡ 4096 * suc p = omega arith in
      ap₂ (λ (x y : List ℕ). x ++ y) (pool_roll p (omega arith)) (pools_roll (suc p) n (omega arith) ∙ ap (λ (x : ℕ). listing size_held x (n * 4096)) (sym t))
      ∙ sym (ap (listing size_held (4096 * p)) q ∙ listing_add size_held (4096 * p) 4096 (n * 4096))

  pub roll_is : roll al A P b m ≡ listing size_held 0 (memory_length A P)
  roll_is = pools_roll 0 (A * P) (omega arith)
