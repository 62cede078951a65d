-- The roll, pool by pool, and how long it can be.
-- Assumes nothing.
use Rattle.std.specs.Prelude.{◌≡◌, Bool, ◌⊎◌, if◌then◌else◌}
use Rattle.std.proofs.Math.Path.{refl}
use Rattle.std.proofs.Math.Bool.{true, false}
use mathlib.Core.List.{List, [], ◌∷◌, ◌++◌}
use Rattle.std.proofs.Math.Logic.{inl, inr}
use Prim.Native.Nat.{ℕ, zero, suc, ◌+◌, ◌*◌, ◌-◌, ◌%◌, ◌≤◌, ◌<◌}
use Rattle.std.proofs.Common.{mul-le-mul, leb-true}
use native.Mathlib.Omega.{arith}
use Rattle.std.proofs.Math.Dec.{leb}
use Rattle.std.proofs.Math.ListN.{length, length-append}
use Rattle.rules.specs.Books.{is_set, class, pool_word, pool, offset_of}
use Rattle.rules.specs.Blocks.{size_of, last_class, start_of, capacity}
use Rattle.rules.specs.View.{roll_blocks, roll_pool, roll_pools}
use Rattle.loops.specs.Left.{Parts, counted}
use Rattle.bits.specs.Map.{none_set, not_set}
use Rattle.loops.specs.Word.{none_rolled}
use Rattle.books.specs.Starts.{capacity_le}
use Rattle.books.specs.Sizes.{Aligned, size_low, size_high}

-- pool p has its record in the books of A arenas, and its words in the map
pub record Stands (A p : ℕ) (b m : List ℕ) : Type 0 where
  pub pool : p < 1024
  pub books : pool_word A 8 p ≤ length b
  pub map : 8 * p + 8 ≤ length m

-- books and map have the words of A arenas and n pools
pub record Pools (A n : ℕ) (b m : List ℕ) : Type 0 where
  pub few : n ≤ 1024
  pub books : length b ≡ 72 + 8 * A + 8 * n
  pub map : length m ≡ 8 * n

-- ---- a pool's blocks, of size s
-- two words for each at most
pub length_blocks : (m : List ℕ) (p s k n : ℕ) → length (roll_blocks m p s k n) ≤ 2 * n
unfolding roll_blocks
length_blocks m p s k zero = omega arith
length_blocks m p s k (suc n) = go (is_set m p k) (length_blocks m p s (suc k) n)
  where
    go : (t : Bool) → length (roll_blocks m p s (suc k) n) ≤ 2 * n
        → length ((if t then offset_of p (start_of s k) ∷ s ∷ [] else []) ++ roll_blocks m p s (suc k) n) ≤ 2 * suc n
    go true h = omega arith
    go false h = omega arith

-- ---- the pools
-- the roll, pool by pool
pub roll_parts : (al A : ℕ) (b m : List ℕ) (n : ℕ)
    → Parts (roll_pools al A b m 0 n) n (λ p. roll_pools al A b m p (n - p)) (λ p. roll_pool al A b m p)
unfolding roll_pools
roll_parts al A b m = counted (roll_pools al A b m) (λ p n. roll_pool al A b m p) (λ p. refl) (λ p n. refl)

-- a pool with no bit set has none, whatever its class
no_bits : (al A : ℕ) (b m : List ℕ) (p : ℕ) → 8 ≤ al → none_set m p ≡ true → roll_pool al A b m p ≡ []
unfolding roll_pool
no_bits al A b m p h e =
    let c = pool A b class p in
    let s = size_of al c in
    let one : 1 ≤ c + 1 = omega arith in
    let few = capacity_le s (mul-le-mul h one) in
    go (leb c (last_class al)) (none_rolled m p s 0 (capacity s) (λ j l. not_set m p e j (omega arith)))
  where
    go : (t : Bool) {l : List ℕ} → l ≡ [] → (if t then l else []) ≡ []
    go true f = f
    go false f = refl

-- a class's size is a multiple of 8
pub eights : {al : ℕ} → Aligned al → (c : ℕ) → size_of al c % 8 ≡ 0
eights {al} L c = go L.is
  where
    go : (al ≡ 8) ⊎ (al ≡ 16) → size_of al c % 8 ≡ 0
    go (inl e) = rw e (omega arith)
    go (inr e) = rw e (omega arith)

-- the size of pool p's blocks, where a bit of it is set and it has a class, and otherwise 0
unfoldable pub pool_size : ℕ → ℕ → List ℕ → List ℕ → ℕ → ℕ
pool_size al A b m p =
    if none_set m p then 0
    else if leb (pool A b class p) (last_class al) then size_of al (pool A b class p)
    else 0

module _ {al : ℕ} (L : Aligned al) (A : ℕ) (b m : List ℕ) (p : ℕ) where
  -- why it is 0; what it is otherwise
  pub unsized : pool_size al A b m p ≡ 0 → (none_set m p ≡ true) ⊎ (leb (pool A b class p) (last_class al) ≡ false)
  unfolding pool_size
  unsized z = go (none_set m p) refl (leb (pool A b class p) (last_class al)) refl z
    where
      go : (t : Bool) → none_set m p ≡ t → (u : Bool) → leb (pool A b class p) (last_class al) ≡ u
          → (if t then 0 else if u then size_of al (pool A b class p) else 0) ≡ 0
          → (none_set m p ≡ true) ⊎ (leb (pool A b class p) (last_class al) ≡ false)
      go true e u f z = inl e
      go false e true f z = absurd (omega (arith, z, size_low L (pool A b class p) (leb-true _ _ f)))
      go false e false f z = inr f

  pub sized : (pool_size al A b m p ≡ 0 → ⊥)
      → (leb (pool A b class p) (last_class al) ≡ true) × (pool_size al A b m p ≡ size_of al (pool A b class p))
  unfolding pool_size
  sized d = go (none_set m p) (leb (pool A b class p) (last_class al)) refl d
    where
      go : (t u : Bool) → leb (pool A b class p) (last_class al) ≡ u
          → ((if t then 0 else if u then size_of al (pool A b class p) else 0) ≡ 0 → ⊥)
          → (leb (pool A b class p) (last_class al) ≡ true)
          × ((if t then 0 else if u then size_of al (pool A b class p) else 0) ≡ size_of al (pool A b class p))
      go true u f d = absurd (d refl)
      go false true f d = (f, refl)
      go false false f d = absurd (d refl)

  -- then it is a block's size
  pub size_fits : (pool_size al A b m p ≡ 0 → ⊥)
      → let s = pool_size al A b m p in (8 ≤ s) × (s ≤ 512) × (s % 8 ≡ 0)
  size_fits d =
      let t = sized d in
      let c = pool A b class p in
      let l = leb-true c (last_class al) t.0 in
      rw t.1 (size_low L c l, size_high L c l, eights L c)

  -- the roll by it: a pool where it is 0 has none, and any other the blocks of that size
  pub no_size : pool_size al A b m p ≡ 0 → roll_pool al A b m p ≡ []
  unfolding roll_pool
  no_size z = go (unsized z)
    where
      go : (none_set m p ≡ true) ⊎ (leb (pool A b class p) (last_class al) ≡ false) → roll_pool al A b m p ≡ []
      go (inl e) = no_bits al A b m p L.low e
      go (inr f) = rw f

  pub of_size : (pool_size al A b m p ≡ 0 → ⊥)
      → let s = pool_size al A b m p in roll_pool al A b m p ≡ roll_blocks m p s 0 (capacity s)
  unfolding roll_pool
  of_size d = let t = sized d in rw (t.0, t.1)

  -- and where the code has the size
  pub by_size : (s : ℕ) → s ≡ pool_size al A b m p → 8 ≤ s → roll_pool al A b m p ≡ roll_blocks m p s 0 (capacity s)
  by_size s e l = rw e (of_size (λ z. omega (arith, e, z)))

-- ---- so the roll of n pools has 1,012 words for each of them at most
module _ (al A : ℕ) (b m : List ℕ) (h : 8 ≤ al) where
  pub length_pool : (p : ℕ) → length (roll_pool al A b m p) ≤ 1012
  unfolding roll_pool
  length_pool p =
      let c = pool A b class p in
      let e : 1 ≤ c + 1 = omega arith in
      go (leb c (last_class al)) (size_of al c) (mul-le-mul h e)
    where
      go : (t : Bool) (s : ℕ) → 8 ≤ s → length (if t then roll_blocks m p s 0 (capacity s) else []) ≤ 1012
      go true s l = omega (arith, length_blocks m p s 0 (capacity s), capacity_le s l)
      go false s l = omega arith

  pub length_roll : (p n : ℕ) → length (roll_pools al A b m p n) ≤ 1012 * n
  unfolding roll_pools
  length_roll p zero = omega arith
  length_roll p (suc n) =
      omega (arith, length-append (roll_pool al A b m p) (roll_pools al A b m (suc p) n), length_pool p, length_roll (suc p) n)
