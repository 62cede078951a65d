-- What one live block more makes of the roll: it is two words longer. The books and the map may be any, and the
-- alignment any from 8 on.
-- Assumes nothing.
use Rattle.std.specs.Prelude.{◌≡◌, refl, ◌≢◌, Bool, true, false, List, [], ◌∷◌, ◌++◌, leb, if◌then◌else◌}
use Rattle.std.proofs.Common.{sym, ◌∙◌, mul-le-mul, arith, length-append}
use Rattle.std.proofs.Math.Path.{ap}
use Prim.Native.Nat.{ℕ, zero, suc, ◌+◌, ◌*◌, ◌≤◌, ◌<◌}
use Rattle.std.proofs.Math.Decide.{ℕ_discrete}
use Rattle.std.proofs.Math.ListN.{length}
use borrow.Author.Tests.{le-leb}
use Rattle.rules.specs.Books.{map_word, is_set, put_map_bit, class, pool, offset_of}
use Rattle.rules.specs.Blocks.{size_of, last_class, start_of, capacity}
use Rattle.rules.specs.View.{roll_blocks, roll_pool, roll_pools, roll}
use Rattle.bits.specs.Map.{put_same_block, put_other_block}
use Rattle.books.specs.Starts.{capacity_le}
use Rattle.loops.specs.Word.{none_rolled}

-- ---- a list in parts, n of them from part k on
record InParts (all : ℕ → ℕ → List ℕ) (part : ℕ → List ℕ) : Type 0 where
  none : (k : ℕ) → all k zero ≡ []
  more : (k n : ℕ) → all k (suc n) ≡ part k ++ all (suc k) n

-- two such lists
module _ {all all' : ℕ → ℕ → List ℕ} {part part' : ℕ → List ℕ} (made : InParts all part) (made' : InParts all' part') where
  -- each by its first part
  first : (k n : ℕ)
      → (length (all k (suc n)) ≡ length (part k) + length (all (suc k) n))
      × (length (all' k (suc n)) ≡ length (part' k) + length (all' (suc k) n))
  first k n = (
    ap length (made.more k n) ∙ length-append (part k) (all (suc k) n),
    ap length (made'.more k n) ∙ length-append (part' k) (all' (suc k) n),
  )

  -- they are equally long where their parts are
  equally_long : (k n : ℕ) → ((j : ℕ) → k ≤ j → j < k + n → length (part' j) ≡ length (part j))
      → length (all' k n) ≡ length (all k n)
  equally_long k zero same = ap length (made'.none k ∙ sym (made.none k))
  equally_long k (suc n) same =
      let rest = equally_long (suc k) n (λ j l h. same j (omega arith) (omega arith)) in
      omega (arith, (first k n).0, (first k n).1, rest, same k (omega arith) (omega arith))

  -- the second is two longer where one of its parts is, and the others are equally long
  two_longer : (i k n : ℕ) → k ≤ i → i < k + n → length (part' i) ≡ length (part i) + 2
      → ((j : ℕ) → j < k + n → j ≢ i → length (part' j) ≡ length (part j))
      → length (all' k n) ≡ length (all k n) + 2
  two_longer i k zero low high here same = absurd (omega arith)
  two_longer i k (suc n) low high here same = go (ℕ_discrete k i) (λ l h. two_longer i (suc k) n l h here)
    where
      go : Dec (k ≡ i)
          → (suc k ≤ i → i < suc k + n → ((j : ℕ) → j < suc k + n → j ≢ i → length (part' j) ≡ length (part j))
          → length (all' (suc k) n) ≡ length (all (suc k) n) + 2)
          → length (all' k (suc n)) ≡ length (all k (suc n)) + 2
      go (yes e) after =
          let rest = equally_long (suc k) n (λ j l h. same j (omega arith) (omega arith)) in
          omega (arith, (first k n).0, (first k n).1, rest, ap (λ (j : ℕ). length (part' j)) e, ap (λ (j : ℕ). length (part j)) e)
      go (no d) after =
          let rest = after (omega arith) (omega arith) (λ j h. same j (omega arith)) in
          omega (arith, (first k n).0, (first k n).1, rest, same k (omega arith) d)

-- ---- the map m' has one block more than m: block i of pool p
pub record OneMore (p i : ℕ) (m m' : List ℕ) : Type 0 where
  pub clear : is_set m p i ≡ false
  pub set : is_set m' p i ≡ true
  pub others : (y j : ℕ) → j < 512 → (y ≡ p → j ≡ i → ⊥) → is_set m' y j ≡ is_set m y j

module _ (m : List ℕ) (p i : ℕ) (few : i < 512) (inside : map_word p i < length m) where
  -- its bit is set, or cleared
  pub one_set : is_set m p i ≡ false → OneMore p i m (put_map_bit p i 1 m)
  one_set e = record {
    clear = e;
    set = put_same_block m p i 1 (omega arith) inside;
    others = λ y j l d. put_other_block m p i 1 y j (omega arith) few l d;
  }

  pub one_cleared : is_set m p i ≡ true → OneMore p i (put_map_bit p i 0 m) m
  one_cleared e = record {
    clear = put_same_block m p i 0 (omega arith) inside;
    set = e;
    others = λ y j l d. sym (put_other_block m p i 0 y j (omega arith) few l d);
  }

-- ---- the parts of the roll
-- of block j of pool p, of size s, whose bit is set or not
abbrev entry : ℕ → ℕ → ℕ → Bool → List ℕ
entry p s j t = if t then offset_of p (start_of s j) ∷ s ∷ [] else []

blocks_made : (m : List ℕ) (p s : ℕ) → InParts (roll_blocks m p s) (λ j. entry p s j (is_set m p j))
unfolding roll_blocks
blocks_made m p s = record { none = λ k. refl; more = λ k n. refl }

pools_made : (al A : ℕ) (b m : List ℕ) → InParts (roll_pools al A b m) (roll_pool al A b m)
unfolding roll_pools
pools_made al A b m = record { none = λ k. refl; more = λ k n. refl }

-- ---- the roll, before by the books b and the map m, after by b' and m', which has one block more
module _ (al A : ℕ) (wide : 8 ≤ al) (b b' m m' : List ℕ) (p i : ℕ) (one : OneMore p i m m') where
  size_low : (c : ℕ) → 8 ≤ size_of al c
  size_low c = let some : 1 ≤ c + 1 = omega arith in mul-le-mul wide some

  -- pool p's blocks, of size s, of which block i is one
  blocks_longer : (s : ℕ) → 8 ≤ s → i < capacity s
      → length (roll_blocks m' p s 0 (capacity s)) ≡ length (roll_blocks m p s 0 (capacity s)) + 2
  blocks_longer s low l =
      let few = capacity_le s low in
      two_longer (blocks_made m p s) (blocks_made m' p s) i 0 (capacity s) (omega arith) (omega arith)
      (rw (one.clear, one.set))
      (λ j h d. ap (λ (t : Bool). length (entry p s j t)) (one.others p j (omega arith) (λ _. d)))

  -- another pool, whose class is the same
  pool_same : (y : ℕ) → y ≢ p → pool A b' class y ≡ pool A b class y
      → length (roll_pool al A b' m' y) ≡ length (roll_pool al A b m y)
  unfolding roll_pool
  pool_same y d same = rw same (go (leb c (last_class al)) (size_of al c) (size_low c))
    where
      c : ℕ
      c = pool A b class y

      go : (t : Bool) (s : ℕ) → 8 ≤ s
          → length (if t then roll_blocks m' y s 0 (capacity s) else [])
          ≡ length (if t then roll_blocks m y s 0 (capacity s) else [])
      go true s low =
          let few = capacity_le s low in
          equally_long (blocks_made m y s) (blocks_made m' y s) 0 (capacity s)
          (λ j l h. ap (λ (t : Bool). length (entry y s j t)) (one.others y j (omega arith) (λ e _. d e)))
      go false s low = refl

  -- pool p, of the same class c
  pub pool_longer : (c : ℕ) → pool A b class p ≡ c → pool A b' class p ≡ c → c ≤ last_class al
      → i < capacity (size_of al c) → length (roll_pool al A b' m' p) ≡ length (roll_pool al A b m p) + 2
  unfolding roll_pool
  pool_longer c e e' h l = rw (e, e', le-leb c (last_class al) h) (blocks_longer (size_of al c) (size_low c) l)

  -- pool p, of whatever class, with no block live before; c is its class after
  pub pool_begun : (c : ℕ) → ((j : ℕ) → j < 512 → is_set m p j ≡ false) → pool A b' class p ≡ c → c ≤ last_class al
      → i < capacity (size_of al c) → length (roll_pool al A b' m' p) ≡ length (roll_pool al A b m p) + 2
  unfolding roll_pool
  pool_begun c clear e h l =
      let after = blocks_longer (size_of al c) (size_low c) l in
      let empty = dead (size_of al c) (size_low c) in
      let before = go (leb (pool A b class p) (last_class al)) (pool A b class p) in
      rw (e, le-leb c (last_class al) h) (omega (arith, after, empty, before))
    where
      dead : (s : ℕ) → 8 ≤ s → length (roll_blocks m p s 0 (capacity s)) ≡ 0
      dead s low = let few = capacity_le s low in ap length (none_rolled m p s 0 (capacity s) (λ j u. clear j (omega arith)))

      go : (t : Bool) (d : ℕ) → length (if t then roll_blocks m p (size_of al d) 0 (capacity (size_of al d)) else
          []) ≡ 0
      go true d = dead (size_of al d) (size_low d)
      go false d = refl

  -- the whole roll is two words longer where pool p's is, and no other pool's class differs
  pub roll_longer : (P : ℕ) → p < A * P → length (roll_pool al A b' m' p) ≡ length (roll_pool al A b m p) + 2
      → ((y : ℕ) → y ≢ p → pool A b' class y ≡ pool A b class y)
      → length (roll al A P b' m') ≡ length (roll al A P b m) + 2
  roll_longer P there here same =
      two_longer (pools_made al A b m) (pools_made al A b' m') p 0 (A * P) (omega arith) (omega arith) here
      (λ y l d. pool_same y d (same y d))
