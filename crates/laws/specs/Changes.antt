-- W-212, over any two heaps at all: the changes in live blocks that compare gives, class by class. They add up to the
-- difference of the two roll counts, because each block that roll call lists is of one class.
-- Assumes nothing.
use Rattle.std.specs.Prelude.{◌≡◌, ◌↔◌, ◌⊎◌, Bool, ◌&&◌, List, [], ◌∷◌, leb, eqb, ℤ, ◌+ℤ◌, ◌-ℤ◌, if◌then◌else◌}
use Rattle.std.proofs.Math.Path.{refl, sym, ap, ap₂}
use Rattle.std.proofs.Common.{◌∙◌, mul-add, mul-one}
use Rattle.std.proofs.Math.Logic.{inl, inr}
use Rattle.std.proofs.Math.Bool.{true, false, not}
use Prim.Native.Nat.{ℕ, zero, suc, ◌+◌, ◌*◌, ◌-◌, ◌/◌, ◌≤◌, ◌<◌}
use Rattle.std.proofs.Math.Decide.{ℕ_discrete, dec_lt}
use native.Mathlib.Omega.{arith}
use Rattle.std.proofs.Math.Dec.{ltb}
use Rattle.std.proofs.Math.IntN.{pos, neg_ℤ, nat_abs, +ℤ_assoc, +ℤ_comm, +ℤ_idl, +ℤ_idr, -ℤ-+ℤ_cancel, neg_ℤ-+ℤ, neg_ℤ-neg_ℤ}
use Rattle.std.proofs.Math.ListN.{length, length-append}
use borrow.Author.Tests.{eq-eqb, ne_eqb, le-leb, lt-leb, lt-ltb, le-ltb}
use Rattle.rules.specs.Say.{how_many, total, listing}
use Rattle.rules.specs.Books.{
  Heap,
  memory_length,
  is_set,
  arenas,
  pools,
  edition,
  alignment_of,
  alignment,
  class,
  pool,
  offset_of,
}
use Rattle.rules.specs.Blocks.{size_of, last_class, capacity, start_of, class_at, size_at}
use Rattle.rules.specs.View.{roll_blocks, roll_pool, roll_pools}
use Rattle.rules.specs.Numbers.{roll_of}
use Rattle.rules.specs.Compare.{is_live, live_in_pool, live_of_class, change_from, change_of, classes, changes_from, changes}
use Rattle.books.specs.Known.{live_is}
use Rattle.books.specs.Starts.{capacity_le}
use Rattle.books.specs.Tests.{either}
use Rattle.books.specs.Sizes.{Aligned, aligned, size_low}
use Rattle.sequences.specs.Counting.{many_same, many_le}
use Rattle.sequences.specs.Listing.{listing_alike, listing_none, listing_add, listing_count}
use Rattle.laws.specs.Roll.{size_held, pool_roll}

-- ---- totals
-- of nothing; of sums; of numbers that are at most m
total_none : (n : ℕ) → total (λ k. 0) n ≡ 0
unfolding total
total_none zero = refl
total_none (suc n) = omega (arith, total_none n)

total_add : (f g : ℕ → ℕ) (n : ℕ) → total (λ k. f k + g k) n ≡ total f n + total g n
unfolding total
total_add f g zero = refl
total_add f g (suc n) = omega (arith, total_add f g n)

total_le : (f : ℕ → ℕ) (m n : ℕ) → ((k : ℕ) → f k ≤ m) → total f n ≤ n * m
unfolding total
total_le f m zero e = omega arith
total_le f m (suc n) e = omega (arith, e n, total_le f m n e)

-- by rows or by columns
total_turned : (g : ℕ → ℕ → ℕ) (m n : ℕ) → total (λ c. total (g c) n) m ≡ total (λ p. total (λ c. g c p) m) n
unfolding total
total_turned g zero n = sym (total_none n)
total_turned g (suc m) n =
    ap (λ (x : ℕ). total (g m) n + x) (total_turned g m n) ∙ sym (total_add (g m) (λ p. total (λ c. g c p) m) n)

-- of numbers that are 0 but at x
total_one : (f : ℕ → ℕ) (x n : ℕ) → total (λ c. if eqb x c then f c else 0) n ≡ (if ltb x n then f x else 0)
unfolding total
total_one f x zero = rw (le-ltb x 0 (omega arith))
total_one f x (suc n) = go (ℕ_discrete x n) (total_one f x n)
  where
    go : Dec (x ≡ n) → total (λ c. if eqb x c then f c else 0) n ≡ (if ltb x n then f x else 0)
        → (if eqb x n then f n else 0) + total (λ c. if eqb x c then f c else 0) n ≡ (if ltb x (suc n) then f x else 0)
    go (yes q) t = rw (eq-eqb x n q, lt-ltb x (suc n) (omega arith), t, le-ltb x n (omega arith)) (omega (arith, ap f q))
    go (no q) t = rw (ne_eqb x n q, t) (by_low (dec_lt x n))
      where
        by_low : Dec (x < n) → 0 + (if ltb x n then f x else 0) ≡ (if ltb x (suc n) then f x else 0)
        by_low (yes l) = rw (lt-ltb x n l, lt-ltb x (suc n) (omega arith)) (omega arith)
        by_low (no l) = rw (le-ltb x n (omega arith), le-ltb x (suc n) (omega arith))

-- ---- how many blocks a roll lists, class by class
-- of n blocks from block k on, two words for each bit that is set
blocks_count : (m : List ℕ) (p s k n : ℕ)
    → length (roll_blocks m p s k n) + 2 * how_many (λ j. is_set m p j) k ≡ 2 * how_many (λ j. is_set m p j) (k + n)
unfolding roll_blocks how_many
blocks_count m p s k zero = let z : k + 0 ≡ k = omega arith in rw z (omega arith)
blocks_count m p s k (suc n) =
    let q : k + suc n ≡ suc k + n = omega arith in
    rw q
    (omega (
      arith,
      length-append (if is_set m p k then offset_of p (start_of s k) ∷ s ∷ [] else []) (roll_blocks m p s (suc k) n),
      blocks_count m p s (suc k) n,
      two (is_set m p k),
    ))
  where
    two : (t : Bool) → length (if t then offset_of p (start_of s k) ∷ s ∷ [] else []) ≡ 2 * (if t then 1 else 0)
    two true = refl
    two false = refl

module _ (h : Heap) where
  abbrev al : ℕ
  al = alignment h

  -- how many blocks of pool p are live, of any class
  abbrev live_pool : ℕ → ℕ
  live_pool p = total (λ c. live_in_pool h c p) (classes h)

  -- the class of pool p; how many bits of it are set at blocks of class n
  abbrev c : ℕ → ℕ
  c p = pool (arenas h) h.books class p

  abbrev set : ℕ → ℕ → ℕ
  set p n = how_many (λ j. is_set h.map p j) (capacity (size_of al n))

  -- a pool of a class has two words in the roll for each bit that is set at a block of it
  of_class : (p : ℕ) → c p ≤ last_class al → length (roll_pool al (arenas h) h.books h.map p) ≡ 2 * set p (c p)
  unfolding roll_pool how_many
  of_class p l =
      let n = capacity (size_of al (c p)) in
      let z : 0 + n ≡ n = omega arith in
      rw (le-leb (c p) (last_class al) l)
      (omega (arith, blocks_count h.map p (size_of al (c p)) 0 n, ap (how_many (λ j. is_set h.map p j)) z))

  -- and so any pool, for each live block of each class
  pool_count : (p : ℕ) → length (roll_pool al (arenas h) h.books h.map p) ≡ 2 * live_pool p
  unfolding roll_pool live_in_pool
  pool_count p = go (dec_lt (c p) (last_class al + 1)) ∙ ap (λ (x : ℕ). 2 * x) (sym (total_one (set p) (c p) (last_class al + 1)))
    where
      go : Dec (c p < last_class al + 1)
          → length (roll_pool al (arenas h) h.books h.map p)
          ≡ 2 * (if ltb (c p) (last_class al + 1) then set p (c p) else 0)
      go (yes l) = rw (lt-ltb (c p) (last_class al + 1) l) (of_class p (omega arith))
      go (no l) = rw (lt-leb (c p) (last_class al) (omega arith), le-ltb (c p) (last_class al + 1) (omega arith))

  -- n pools from pool p on, and those below
  pools_count : (p n : ℕ)
      → length (roll_pools al (arenas h) h.books h.map p n) + 2 * total live_pool p ≡ 2 * total live_pool (p + n)
  unfolding roll_pools total
  pools_count p zero = let z : p + 0 ≡ p = omega arith in rw z (omega arith)
  pools_count p (suc n) =
      let q : p + suc n ≡ suc p + n = omega arith in
      rw q
      (omega (
        arith,
        length-append (roll_pool al (arenas h) h.books h.map p) (roll_pools al (arenas h) h.books h.map (suc p) n),
        pools_count (suc p) n,
        pool_count p,
      ))

  -- so the roll has two words for each live block of each class
  roll_count : length (roll_of h) ≡ 2 * total (live_of_class h) (classes h)
  unfolding total
  roll_count =
      let z : 0 + arenas h * pools h ≡ arenas h * pools h = omega arith in
      let t : length (roll_of h) ≡ 2 * total live_pool (arenas h * pools h) =
      omega (arith, pools_count 0 (arenas h * pools h), ap (total live_pool) z) in
      t ∙ ap (λ (x : ℕ). 2 * x) (sym (total_turned (live_in_pool h) (classes h) (arenas h * pools h)))

-- ---- and by 01's live test
-- how many offsets of memory are live, in a pool of class c
abbrev pub live_with : Heap → ℕ → ℕ
live_with h c =
    how_many (λ o. is_live h o && eqb (class_at (arenas h) h.books o) c) (memory_length (arenas h) (pools h))

module _ (h : Heap) (c : ℕ) (low : c ≤ last_class (alignment h)) where
  abbrev A : ℕ
  A = arenas h

  abbrev P : ℕ
  P = pools h

  L : Aligned (alignment h)
  L = aligned (edition h)

  -- the size of the live block at o, in a pool of class c
  abbrev at_class : ℕ → ℕ
  at_class o = if eqb (class_at A h.books o) c then size_held L A P h.books h.map o else 0

  -- it is not 0 exactly if o is live, in such a pool
  at_class_lem : (o : ℕ) → not (eqb (at_class o) 0) ≡ (is_live h o && eqb (class_at A h.books o) c)
  unfolding size_held
  at_class_lem o = go (is_live h o) (eqb (class_at A h.books o) c) refl
    where
      go : (t u : Bool) → is_live h o ≡ t
          → not (eqb (if u then (if t then size_at (alignment h) A h.books o else 0) else 0) 0) ≡ (t && u)
      go true true e =
          let l = size_low L (class_at A h.books o) (live_is L A P h.books h.map o e).class in
          rw (ne_eqb (size_at (alignment h) A h.books o) 0 (λ q. absurd (omega arith)))
      go true false e = refl
      go false true e = refl
      go false false e = refl

  -- pool by pool
  one_pool : (p : ℕ) → p < A * P → length (listing at_class (4096 * p) 4096) ≡ 2 * live_in_pool h c p
  unfolding live_in_pool
  one_pool p l = go (ℕ_discrete (pool A h.books class p) c)
    where
      in_pool_lem : (i : ℕ) → i < 4096 → (4096 * p + i) / 4096 ≡ p
      in_pool_lem i u = omega arith

      go : Dec (pool A h.books class p ≡ c) → length (listing at_class (4096 * p) 4096)
          ≡ 2 * (if eqb (pool A h.books class p) c then set h p c else 0)
      go (yes q) =
          ap length (listing_alike at_class (size_held L A P h.books h.map) (4096 * p) 4096 (λ i u. rw (in_pool_lem i u, eq-eqb _ c q))
          ∙ sym (pool_roll L A P h.books h.map p l))
          ∙ of_class h p (rw q low)
          ∙ rw (eq-eqb _ c q, q)
      go (no q) = ap length (listing_none at_class (4096 * p) 4096 (λ i u. rw (in_pool_lem i u, ne_eqb _ c q))) ∙ rw (ne_eqb _ c q)

  pools_are : (p n : ℕ) → p + n ≤ A * P
      → length (listing at_class (4096 * p) (n * 4096)) + 2 * total (live_in_pool h c) p
      ≡ 2 * total (live_in_pool h c) (p + n)
  unfolding total
  pools_are p zero l =
      let z : p + 0 ≡ p = omega arith in
      rw z (omega (arith, ap length (listing_none at_class (4096 * p) 0 (λ i u. absurd (omega arith)))))
  pools_are p (suc n) l =
      let q : p + suc n ≡ suc p + n = omega arith in
      let s : suc n * 4096 ≡ 4096 + n * 4096 = omega arith in
      let t : 4096 * p + 4096 ≡ 4096 * suc p = omega arith in
      rw q
      (omega (
        arith,
        ap length (ap (listing at_class (4096 * p)) s ∙ listing_add at_class (4096 * p) 4096 (n * 4096)),
        length-append (listing at_class (4096 * p) 4096) (listing at_class (4096 * p + 4096) (n * 4096)),
        ap (λ (x : ℕ). length (listing at_class x (n * 4096))) t,
        one_pool p (omega arith),
        pools_are (suc p) n (omega arith),
      ))

-- of each class that the edition has, compare counts the live blocks: the offsets that are live, in its pools
pub class_counted : (h : Heap) (c : ℕ) → c ≤ last_class (alignment h) → live_of_class h c ≡ live_with h c
unfolding total
class_counted h c low =
    let n = memory_length (arenas h) (pools h) in
    let z : 0 + arenas h * pools h ≡ arenas h * pools h = omega arith in
    omega (
      arith,
      pools_are h c low 0 (arenas h * pools h) (omega arith),
      ap (total (live_in_pool h c)) z,
      listing_count (at_class h c low) n,
      many_same (λ o. is_live h o && eqb (class_at (arenas h) h.books o) c) (λ o. not (eqb (at_class h c low o) 0)) n (λ o _. at_class_lem h c low o),
    )

-- 506 of a pool at most, and so few in all
few_live : (h : Heap) (c : ℕ) → arenas h * pools h ≤ 1024 → live_of_class h c ≤ 518144
unfolding live_in_pool
few_live h c few = omega (arith, total_le (live_in_pool h c) 506 (arenas h * pools h) in_pool_lem)
  where
    L : Aligned (alignment h)
    L = aligned (edition h)

    low : 8 ≤ size_of (alignment h) c
    low = omega (arith, mul-add (alignment h) c 1, mul-one (alignment h), L.low)

    in_pool_lem : (p : ℕ) → live_in_pool h c p ≤ 506
    in_pool_lem p =
        let s = size_of (alignment h) c in
        either (λ (k : ℕ). k ≤ 506) (eqb (pool (arenas h) h.books class p) c) (how_many (λ j. is_set h.map p j) (capacity s)) 0
        (λ _. omega (arith, many_le (λ j. is_set h.map p j) (capacity s), capacity_le s low)) (λ _. omega arith)

-- ---- sums of changes
-- the change from m to n is n less m
change_is : (m n : ℕ) → change_from m n ≡ pos n -ℤ pos m
unfolding change_from
change_is m n = go (dec_lt n m) m refl
  where
    go : Dec (n < m) → (k : ℕ) → m ≡ k → (if leb m n then pos (n - m) else neg_ℤ (pos (m - n))) ≡ pos n -ℤ pos m
    go (no l) zero e = rw (le-leb m n (omega arith), e) (ap pos (omega arith))
    go (no l) (suc k) e = rw (le-leb m n (omega arith), e, le-ltb n (suc k) (omega arith))
    go (yes l) zero e = absurd (omega arith)
    go (yes l) (suc k) e =
        let q : suc k - n ≡ suc (suc k - suc n) = omega arith in
        rw (lt-leb m n (omega arith), e, lt-ltb n (suc k) (omega arith), q)

-- it and m are n; from n to m it is negated; and changes add up
change_back : (m n : ℕ) → change_from m n +ℤ pos m ≡ pos n
change_back m n = ap (λ (z : ℤ). z +ℤ pos m) (change_is m n) ∙ -ℤ-+ℤ_cancel (pos n) (pos m)

pub change_turned : (m n : ℕ) → change_from n m ≡ neg_ℤ (change_from m n)
change_turned m n =
    change_is n m
    ∙ +ℤ_comm (pos m) (neg_ℤ (pos n))
    ∙ ap (λ (z : ℤ). neg_ℤ (pos n) +ℤ z) (sym (neg_ℤ-neg_ℤ (pos m)))
    ∙ sym (neg_ℤ-+ℤ (pos n) (neg_ℤ (pos m)))
    ∙ ap neg_ℤ (sym (change_is m n))

change_plus : (a b c d : ℕ) → change_from a b +ℤ change_from c d ≡ change_from (a + c) (b + d)
change_plus a b c d =
    ap₂ (λ (x y : ℤ). x +ℤ y) (change_is a b) (change_is c d)
    ∙ +ℤ_assoc (pos b) (neg_ℤ (pos a)) (pos d -ℤ pos c)
    ∙ ap (λ (x : ℤ). pos b +ℤ x)
    (sym (+ℤ_assoc (neg_ℤ (pos a)) (pos d) (neg_ℤ (pos c)))
    ∙ ap (λ (x : ℤ). x +ℤ neg_ℤ (pos c)) (+ℤ_comm (neg_ℤ (pos a)) (pos d))
    ∙ +ℤ_assoc (pos d) (neg_ℤ (pos a)) (neg_ℤ (pos c)))
    ∙ sym (+ℤ_assoc (pos b) (pos d) (neg_ℤ (pos a) +ℤ neg_ℤ (pos c)))
    ∙ ap (λ (x : ℤ). pos (b + d) +ℤ x) (sym (neg_ℤ-+ℤ (pos a) (pos c)))
    ∙ sym (change_is (a + c) (b + d))

-- the sum of a list
abbrev pub sum_of : List ℤ → ℤ
sum_of [] = pos 0
sum_of (z ∷ zs) = z +ℤ sum_of zs

module _ (first second : Heap) where
  -- the changes of n classes from class c on, and those of the classes below
  sum_from : (c n : ℕ)
      → sum_of (changes_from first second c n) +ℤ change_from (total (live_of_class first) c)
      (total (live_of_class second) c)
      ≡ change_from (total (live_of_class first) (c + n)) (total (live_of_class second) (c + n))
  unfolding changes_from total
  sum_from c zero = let z : c + 0 ≡ c = omega arith in rw z (+ℤ_idl _)
  sum_from c (suc n) =
      let q : c + suc n ≡ suc c + n = omega arith in
      let here = change_of first second c in
      let rest = sum_of (changes_from first second (suc c) n) in
      let below = change_from (total (live_of_class first) c) (total (live_of_class second) c) in
      rw q
      (ap (λ (x : ℤ). x +ℤ below) (+ℤ_comm here rest)
      ∙ +ℤ_assoc rest here below
      ∙ ap (λ (x : ℤ). rest +ℤ x) (change_plus (live_of_class first c) (live_of_class second c) (total (live_of_class first) c)
      (total (live_of_class second) c))
      ∙ sum_from (suc c) n)

  -- "The changes add up to the difference of the two roll counts", which are what roll call answers
  pub changes_add_up : edition first ≡ edition second
      → sum_of (changes first second) ≡ change_from (length (roll_of first) / 2) (length (roll_of second) / 2)
  unfolding total changes_from change_from
  changes_add_up same =
      let z : 0 + classes first ≡ classes first = omega arith in
      let f : total (live_of_class first) (classes first) ≡ length (roll_of first) / 2 = omega (arith, roll_count first) in
      let q : classes first ≡ classes second = ap (λ (e : ℕ). last_class (alignment_of e) + 1) same in
      let g : total (live_of_class second) (classes second) ≡ length (roll_of second) / 2 = omega (arith, roll_count second) in
      sym (+ℤ_idr (sum_of (changes first second)))
      ∙ sum_from 0 (classes first)
      ∙ ap (λ (n : ℕ). change_from (total (live_of_class first) n) (total (live_of_class second) n)) z
      ∙ ap₂ change_from f (ap (total (live_of_class second)) q ∙ g)

  -- what a change says: 0, that both have as many live blocks of the class; above 0, that the second has as many more;
  -- below 0, that the first has
  pub change_means : (c : ℕ)
      → (change_of first second c ≡ pos 0 ↔ live_of_class first c ≡ live_of_class second c)
      × ((n : ℕ) → (change_of first second c ≡ pos (suc n) ↔ live_of_class second c ≡ live_of_class first c + suc n)
      × (change_of first second c ≡ neg_ℤ (pos (suc n)) ↔ live_of_class first c ≡ live_of_class second c + suc n))
  unfolding change_from
  change_means c =
      let f = live_of_class first c in
      let s = live_of_class second c in (
        (λ e. omega (arith, is_pos f s 0 e), λ e. pos_is f s 0 (omega arith)),
        λ n. (
          (λ e. is_pos f s (suc n) e, λ e. pos_is f s (suc n) e),
          (λ e. is_pos s f (suc n) (change_turned f s ∙ ap neg_ℤ e), λ e. change_turned s f ∙ ap neg_ℤ (pos_is s f (suc n) e)),
        ),
      )
    where
      is_pos : (m n k : ℕ) → change_from m n ≡ pos k → n ≡ m + k
      is_pos m n k e = let q : pos n ≡ pos (k + m) = sym (change_back m n) ∙ ap (λ (z : ℤ). z +ℤ pos m) e in omega (arith, ap nat_abs q)

      pos_is : (m n k : ℕ) → n ≡ m + k → change_from m n ≡ pos k
      pos_is m n k e = let q : n - m ≡ k = omega arith in rw (le-leb m n (omega arith), q)

  -- with at most 1,024 pools in each, no change is above 518,144 or below it negated: so none leaves an i32
  pub change_in_range : arenas first * pools first ≤ 1024 → arenas second * pools second ≤ 1024 → (c : ℕ)
      → (n : ℕ) × (n ≤ 518144) × ((change_of first second c ≡ pos n) ⊎ (change_of first second c ≡ neg_ℤ (pos n)))
  unfolding change_from
  change_in_range few less c = go (leb (live_of_class first c) (live_of_class second c))
    where
      go : (t : Bool)
          → let f = live_of_class first c in
          let s = live_of_class second c in
          let z = if t then pos (s - f) else neg_ℤ (pos (f - s)) in
          (n : ℕ) × (n ≤ 518144) × ((z ≡ pos n) ⊎ (z ≡ neg_ℤ (pos n)))
      go true = (live_of_class second c - live_of_class first c, omega (arith, few_live second c less), inl refl)
      go false = (live_of_class first c - live_of_class second c, omega (arith, few_live first c few), inr refl)
