-- The live blocks of each class, counted pool by pool, and the changes of all classes.
-- Assumes nothing.
use Rattle.std.specs.Prelude.{
  ◌≡◌,
  refl,
  Bool,
  true,
  false,
  List,
  [],
  ◌∷◌,
  ◌++◌,
  ℕ,
  zero,
  suc,
  ◌+◌,
  ◌*◌,
  ◌-◌,
  ◌/◌,
  ◌^◌,
  ◌≤◌,
  ◌<◌,
  leb,
  eqb,
  ℤ,
  pos,
  neg_ℤ,
  ◌-ℤ◌,
  set,
  if◌then◌else◌,
}
use Rattle.std.proofs.Common.{sym, ap, ◌∙◌, zero-add, add-one, arith, length-append, get_or-set_same, get_or-set_other, SFits, to_z}
use Rattle.std.proofs.Math.Decide.{ℕ_discrete, dec_le}
use Rattle.std.proofs.Math.ListN.{length}
use Rattle.std.specs.Int.Signed.{mag}
use Rattle.std.specs.Int.{w32}
use borrow.Author.Tests.{eq-eqb, ne_eqb, le-leb, lt-leb, le-ltb, lt-ltb}
use Rattle.rules.specs.Say.{how_many, total}
use Rattle.rules.specs.Books.{Heap, at, is_set, alignment_of, class, pool, offset_of}
use Rattle.rules.specs.Blocks.{size_of, last_class, start_of, capacity}
use Rattle.rules.specs.View.{roll_blocks, roll_pool}
use Rattle.rules.specs.Compare.{live_in_pool, live_of_class, change_from, changes_from, classes}
use Rattle.books.specs.declared.words.Shape.{Shape}
use Rattle.books.specs.declared.reader.Reader.{Reader}
use Rattle.books.specs.Known.{shape_of}
use Rattle.books.specs.Readers.{alignment_in}
use Rattle.books.specs.Sizes.{Aligned, capacity_high, class_low}
use Rattle.sequences.specs.Counting.{many_le}
use Rattle.loops.specs.Word.{split}
use Rattle.compare.specs.declared.pair.Pair.{Pair}
use Rattle.compare.specs.Pools.{first, second, changes_in}

-- how many blocks of pool p are live, where its class is c: `live_in_pool` of any books and map
abbrev pub live_among : ℕ → ℕ → List ℕ → List ℕ → ℕ → ℕ → ℕ
live_among al A b map c p =
    if eqb (pool A b class p) c then how_many (is_set map p) (capacity (size_of al c)) else 0

-- the counts of n pools
abbrev pub Counted : ℕ → ℕ → List ℕ → List ℕ → ℕ → List ℕ → Type 0
Counted al A b map n xs = (c : ℕ) → c ≤ last_class al → at xs c ≡ total (live_among al A b map c) n

-- the counts with n more in class c, where n is not 0
unfoldable pub added : ℕ → ℕ → List ℕ → List ℕ
added c n xs = if eqb n 0 then xs else set xs c (at xs c + n)

-- the first n counts are those of at most 1,024 pools
abbrev pub Most : ℕ → List ℕ → Type 0
Most n xs = (c : ℕ) → c < n → at xs c ≤ 518144

-- the changes from some counts to others, of the n classes from class c on
unfoldable pub changes_of : List ℕ → List ℕ → ℕ → ℕ → List ℤ
changes_of xs ys c zero = []
changes_of xs ys c (suc n) = change_from (at xs c) (at ys c) ∷ changes_of xs ys (suc c) n

-- ---- a pool's roll has two words for each of its set bits
roll_many : (map : List ℕ) (p s n : ℕ) → length (roll_blocks map p s 0 n) ≡ 2 * how_many (is_set map p) n
unfolding roll_blocks how_many
roll_many map p s zero = refl
roll_many map p s (suc n) =
    let e : suc n ≡ n + 1 = omega arith in
    ap (λ (k : ℕ). length (roll_blocks map p s 0 k)) e
    ∙ ap length (rw zero-add at (split map p s 0 n 1))
    ∙ length-append (roll_blocks map p s 0 n) (roll_blocks map p s n 1)
    ∙ go (is_set map p n) (roll_many map p s n)
  where
    go : (t : Bool) → length (roll_blocks map p s 0 n) ≡ 2 * how_many (is_set map p) n
        → length (roll_blocks map p s 0 n) + length ((if t then offset_of p (start_of s n) ∷ s ∷ [] else []) ++ [])
        ≡ 2 * ((if t then 1 else 0) + how_many (is_set map p) n)
    go true q = omega arith
    go false q = omega arith

module _ {al : ℕ} (L : Aligned al) (A : ℕ) (b map : List ℕ) (p : ℕ) where
  -- so the roll of a pool of class c counts that class's live blocks
  pub of_class : pool A b class p ≤ last_class al
      → length (roll_pool al A b map p) ≡ 2 * live_among al A b map (pool A b class p) p
  unfolding roll_pool
  of_class h =
      let c = pool A b class p in
      rw (le-leb c (last_class al) h, eq-eqb c c refl) (roll_many map p (size_of al c) (capacity (size_of al c)))

  pub not_of_class : last_class al < pool A b class p → length (roll_pool al A b map p) ≡ 0
  unfolding roll_pool
  not_of_class h = rw (lt-leb (pool A b class p) (last_class al) h)

  -- and of no other class there is any
  pub other_class_lem : (c : ℕ) → (pool A b class p ≡ c → ⊥) → live_among al A b map c p ≡ 0
  other_class_lem c d = rw (ne_eqb (pool A b class p) c d)

  -- at most 506 in a pool
  pub few_live : (c : ℕ) → c ≤ last_class al → live_among al A b map c p ≤ 506
  few_live c h = go (eqb (pool A b class p) c)
    where
      go : (t : Bool) → (if t then how_many (is_set map p) (capacity (size_of al c)) else 0) ≤ 506
      go true = omega (arith, many_le (is_set map p) (capacity (size_of al c)), capacity_high L c h)
      go false = omega arith

-- ---- sums
pub total_none : (f : ℕ → ℕ) → total f 0 ≡ 0
unfolding total
total_none f = refl

pub total_more : (f : ℕ → ℕ) (n : ℕ) → total f (n + 1) ≡ f n + total f n
unfolding total
total_more f n = rw add-one

pub total_le : (f : ℕ → ℕ) (k n : ℕ) → ((i : ℕ) → i < n → f i ≤ k) → total f n ≤ k * n
unfolding total
total_le f k zero h = omega arith
total_le f k (suc n) h = omega (arith, h n (omega arith), total_le f k n (λ i l. h i (omega arith)))

-- ---- a pool more: its live blocks, as its roll counts them, are added to its class
module _ {al : ℕ} (L : Aligned al) (A : ℕ) (b map : List ℕ) (p : ℕ) (xs : List ℕ) (all : length xs ≡ 64) where
  abbrev live : ℕ
  live = length (roll_pool al A b map p) / 2

  -- where it has any, it has a class
  pub has_class : (live ≡ 0 → ⊥) → pool A b class p ≤ last_class al
  has_class d = go (dec_le (pool A b class p) (last_class al))
    where
      go : Dec (pool A b class p ≤ last_class al) → pool A b class p ≤ last_class al
      go (yes h) = h
      go (no h) = absurd (d (omega (arith, not_of_class L A b map p (omega arith))))

  live_is : pool A b class p ≤ last_class al → live ≡ live_among al A b map (pool A b class p) p
  live_is h = omega (arith, of_class L A b map p h)

  -- the class's count rises by them
  count_after : (c : ℕ) → c ≤ last_class al
      → at (added (pool A b class p) live xs) c ≡ live_among al A b map c p + at xs c
  unfolding added
  count_after c h = go (ℕ_discrete live 0) (ℕ_discrete (pool A b class p) c)
    where
      few : pool A b class p ≤ last_class al → pool A b class p < length xs
      few u = omega (arith, class_low L (pool A b class p) u, all)

      go : Dec (live ≡ 0) → Dec (pool A b class p ≡ c)
          → at (if eqb live 0 then xs else set xs (pool A b class p) (at xs (pool A b class p) + live)) c
          ≡ live_among al A b map c p + at xs c
      go (yes z) (yes e) =
          rw (eq-eqb live 0 z) (omega (arith, z, live_is (omega arith), ap (λ (k : ℕ). live_among al A b map k p) e))
      go (yes z) (no d) = rw (eq-eqb live 0 z) (omega (arith, other_class_lem L A b map p c d))
      go (no z) (yes e) =
          rw (ne_eqb live 0 z, ← e)
          (get_or-set_same xs (pool A b class p) (at xs (pool A b class p) + live) 0 (few (has_class z))
          ∙ omega (arith, live_is (has_class z)))
      go (no z) (no d) =
          rw (ne_eqb live 0 z)
          (get_or-set_other xs (pool A b class p) c (at xs (pool A b class p) + live) 0 (λ q. d (sym q))
          ∙ omega (arith, other_class_lem L A b map p c d))

  pub one_more : Counted al A b map p xs → Counted al A b map (p + 1) (added (pool A b class p) live xs)
  one_more C c h = count_after c h ∙ omega (arith, C c h, total_more (live_among al A b map c) p)

  -- and stays small
  pub still_small : (live ≡ 0 → ⊥) → Counted al A b map p xs → p < 1024 → at xs (pool A b class p) + live < 2 ^ 32
  still_small d C l =
      let c = pool A b class p in
      let h = has_class d in
      let f = live_among al A b map c in
      omega (arith, C c h, live_is h, few_live L A b map p c h, total_le f 506 p (λ i u. few_live L A b map i c h))

-- the counts of at most 1,024 pools
pub counted_most : {al : ℕ} → Aligned al → (A : ℕ) (b map : List ℕ) (n : ℕ) (xs : List ℕ) → n ≤ 1024
    → Counted al A b map n xs → Most (last_class al + 1) xs
counted_most {al} L A b map n xs l C c h =
    let f = live_among al A b map c in
    omega (arith, C c (omega arith), total_le f 506 n (λ i u. few_live L A b map i c (omega arith)))

-- ---- the machine's difference of two small counts
small : (n : ℕ) → n ≤ 518144 → to_z w32 n ≡ pos n
small n h = rw (lt-ltb n (2 ^ 31) (omega arith))

less : (m n : ℕ) → pos n -ℤ pos m ≡ change_from m n
unfolding change_from
less zero n = let e : n + 0 ≡ n - 0 = omega arith in rw (le-leb 0 n (omega arith)) (ap pos e)
less (suc m) n = go (dec_le (suc m) n)
  where
    go : Dec (suc m ≤ n) → pos n -ℤ pos (suc m) ≡ (if leb (suc m) n then pos (n - suc m) else neg_ℤ (pos (suc m - n)))
    go (yes l) = rw (le-ltb n (suc m) l, le-leb (suc m) n l)
    go (no d) =
        let u : n < suc m = omega arith in
        let e : suc m - n ≡ suc (m - n) = omega arith in
        let f : suc m - suc n ≡ m - n = omega arith in
        rw (lt-ltb n (suc m) u, lt-leb (suc m) n u, e, f)

pub change_is : (m n : ℕ) → m ≤ 518144 → n ≤ 518144 → to_z w32 n -ℤ to_z w32 m ≡ change_from m n
change_is m n h l = rw (small m h, small n l) (less m n)

-- it fits, and so does the machine's difference
pub change_fits : (m n : ℕ) → m ≤ 518144 → n ≤ 518144 → SFits w32 (change_from m n)
unfolding change_from
change_fits m n h l = record { sfits = go (dec_le m n) }
  where
    near : (k : ℕ) → k ≤ 518144 → mag (neg_ℤ (pos k)) < 2 ^ 31
    near zero u = omega arith
    near (suc k) u = omega arith

    go : Dec (m ≤ n) → mag (if leb m n then pos (n - m) else neg_ℤ (pos (m - n))) < 2 ^ 31
    go (yes u) = rw (le-leb m n u) (omega arith)
    go (no u) = rw (lt-leb m n (omega arith)) (near (m - n) (omega arith))

pub difference_fits : (m n : ℕ) → m ≤ 518144 → n ≤ 518144 → SFits w32 (to_z w32 n -ℤ to_z w32 m)
difference_fits m n h l = rw (change_is m n h l) (change_fits m n h l)

-- ---- the changes of n classes, as they are stored one by one
pub change_next : (xs ys : List ℕ) (c n : ℕ) → c < n
    → changes_of xs ys c (n - c) ≡ change_from (at xs c) (at ys c) ∷ changes_of xs ys (suc c) (n - suc c)
unfolding changes_of
change_next xs ys c n l = let e : n - c ≡ suc (n - suc c) = omega arith in ap (changes_of xs ys c) e

pub changes_end : (xs ys : List ℕ) (c n : ℕ) → n ≤ c → changes_of xs ys c (n - c) ≡ []
unfolding changes_of
changes_end xs ys c n l = let e : n - c ≡ 0 = omega arith in ap (changes_of xs ys c) e

-- ---- two heaps of one shape
-- the live blocks of a class
class_are : {s : Shape} (h : Heap) → shape_of h.books ≡ s → (c : ℕ)
    → live_of_class h c ≡ total (live_among (alignment_of s.edition) s.arenas h.books h.map c) (s.arenas * s.pools)
unfolding live_in_pool
class_are h is c = ap (λ (t : Shape). total (live_among (alignment_of t.edition) t.arenas h.books h.map c) (t.arenas * t.pools)) is

-- the counts of both give the changes
module _ (h : Pair) where
  pub classes_are : last_class (alignment_in h.first) + 1 ≡ classes (first h)
  classes_are = sym (ap (λ (t : Shape). last_class (alignment_of t.edition) + 1) h.first_read)

  abbrev Counts : Reader → List ℕ → Type 0
  Counts r xs = Counted (alignment_in r) r.shape.arenas r.books.now r.map.now (r.shape.arenas * r.shape.pools) xs

  pub counts_give : (xs ys : List ℕ) → Counts h.first xs → Counts h.second ys
      → changes_of xs ys 0 (last_class (alignment_in h.first) + 1) ≡ changes_in h
  unfolding changes_of changes_from
  counts_give xs ys C D =
      from 0 (last_class (alignment_in h.first) + 1) (omega arith) ∙ ap (changes_from (first h) (second h) 0) classes_are
    where
      other : last_class (alignment_in h.second) ≡ last_class (alignment_in h.first)
      other = ap (λ (t : Shape). last_class (alignment_of t.edition)) h.one_shape

      from : (c k : ℕ) → c + k ≤ last_class (alignment_in h.first) + 1
          → changes_of xs ys c k ≡ changes_from (first h) (second h) c k
      from c zero l = refl
      from c (suc k) l =
          rw (
            C c (omega arith) ∙ sym (class_are (first h) h.first_read c),
            D c (omega (arith, other)) ∙ sym (class_are (second h) h.second_read c),
            from (suc c) k (omega arith),
          )
