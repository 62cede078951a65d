-- The heap h holds the plain heap r, soundly: W-201's rules 1 to 8, and W-203's as the ninth, each as a part of its
-- own, in that order, al being the alignment of the books' edition.
-- Assumes nothing.
use Rattle.std.specs.Prelude.{◌≡◌, ◌⊎◌, Bool, true, false, List, ℕ, ◌*◌, ◌/◌, ◌≤◌, ◌<◌, ltb, eqb, length, if◌then◌else◌}
use Rattle.rules.specs.Books.{
  Heap,
  at,
  in_range,
  exact,
  is_set,
  arenas,
  pools,
  edition_word,
  edition,
  is_edition,
  alignment,
  usable_head,
  unused_head,
  class_head,
  open_word,
  carve_mark,
  free_pools,
  freed_head,
  arena_next,
  arena_previous,
  arena_word,
  arena,
  count,
  freeblock,
  pool_next,
  pool_previous,
  class,
  nextoffset,
  maxnextoffset,
  no_class,
  pool_word,
  pool,
  carved as is_carved,
}
use Rattle.rules.specs.Blocks.{size_of, last_class, last_start, capacity}
use Rattle.sequences.specs.Rising.{Rising}
use Rattle.sound.specs.Plain.{Plain, count as live-blocks, in_use, carved, free}
use Rattle.sequences.specs.Linked.{Doubly, Singly}
use Rattle.sequences.specs.Families.{Family}
use Rattle.sound.specs.Chains.{Blocks}

-- ---- where a pool and an arena belong, by the plain heap
-- "each class list its pools with live and spare blocks", "freed-pool lists the own arena's carved pools not in use":
-- the head of a pool's list. A full pool is at 0, on no list and with both links 0; a pool not carved is at 1, on no
-- list
unfoldable pub home : ℕ → ℕ → Plain → ℕ → ℕ
home al P r n =
    if in_use r n then (if ltb (live-blocks r n) (capacity (size_of al (r.class n))) then class_head (r.class n) else 0)
    else if carved P r n then arena_word freed_head (n / P)
    else 1

-- "the usable list the open arenas with free pools; the unused list the closed arenas": the head of an arena's list.
-- An open arena without free pools is at 0, on no list and with both links 0
unfoldable pub base : ℕ → Plain → ℕ → ℕ
base P r a = if eqb (r.mark a) 0 then unused_head else if eqb (free P r a) 0 then 0 else usable_head

-- the two lists of arenas, by their heads
abbrev pub arena_rows : Plain → ℕ → List ℕ
arena_rows r i = if eqb i usable_head then r.usable else r.unused

-- ---- the rules
-- "(1) no 1 or 2", and by W-211 an edition other than the two is 1
pub record Shape (al A P : ℕ) (h : Heap) : Type 0 where
  pub arenas_are : arenas h ≡ A
  pub pools_are : pools h ≡ P
  pub alignment_is : alignment h ≡ al
  pub range : in_range A P ≡ true
  pub an_edition : is_edition (edition h) ≡ true
  pub lengths : exact A P h ≡ true

-- "(2) open 0 or 1, words 68 to 71, an arena record's last two and a pool record's last being 0". W-211 makes word 68
-- the edition, and "the audit allows it": so words 69 to 71
pub record Zeros (A P : ℕ) (b : List ℕ) : Type 0 where
  pub opens : (a : ℕ) → a < A → (arena b open_word a ≡ 0) ⊎ (arena b open_word a ≡ 1)
  pub spare : (i : ℕ) → edition_word < i → i < 72 → at b i ≡ 0
  pub arenas : (w a : ℕ) → 6 ≤ w → w < 8 → a < A → arena b w a ≡ 0
  pub pools : (n : ℕ) → n < A * P → pool A b 7 n ≡ 0

-- "(3) each closed arena's record 0 but for its links"
pub record Closed (b : List ℕ) (a : ℕ) : Type 0 where
  pub mark : arena b carve_mark a ≡ 0
  pub free : arena b free_pools a ≡ 0
  pub freed : arena b freed_head a ≡ 0

-- "(4) each open arena's carve mark 1 to P and its free pools equal to its pools not in use"
pub record Open (P : ℕ) (b : List ℕ) (r : Plain) (a : ℕ) : Type 0 where
  pub mark_low : 1 ≤ arena b carve_mark a
  pub mark_high : arena b carve_mark a ≤ P
  pub free_pools_lem : arena b free_pools a ≡ free P r a

-- "(5) no set bit in a pool not carved or at no block of its class": what a set bit, block k's of pool n, says
pub record BitSet (al A P : ℕ) (b : List ℕ) (n k : ℕ) : Type 0 where
  pub in_carved : is_carved P b n ≡ true
  pub in_class : pool A b class n ≤ last_class al
  pub at_block : k < capacity (size_of al (pool A b class n))

-- "(6) each list holding just its members, once, doubly linked ones matching both ways: .. with previous 0; .. having
-- both links 0"
pub record Lists (al A P : ℕ) (b : List ℕ) (r : Plain) : Type 0 where
  pub listed : Family (Doubly (pool_word A pool_next) (pool_word A pool_previous) b)
      (λ c. c < 64) class_head (A * P) (home al P r) r.listed
  pub freed : Family (Singly (pool_word A pool_next) (pool_word A pool_previous) b)
      (λ a. a < A) (arena_word freed_head) (A * P) (home al P r) r.freed
  pub arenas : Family (Doubly (arena_word arena_next) (arena_word arena_previous) b)
      (λ i. (2 ≤ i) × (i < 4)) (λ i. i) A (base P r) (arena_rows r)
  pub full : (n : ℕ) → n < A * P → home al P r n ≡ 0 → (pool A b pool_next n ≡ 0) × (pool A b pool_previous n ≡ 0)
  pub spent : (a : ℕ) → a < A → base P r a ≡ 0 → (arena b arena_next a ≡ 0) × (arena b arena_previous a ≡ 0)

-- "(8) each freed pool of class at most 63, or 65,535 with all else but next 0": the words of a pool's record, but
-- for its links
pub record Unset (count freeblock class nextoffset maxnextoffset : ℕ) : Type 0 where
  pub count_is : count ≡ 0
  pub class_is : class ≡ no_class
  pub freeblock_is : freeblock ≡ 0
  pub nextoffset_is : nextoffset ≡ 0
  pub maxnextoffset_is : maxnextoffset ≡ 0

-- ".. in each other carved pool maxnextoffset right, .. with two at least on the chain if the pool is freed, one
-- unless it is full"
pub record InClass (al n : ℕ) (m : List ℕ) (count freeblock class nextoffset maxnextoffset : ℕ)
    (live : ℕ → Bool) (chain : List ℕ) (virgin : ℕ) : Type 0 where
  pub class_low : class ≤ last_class al
  pub maxnextoffset_is : maxnextoffset ≡ last_start (size_of al class)
  pub blocks : Blocks (size_of al class) n m freeblock nextoffset live chain virgin
  pub two : count ≡ 0 → 2 ≤ length chain
  pub one : count < capacity (size_of al class) → 1 ≤ length chain

-- a carved pool is the one or the other
abbrev pub PoolRule : ℕ → ℕ → List ℕ → ℕ → ℕ → ℕ → ℕ → ℕ → (ℕ → Bool) → List ℕ → ℕ → Type 0
PoolRule al n m count freeblock class nextoffset maxnextoffset live chain virgin =
    Unset count freeblock class nextoffset maxnextoffset
    ⊎ InClass al n m count freeblock class nextoffset maxnextoffset live chain virgin

-- ---- the heap h of A arenas with P pools each holds the plain heap r
pub record Sound (al A P : ℕ) (h : Heap) (r : Plain) : Type 0 where
  -- the plain heap's marks, classes and live blocks are those of the books and the map
  pub marks : (a : ℕ) → a < A → arena h.books carve_mark a ≡ r.mark a
  pub classes : (n : ℕ) → n < A * P → pool A h.books class n ≡ r.class n
  pub bits : (n k : ℕ) → n < A * P → k < 512 → is_set h.map n k ≡ r.live n k
  pub beyond : (n k : ℕ) → n < A * P → 512 ≤ k → r.live n k ≡ false
  -- W-201
  pub rule1 : Shape al A P h
  pub rule2 : Zeros A P h.books
  pub rule3 : (a : ℕ) → a < A → arena h.books open_word a ≡ 0 → Closed h.books a
  pub rule4 : (a : ℕ) → a < A → arena h.books open_word a ≡ 1 → Open P h.books r a
  pub rule5 : (n k : ℕ) → n < A * P → k < 512 → is_set h.map n k ≡ true → BitSet al A P h.books n k
  pub rule6 : Lists al A P h.books r
  pub rule7 : (n : ℕ) → n < A * P → pool A h.books count n ≡ live-blocks r n
  pub rule8 : (n : ℕ) → n < A * P → is_carved P h.books n ≡ true
      → PoolRule al n h.memory (pool A h.books count n) (pool A h.books freeblock n)
      (pool A h.books class n) (pool A h.books nextoffset n) (pool A h.books maxnextoffset n)
      (r.live n) (r.chain n) (r.virgin n)
  -- W-203: "CPython keeps the list rising by free pools", and "the audit checks the order last": 'rising' means never
  -- falling, for arenas may have equally many
  pub rule9 : Rising (free P r) r.usable
