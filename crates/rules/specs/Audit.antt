-- 02, W-201: the audit, with W-203's order as its last rule. Each rule is a test of any memory, books and map, A and P
-- being those of the books and al the alignment of their edition (W-211); the answer is 0 for yes, or the number of the
-- first rule that is broken.
-- Assumes nothing.
use Rattle.std.specs.Prelude.{
  Bool,
  true,
  false,
  not,
  ◌&&◌,
  ◌||◌,
  List,
  ℕ,
  zero,
  suc,
  ◌+◌,
  ◌*◌,
  ◌-◌,
  ◌/◌,
  leb,
  ltb,
  eqb,
  if◌then◌else◌,
}
use Rattle.rules.specs.declared.Verdict.{Verdict}
use Rattle.rules.specs.declared.Verdict.TheVariants.{
  Yes,
  Shape,
  Zeros,
  Closed,
  Open,
  Bits,
  Lists,
  Counts,
  Blocks,
  Order,
}
use Rattle.rules.specs.Say.{◌implies◌, all_below, how_many}
use Rattle.rules.specs.Books.{
  Heap,
  at,
  is_set,
  arenas,
  pools,
  alignment,
  usable_head,
  unused_head,
  class_head,
  open_word,
  carve_mark,
  free_pools,
  freed_head,
  arena_next,
  arena_previous,
  arena_word,
  arena,
  count,
  freeblock,
  pool_next,
  pool_previous,
  class,
  nextoffset,
  maxnextoffset,
  no_class,
  pool_word,
  pool,
  none?,
  linked,
  offset_of,
  carved,
}
use Rattle.rules.specs.Blocks.{size_of, last_class, start_of, last_start, is_start, block_no, capacity, link_at}
use Rattle.rules.specs.Numbers.{shape_number, ◌before◌}

-- ---- "A carved pool lies below an open (1) arena's mark": `carved`, which Books has. "one in use has a set bit"
-- how many of pool n's bits are set
abbrev pub set_bits : List ℕ → ℕ → ℕ
set_bits map n = how_many (is_set map n) 512

unfoldable pub in_use : ℕ → List ℕ → List ℕ → ℕ → Bool
in_use P b map n = carved P b n && ltb 0 (set_bits map n)

-- a freed pool: a carved one that is not in use
abbrev pub is_freed : ℕ → List ℕ → List ℕ → ℕ → Bool
is_freed P b map n = carved P b n && not (in_use P b map n)

-- "a class above 63 has no blocks": how many blocks a pool of class c has
unfoldable pub blocks_of : ℕ → ℕ → ℕ
blocks_of al c = if leb c (last_class al) then capacity (size_of al c) else 0

-- of its class's blocks some are spare, that is not live; a full pool is in use and has none
unfoldable pub has_spare : ℕ → ℕ → List ℕ → List ℕ → ℕ → Bool
has_spare al A b map n = ltb (set_bits map n) (blocks_of al (pool A b class n))

abbrev pub is_full : ℕ → ℕ → ℕ → List ℕ → List ℕ → ℕ → Bool
is_full al A P b map n = in_use P b map n && not (has_spare al A b map n)

-- ---- "(1) no 1 or 2"
unfoldable pub rule1 : Heap → Bool
rule1 h = eqb (shape_number h) 0

-- ---- "(2) open 0 or 1, words 68 to 71, an arena record's last two and a pool record's last being 0". Word 68 is the
-- edition, and W-211: "the audit allows it"
unfoldable pub arena_keeps2 : List ℕ → ℕ → Bool
arena_keeps2 b a =
    leb (arena b open_word a) 1
    && eqb (arena b 6 a) 0
    && eqb (arena b 7 a) 0

abbrev pub pool_keeps2 : ℕ → List ℕ → ℕ → Bool
pool_keeps2 A b n = eqb (pool A b 7 n) 0

unfoldable pub rule2 : ℕ → ℕ → List ℕ → Bool
rule2 A P b =
    (eqb (at b 69) 0 && eqb (at b 70) 0 && eqb (at b 71) 0)
    && all_below (arena_keeps2 b) A
    && all_below (pool_keeps2 A b) (A * P)

-- ---- "(3) each closed arena's record 0 but for its links"
unfoldable pub arena_keeps3 : List ℕ → ℕ → Bool
arena_keeps3 b a =
    eqb (arena b open_word a) 0
    implies eqb (arena b carve_mark a) 0
    && eqb (arena b free_pools a) 0
    && eqb (arena b freed_head a) 0

abbrev pub rule3 : ℕ → List ℕ → Bool
rule3 A b = all_below (arena_keeps3 b) A

-- ---- "(4) each open arena's carve mark 1 to P and its free pools equal to its pools not in use"
abbrev pub not_in_use : ℕ → List ℕ → List ℕ → ℕ → ℕ
not_in_use P b map a = how_many (λ i. not (in_use P b map (a * P + i))) P

unfoldable pub arena_keeps4 : ℕ → List ℕ → List ℕ → ℕ → Bool
arena_keeps4 P b map a =
    eqb (arena b open_word a) 1
    implies leb 1 (arena b carve_mark a)
    && leb (arena b carve_mark a) P
    && eqb (arena b free_pools a) (not_in_use P b map a)

abbrev pub rule4 : ℕ → ℕ → List ℕ → List ℕ → Bool
rule4 A P b map = all_below (arena_keeps4 P b map) A

-- ---- "(5) no set bit in a pool not carved or at no block of its class"
unfoldable pub pool_keeps5 : ℕ → ℕ → ℕ → List ℕ → List ℕ → ℕ → Bool
pool_keeps5 al A P b map n =
    all_below (λ k. is_set map n k implies carved P b n && ltb k (blocks_of al (pool A b class n))) 512

abbrev pub rule5 : ℕ → ℕ → ℕ → List ℕ → List ℕ → Bool
rule5 al A P b map = all_below (pool_keeps5 al A P b map) (A * P)

-- ---- "(6) each list holding just its members, once, doubly linked ones matching both ways": of records, `most` in
-- number, whose links stand at the words `next` and `previous`; `member` says which of them the list should hold
-- the link l leads to a member, and p is its previous word
module _ (previous : ℕ → ℕ) (member : ℕ → Bool) (most : ℕ) (b : List ℕ) where
  unfoldable pub leads : ℕ → ℕ → Bool
  leads l p =
      not (none? l)
      && leb l most
      && (member (linked l) && eqb (at b (previous (linked l))) p)

module _ (next previous : ℕ → ℕ) (member : ℕ → Bool) (most : ℕ) (b : List ℕ) where
  -- from the link l on k members are met, and then the list ends. In a doubly linked list a member's previous word is
  -- the link to the one before it, or 0 in the first; in others it is 0
  unfoldable pub meets : Bool → ℕ → ℕ → ℕ → Bool
  meets doubly zero l p = none? l
  meets doubly (suc k) l p =
      leads previous member most b l p
      && meets doubly k (at b (next (linked l))) (if doubly then l else 0)

  -- A walk that ends meets none twice, for it would go on as it went before. So where it meets as many members as there
  -- are, it meets each, once: that this is what the test says, both ways, is proved (`holds_is` and `is_holds` of crate
  -- sequences)
  abbrev pub holds : Bool → ℕ → Bool
  holds doubly head = meets doubly (how_many member most) (at b head) 0

-- a list of pools, with this head
abbrev pub pool_list : ℕ → ℕ → List ℕ → (ℕ → Bool) → Bool → ℕ → Bool
pool_list A P b member doubly head =
    holds (pool_word A pool_next) (pool_word A pool_previous) member (A * P) b doubly head

-- "freed-pool lists the own arena's carved pools not in use, with previous 0"
abbrev pub freed_member : ℕ → List ℕ → List ℕ → ℕ → ℕ → Bool
freed_member P b map a n = eqb (n / P) a && is_freed P b map n

abbrev pub freed_list : ℕ → ℕ → List ℕ → List ℕ → ℕ → Bool
freed_list A P b map a = pool_list A P b (freed_member P b map a) false (arena_word freed_head a)

-- "the usable list the open arenas with free pools; the unused list the closed arenas"
abbrev pub usable_member : List ℕ → ℕ → Bool
usable_member b a = eqb (arena b open_word a) 1 && ltb 0 (arena b free_pools a)

abbrev pub unused_member : List ℕ → ℕ → Bool
unused_member b a = eqb (arena b open_word a) 0

abbrev pub arena_list : ℕ → List ℕ → (ℕ → Bool) → ℕ → Bool
arena_list A b member head = holds (arena_word arena_next) (arena_word arena_previous) member A b true head

-- "each class list its pools with live and spare blocks"
abbrev pub class_member : ℕ → ℕ → ℕ → List ℕ → List ℕ → ℕ → ℕ → Bool
class_member al A P b map c n = eqb (pool A b class n) c && in_use P b map n && has_spare al A b map n

abbrev pub class_list : ℕ → ℕ → ℕ → List ℕ → List ℕ → ℕ → Bool
class_list al A P b map c = pool_list A P b (class_member al A P b map c) true (class_head c)

-- "full pools and open arenas without free pools having both links 0"
unfoldable pub pool_keeps6 : ℕ → ℕ → ℕ → List ℕ → List ℕ → ℕ → Bool
pool_keeps6 al A P b map n =
    is_full al A P b map n
    implies eqb (pool A b pool_next n) 0
    && eqb (pool A b pool_previous n) 0

unfoldable pub arena_keeps6 : List ℕ → ℕ → Bool
arena_keeps6 b a =
    eqb (arena b open_word a) 1 && eqb (arena b free_pools a) 0
    implies eqb (arena b arena_next a) 0
    && eqb (arena b arena_previous a) 0

-- all 64 heads are heads of class lists: in edition sixteen the last 32 are of classes that have no blocks, and so of
-- lists without members
unfoldable pub rule6 : ℕ → ℕ → ℕ → List ℕ → List ℕ → Bool
rule6 al A P b map =
    all_below (freed_list A P b map) A
    && arena_list A b (usable_member b) usable_head
    && arena_list A b (unused_member b) unused_head
    && all_below (class_list al A P b map) 64
    && all_below (pool_keeps6 al A P b map) (A * P)
    && all_below (arena_keeps6 b) A

-- ---- "(7) each pool's count equal to its set bits"
abbrev pub pool_keeps7 : ℕ → List ℕ → List ℕ → ℕ → Bool
pool_keeps7 A b map n = eqb (pool A b count n) (set_bits map n)

abbrev pub rule7 : ℕ → ℕ → List ℕ → List ℕ → Bool
rule7 A P b map = all_below (pool_keeps7 A b map) (A * P)

-- ---- "(8) each freed pool of class at most 63, or 65,535 with all else but next 0": what the second one's record has
-- besides its class
unfoldable pub all_else_zero : ℕ → List ℕ → ℕ → Bool
all_else_zero A b n =
    eqb (pool A b count n) 0
    && eqb (pool A b freeblock n) 0
    && eqb (pool A b pool_previous n) 0
    && eqb (pool A b nextoffset n) 0
    && eqb (pool A b maxnextoffset n) 0
    && eqb (pool A b 7 n) 0

-- the link l leads to a block, of size s, that is neither live nor virgin: `live` tells which are live, and block v is
-- the first virgin one
unfoldable pub is_dead : ℕ → (ℕ → Bool) → ℕ → ℕ → Bool
is_dead s live v l = is_start s l && (ltb (block_no s l) v && not (live (block_no s l)))

-- from the link l on k such blocks of pool n are met, and then the chain ends
module _ (s n : ℕ) (memory : List ℕ) (live : ℕ → Bool) (v : ℕ) where
  unfoldable pub chained : ℕ → ℕ → Bool
  chained zero l = eqb l 0
  chained (suc k) l = is_dead s live v l && chained k (link_at memory (offset_of n l))

-- each set bit of pool n is of a block below block v
unfoldable pub bits_below : List ℕ → ℕ → ℕ → Bool
bits_below map n v = all_below (λ k. is_set map n k implies ltb k v) 512

-- the virgin blocks begin at nextoffset
abbrev pub virgin : ℕ → ℕ → List ℕ → ℕ → ℕ
virgin s A b n = block_no s (pool A b nextoffset n)

-- so the chain has those before nextoffset that are not live
abbrev pub on_chain : ℕ → ℕ → List ℕ → List ℕ → ℕ → ℕ
on_chain s A b map n = virgin s A b n - set_bits map n

-- "two at least on the chain if the pool is freed, one unless it is full"
abbrev pub least_on_chain : ℕ → ℕ → ℕ → List ℕ → List ℕ → ℕ → ℕ
least_on_chain al A P b map n = if is_freed P b map n then 2 else if is_full al A P b map n then 0 else 1

-- "in each other carved pool maxnextoffset right, nextoffset a block start or the last block's end, each block in
-- exactly one of live, freed chain and virgin, once, with two at least on the chain ..": no virgin block is live, and
-- the chain meets as many as are neither, and ends, so that it meets each of them, once (proved both ways too, by
-- `divided_is` and `is_divided_lem` of crate sound)
unfoldable pub is_divided : ℕ → ℕ → ℕ → List ℕ → List ℕ → List ℕ → ℕ → ℕ → Bool
is_divided al A P memory b map s n =
    eqb (pool A b maxnextoffset n) (last_start s)
    && (is_start s (pool A b nextoffset n) || eqb (pool A b nextoffset n) (start_of s (capacity s)))
    && bits_below map n (virgin s A b n)
    && chained s n memory (is_set map n) (virgin s A b n) (on_chain s A b map n) (pool A b freeblock n)
    && leb (least_on_chain al A P b map n) (on_chain s A b map n)

unfoldable pub pool_keeps8 : ℕ → ℕ → ℕ → List ℕ → List ℕ → List ℕ → ℕ → Bool
pool_keeps8 al A P memory b map n =
    carved P b n
    implies (if is_freed P b map n && eqb (pool A b class n) no_class then all_else_zero A b n
    else leb (pool A b class n) (last_class al) && is_divided al A P memory b map (size_of al (pool A b class n)) n)

abbrev pub rule8 : ℕ → ℕ → ℕ → List ℕ → List ℕ → List ℕ → Bool
rule8 al A P memory b map = all_below (pool_keeps8 al A P memory b map) (A * P)

-- ---- 9, W-203: "CPython keeps the list rising by free pools", and "the audit checks the order last": of the usable
-- arenas none has more free pools than the next
unfoldable pub arena_keeps9 : List ℕ → ℕ → Bool
arena_keeps9 b a =
    usable_member b a && not (none? (arena b arena_next a))
    implies leb (arena b free_pools a) (arena b free_pools (linked (arena b arena_next a)))

abbrev pub rule9 : ℕ → List ℕ → Bool
rule9 A b = all_below (arena_keeps9 b) A

-- ---- "says yes, or gives the number, from 1, of the first broken rule"
abbrev pub broken : ℕ → Bool → ℕ
broken number rule = if rule then 0 else number

unfoldable pub audit_by : ℕ → ℕ → ℕ → Heap → ℕ
audit_by al A P h =
    broken 1 (rule1 h)
    before broken 2 (rule2 A P h.books)
    before broken 3 (rule3 A h.books)
    before broken 4 (rule4 A P h.books h.map)
    before broken 5 (rule5 al A P h.books h.map)
    before broken 6 (rule6 al A P h.books h.map)
    before broken 7 (rule7 A P h.books h.map)
    before broken 8 (rule8 al A P h.memory h.books h.map)
    before broken 9 (rule9 A h.books)

abbrev pub audit : Heap → ℕ
audit h = audit_by (alignment h) (arenas h) (pools h) h

-- the number that a verdict stands for
unfoldable pub number_of : Verdict → ℕ
number_of Yes = 0
number_of Shape = 1
number_of Zeros = 2
number_of Closed = 3
number_of Open = 4
number_of Bits = 5
number_of Lists = 6
number_of Counts = 7
number_of Blocks = 8
number_of Order = 9
