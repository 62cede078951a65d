-- 01, "Memory, books, map": the three lent buffers, their lengths, and where each word and each bit stands. With it
-- 02's edition (W-211) and its carved pool (W-201).
-- Assumes nothing.
use Rattle.std.specs.Prelude.{
  Bool,
  ◌&&◌,
  List,
  ℕ,
  ◌+◌,
  ◌*◌,
  ◌-◌,
  ◌/◌,
  ◌%◌,
  ◌^◌,
  leb,
  ltb,
  eqb,
  length,
  get_or,
  set,
  if◌then◌else◌,
}

-- A heap is what its three lent buffers hold.
pub record Heap : Type 0 where
  pub memory : List ℕ  -- bytes
  pub books : List ℕ  -- 32-bit words
  pub map : List ℕ  -- 64-bit words

-- ---- the lengths
-- "A heap has A arenas (1 to 16) of P pools each (2 to 64)"
unfoldable pub in_range : ℕ → ℕ → Bool
in_range A P = leb 1 A && leb A 16 && leb 2 P && leb P 64

abbrev pub memory_length : ℕ → ℕ → ℕ
memory_length A P = A * P * 4096

abbrev pub books_length : ℕ → ℕ → ℕ
books_length A P = 72 + 8 * A + 8 * (A * P)

abbrev pub map_length : ℕ → ℕ → ℕ
map_length A P = 8 * (A * P)

-- each buffer is exactly as long as A and P ask
unfoldable pub exact : ℕ → ℕ → Heap → Bool
exact A P h =
    eqb (length h.memory) (memory_length A P)
    && eqb (length h.books) (books_length A P)
    && eqb (length h.map) (map_length A P)

-- ---- element i of a buffer, and the buffer with v there
abbrev pub at : List ℕ → ℕ → ℕ
at l i = get_or l i 0

abbrev pub put : ℕ → ℕ → List ℕ → List ℕ
put i v l = set l i v

-- ---- a change to one of the buffers
abbrev pub on_memory : (List ℕ → List ℕ) → Heap → Heap
on_memory f h = record { memory = f h.memory; books = h.books; map = h.map }

abbrev pub on_books : (List ℕ → List ℕ) → Heap → Heap
on_books f h = record { memory = h.memory; books = f h.books; map = h.map }

abbrev pub on_map : (List ℕ → List ℕ) → Heap → Heap
on_map f h = record { memory = h.memory; books = h.books; map = f h.map }

-- ---- the map
-- "Block k of a pool is bit k mod 64 (low bit first) of its word k div 64; set means live."
-- Pool n has the eight words from 8n on
abbrev pub map_word : ℕ → ℕ → ℕ
map_word n k = 8 * n + k / 64

-- bit j of a word, 0 or 1; and the word with bit j put to d
unfoldable pub bit : ℕ → ℕ → ℕ
bit w j = w / 2 ^ j % 2

unfoldable pub put_bit : ℕ → ℕ → ℕ → ℕ
unfolding bit
put_bit w j d = w - bit w j * 2 ^ j + d * 2 ^ j

-- the bit of block k of pool n
abbrev pub is_set : List ℕ → ℕ → ℕ → Bool
is_set m n k = eqb (bit (at m (map_word n k)) (k % 64)) 1

abbrev pub put_map_bit : ℕ → ℕ → ℕ → List ℕ → List ℕ
put_map_bit n k d m = put (map_word n k) (put_bit (at m (map_word n k)) (k % 64) d) m

-- ---- the books: words 0 and 1 are A and P
abbrev pub arenas : Heap → ℕ
arenas h = at h.books 0

abbrev pub pools : Heap → ℕ
pools h = at h.books 1

-- 02, W-211: "Spare word 68 says which: 0 for eight, 1 for sixteen". A heap that was made before has 0 there
abbrev pub edition_word : ℕ
edition_word = 68

-- the one place where it is read
abbrev pub edition : Heap → ℕ
edition h = at h.books edition_word

abbrev pub is_edition : ℕ → Bool
is_edition e = leb e 1

-- the alignment of an edition's blocks, and of a heap's
unfoldable pub alignment_of : ℕ → ℕ
alignment_of e = if eqb e 0 then 8 else 16

abbrev pub alignment : Heap → ℕ
alignment h = alignment_of (edition h)

abbrev pub usable_head : ℕ
usable_head = 2

abbrev pub unused_head : ℕ
unused_head = 3

abbrev pub class_head : ℕ → ℕ
class_head c = 4 + c

-- ---- an arena record: open, carve mark, free pools, freed-pool head, next, previous, 0, 0
abbrev pub open_word : ℕ
open_word = 0

abbrev pub carve_mark : ℕ
carve_mark = 1

abbrev pub free_pools : ℕ
free_pools = 2

abbrev pub freed_head : ℕ
freed_head = 3

abbrev pub arena_next : ℕ
arena_next = 4

abbrev pub arena_previous : ℕ
arena_previous = 5

-- the place of word w of arena a's record, and what stands there
abbrev pub arena_word : ℕ → ℕ → ℕ
arena_word w a = 72 + 8 * a + w

abbrev pub arena : List ℕ → ℕ → ℕ → ℕ
arena b w a = at b (arena_word w a)

-- ---- a pool record: count, freeblock, next, previous, class, nextoffset, maxnextoffset, 0
abbrev pub count : ℕ
count = 0

abbrev pub freeblock : ℕ
freeblock = 1

abbrev pub pool_next : ℕ
pool_next = 2

abbrev pub pool_previous : ℕ
pool_previous = 3

abbrev pub class : ℕ
class = 4

abbrev pub nextoffset : ℕ
nextoffset = 5

abbrev pub maxnextoffset : ℕ
maxnextoffset = 6

-- the class of a pool that has none
abbrev pub no_class : ℕ
no_class = 65535

-- the place of word w of pool n's record in books of A arenas, and what stands there
abbrev pub pool_word : ℕ → ℕ → ℕ → ℕ
pool_word A w n = 72 + 8 * A + 8 * n + w

abbrev pub pool : ℕ → List ℕ → ℕ → ℕ → ℕ
pool A b w n = at b (pool_word A w n)

-- ---- writes to a word of the books: it becomes v, rises by 1, falls by 1
abbrev pub put_word : ℕ → ℕ → Heap → Heap
put_word i v = on_books (put i v)

abbrev pub rise : ℕ → Heap → Heap
rise i = on_books (λ b. put i (at b i + 1) b)

abbrev pub fall : ℕ → Heap → Heap
fall i = on_books (λ b. put i (at b i - 1) b)

-- ---- links: "A link to pool or arena n is stored as n + 1; 0 is none"
abbrev pub none? : ℕ → Bool
none? l = eqb l 0

abbrev pub link_to : ℕ → ℕ
link_to n = n + 1

abbrev pub linked : ℕ → ℕ
linked l = l - 1

-- "Pool n is in arena n div P and starts at memory offset 4,096n": byte f of pool n
abbrev pub offset_of : ℕ → ℕ → ℕ
offset_of n f = 4096 * n + f

-- 02, W-201: "A carved pool lies below an open (1) arena's mark": pool n is number n mod P of its arena
unfoldable pub carved : ℕ → List ℕ → ℕ → Bool
carved P b n =
    eqb (arena b open_word (n / P)) 1
    && ltb (n % P) (arena b carve_mark (n / P))
