-- Damaged books: each clause of 01's rule for 6 from both sides where a row can tell, the three heads of 4, the
-- half-done resize, the order of the tests, and readings R1 to R17, R22 and R25 to R37 of docs/DECISIONS.md, where they
-- differ from those not taken. One table under one statement.
-- Assumes nothing.
use Rattle.std.specs.Prelude.{◌≡◌, List, [], ◌∷◌, ◌++◌, ℕ, T, length, take, drop, replicate}
use Rattle.rules.specs.Books.{
  at,
  memory_length,
  books_length,
  map_length,
  on_memory,
  on_books,
  on_map,
  put_word,
  put_map_bit,
  usable_head,
  unused_head,
  class_head,
  open_word,
  carve_mark,
  free_pools,
  freed_head,
  arena_next,
  arena_previous,
  arena_word,
  count,
  freeblock,
  pool_next,
  pool_previous,
  class,
  nextoffset,
  maxnextoffset,
  pool_word,
}
use Rattle.rules.specs.Blocks.{put_link}
use Rattle.rules.specs.Numbers.{view_at}
use Rattle.rules.specs.Lines.{
  Line,
  formats,
  asks,
  gives,
  resizes,
  writes,
  views,
  stands_in,
  rolls,
  has,
  spoil,
  word=,
  word?,
  link,
  bit_in,
  every,
  fresh,
}
use Rattle.rules.specs.Whole.{tab, each_three}

-- Three arenas of three pools, edition eight: pool n is in arena n div 3 and starts at 4,096n; a pool link is at most
-- 9, an arena link at most 3.
-- On a fresh heap the first ask opens arena 0 and carves pool 0, and asks of two more classes carve pools 1 and 2.
--
-- A row that is longer than a line is broken between its steps, a step being damage and the calls that meet it, and
-- before the looks at what a call left.

-- ---- the place of a word of pool p's record, of arena a's
abbrev in_pool : ℕ → ℕ → ℕ
in_pool p w = pool_word 3 w p

abbrev in_arena : ℕ → ℕ → ℕ
in_arena a w = arena_word w a

-- ---- damage: the link at byte o of memory, the bit of block k of pool p becomes ..
abbrev link= : ℕ → ℕ → Line
link= o v = spoil (on_memory (put_link o v))

abbrev bit= : ℕ → ℕ → ℕ → Line
bit= p k d = spoil (on_map (put_map_bit p k d))

-- ---- a look: the bit of block k of pool p, word i of the map is ..
abbrev bit? : ℕ → ℕ → ℕ → Line
bit? p k d = has (bit_in p k) d

abbrev map_word? : ℕ → ℕ → Line
map_word? i v = has (λ h. at h.map i) v

-- the part that view hands back of offset o begins there in memory
abbrev view_at? : ℕ → ℕ → Line
view_at? o place = has (λ h. view_at h o) place

-- ==== format
-- "all closed and on the unused list, linked both ways, in rising order with arena 0 first, every other head and
-- spare word 0, every pool record 0 but for class 65,535", whatever stood there; and no byte of memory
abbrev format_words : List Line
format_words =
    word= usable_head 9 ∷ word= unused_head 9 ∷ word= (class_head 63) 9 ∷ word= 68 9 ∷ word= 71 9
    ∷ word= (in_arena 1 open_word) 9 ∷ word= (in_arena 2 7) 9 ∷ word= (in_pool 0 class) 9 ∷ word= (in_pool 8 7) 9
    ∷ bit= 8 511 1 ∷ link= 48 12345 ∷ formats 3 3 0 0
    ∷ word? 0 3 ∷ word? 1 3 ∷ word? usable_head 0 ∷ word? unused_head 1
    ∷ word? (class_head 63) 0 ∷ word? 68 0 ∷ word? 71 0
    ∷ word? (in_arena 1 open_word) 0 ∷ word? (in_arena 2 7) 0
    ∷ word? (in_arena 0 arena_next) 2 ∷ word? (in_arena 0 arena_previous) 0
    ∷ word? (in_arena 1 arena_next) 3 ∷ word? (in_arena 1 arena_previous) 1
    ∷ word? (in_arena 2 arena_next) 0 ∷ word? (in_arena 2 arena_previous) 2
    ∷ word? (in_pool 0 class) 65535 ∷ word? (in_pool 8 class) 65535 ∷ word? (in_pool 8 7) 0
    ∷ map_word? 71 0 ∷ has (link 48) 12345 ∷ []

-- the whole records of arena 1 and of pool 8, and words among the heads and the spare ones
abbrev format_records : List Line
format_records =
    word? 4 0 ∷ word? 66 0 ∷ word? 69 0 ∷ word? 70 0
    ∷ word? 80 0 ∷ word? 81 0 ∷ word? 82 0 ∷ word? 83 0
    ∷ word? 84 3 ∷ word? 85 1 ∷ word? 86 0 ∷ word? 87 0
    ∷ word? 160 0 ∷ word? 161 0 ∷ word? 162 0 ∷ word? 163 0
    ∷ word? 164 65535 ∷ word? 165 0 ∷ word? 166 0 ∷ word? 167 0
    ∷ []

-- W-211: "Format .. told the edition (another value is 1 there too)": word 68 says it, and the words beside it stay 0
abbrev format_edition : List Line
format_edition =
    formats 3 3 1 0 ∷ word? 67 0 ∷ word? 68 1 ∷ word? 69 0 ∷ word? 71 0
    ∷ formats 3 3 2 1 ∷ formats 3 3 4294967296 1 ∷ word? 68 1 ∷ formats 3 3 0 0 ∷ word? 68 0 ∷ []

-- ==== the lengths, in numbers
-- "exactly A × P × 4,096", "exactly 72 + 8A + 8AP", "exactly 8 for each pool":
-- of three arenas of three pools, and of one arena of nine
abbrev lengths : List Line
lengths =
    has (λ h. length h.memory) 36864 ∷ has (λ h. length h.books) 168
    ∷ has (λ h. length h.map) 72 ∷ asks 1 0 48
    ∷ spoil (on_books (take 152)) ∷ formats 1 9 0 0 ∷ asks 1 0 48 ∷ []

-- ==== the books' words, by their numbers
-- "word 0 is A, 1 is P, 2 the usable-arena head, 3 the unused-arena head, 4 to 67 the 64 class heads";
-- then eight words an arena, and eight a pool
abbrev book_words : List Line
book_words =
    asks 1 0 48 ∷ asks 9 0 4144 ∷ asks 512 0 8240
    ∷ word? 0 3 ∷ word? 1 3 ∷ word? 2 0 ∷ word? 3 2 ∷ word? 4 1 ∷ word? 5 2 ∷ word? 67 3
    ∷ word? 72 1 ∷ word? 73 3 ∷ word? 74 0 ∷ word? 75 0 ∷ word? 76 0 ∷ word? 77 0
    ∷ word? 84 3 ∷ word? 85 0 ∷ word? 92 0 ∷ word? 93 2
    ∷ word? 96 1 ∷ word? 97 56 ∷ word? 98 0 ∷ word? 99 0
    ∷ word? 100 0 ∷ word? 101 64 ∷ word? 102 4088 ∷ word? 103 0
    ∷ word? 104 1 ∷ word? 105 64 ∷ word? 106 0 ∷ word? 107 0
    ∷ word? 108 1 ∷ word? 109 80 ∷ word? 110 4080 ∷ word? 111 0
    ∷ word? 116 63 ∷ []

-- .. and those that were 0 there: pools 1 and 0 are freed, pool 2 joins a class list whose head is pool 1
abbrev book_links : List Line
book_links =
    asks 1 0 48 ∷ asks 9 0 4144 ∷ asks 17 0 8240 ∷ gives 4144 0 4144 ∷ gives 48 0 48
    ∷ word? 2 1 ∷ word? 3 2 ∷ word? 74 2 ∷ word? 75 1 ∷ word? 98 2
    ∷ word= 113 0 ∷ word= 6 2 ∷ gives 8240 0 8240
    ∷ word? 6 3 ∷ word? 107 3 ∷ word? 114 2 ∷ word? 115 0 ∷ []

-- ==== the map
-- "Block k of a pool is bit k mod 64 (low bit first) of its word k div 64":
-- blocks 0, 70 and 505 of pool 0, block 0 of pool 1
abbrev map_words : List Line
map_words =
    asks 1 0 48 ∷ map_word? 0 1 ∷ asks 9 0 4144 ∷ map_word? 8 1
    ∷ word= (in_pool 0 freeblock) 608 ∷ link= 608 4088 ∷ link= 4088 0 ∷ asks 1 0 608 ∷ map_word? 1 64
    ∷ asks 1 0 4088 ∷ map_word? 7 144115188075855872 ∷ gives 608 0 608 ∷ map_word? 1 0 ∷ map_word? 0 1 ∷ []

-- ==== ask, from the class list
-- "a pool link above A × P": 10 is, and 9 is pool 8, which is made the front pool of class 0
abbrev ask_class_head : List Line
ask_class_head =
    word= (class_head 0) 10 ∷ asks 1 6 0
    ∷ word= (class_head 0) 9 ∷ word= (in_pool 8 class) 0 ∷ word= (in_pool 8 maxnextoffset) 4088
    ∷ word= (in_pool 8 freeblock) 48 ∷ word= (in_pool 8 nextoffset) 56 ∷ link= 32816 0
    ∷ asks 1 0 32816 ∷ word? (in_pool 8 count) 1
    ∷ word? (in_pool 8 freeblock) 56 ∷ word? (in_pool 8 nextoffset) 64 ∷ []

-- "class of its front pool not that class"
abbrev ask_class : List Line
ask_class = asks 1 0 48 ∷ word= (in_pool 0 class) 1 ∷ asks 1 6 0 ∷ word= (in_pool 0 class) 0 ∷ asks 1 0 56 ∷ []

-- "or maxnextoffset not 4,096 − size"
abbrev ask_maxnextoffset : List Line
ask_maxnextoffset =
    asks 1 0 48 ∷ word= (in_pool 0 maxnextoffset) 4087 ∷ asks 1 6 0
    ∷ word= (in_pool 0 maxnextoffset) 4089 ∷ asks 1 6 0
    ∷ word= (in_pool 0 maxnextoffset) 4088 ∷ asks 1 0 56 ∷ []

-- "where both are always read": also where there is a link to follow
abbrev ask_both_read : List Line
ask_both_read =
    asks 1 0 48 ∷ asks 1 0 56 ∷ gives 48 0 48
    ∷ word= (in_pool 0 maxnextoffset) 4087 ∷ asks 1 6 0 ∷ word= (in_pool 0 maxnextoffset) 4088
    ∷ word= (in_pool 0 class) 1 ∷ asks 1 6 0 ∷ word= (in_pool 0 class) 0 ∷ asks 1 0 48 ∷ []

-- "count above 505 on ask from the list"
abbrev ask_count : List Line
ask_count =
    asks 1 0 48 ∷ word= (in_pool 0 count) 506 ∷ asks 1 6 0
    ∷ word= (in_pool 0 count) 505 ∷ asks 1 0 56 ∷ word? (in_pool 0 count) 506 ∷ []

-- R11: 505 stands for a class of 7 blocks too
abbrev ask_count_of_seven : List Line
ask_count_of_seven =
    asks 512 0 48 ∷ word= (in_pool 0 count) 506 ∷ asks 512 6 0
    ∷ word= (in_pool 0 count) 505 ∷ asks 512 0 560 ∷ []

-- "freeblock .. neither 0 nor a block start", "a freeblock to be handed out that is 0":
-- 40 is too low, 57 between two starts, 4,096 past the last
abbrev ask_freeblock : List Line
ask_freeblock =
    asks 1 0 48 ∷ word= (in_pool 0 freeblock) 0 ∷ asks 1 6 0 ∷ word= (in_pool 0 freeblock) 40 ∷ asks 1 6 0
    ∷ word= (in_pool 0 freeblock) 57 ∷ asks 1 6 0 ∷ word= (in_pool 0 freeblock) 4096 ∷ asks 1 6 0
    ∷ word= (in_pool 0 freeblock) 4088 ∷ link= 4088 0 ∷ asks 1 0 4088 ∷ bit? 0 505 1 ∷ []

-- 3,632 is no start for 512: the block would run past the pool
abbrev ask_freeblock_of_seven : List Line
ask_freeblock_of_seven =
    asks 512 0 48 ∷ word= (in_pool 0 freeblock) 3632 ∷ asks 512 6 0
    ∷ word= (in_pool 0 freeblock) 3120 ∷ link= 3120 0 ∷ asks 512 0 3120 ∷ []

-- "a block to be handed out .. whose map bit .. is set"
abbrev ask_freeblock_bit : List Line
ask_freeblock_bit =
    asks 1 0 48 ∷ bit= 0 1 1 ∷ asks 1 6 0 ∷ bit= 0 1 0 ∷ asks 1 0 56 ∷ bit? 0 1 1 ∷ bit? 0 2 0 ∷ []

-- "link neither 0 nor a block start"
abbrev ask_link : List Line
ask_link =
    asks 1 0 48 ∷ link= 56 40 ∷ asks 1 6 0 ∷ link= 56 57 ∷ asks 1 6 0
    ∷ link= 56 4096 ∷ asks 1 6 0 ∷ link= 56 65600 ∷ asks 1 6 0
    ∷ link= 56 4088 ∷ asks 1 0 56
    ∷ word? (in_pool 0 freeblock) 4088 ∷ word? (in_pool 0 nextoffset) 64 ∷ word? (in_pool 0 count) 2 ∷ []

-- "or to become freeblock whose map bit .. is set": of a link, of nextoffset
abbrev ask_next_bit : List Line
ask_next_bit =
    asks 1 0 48 ∷ link= 56 4088 ∷ bit= 0 505 1 ∷ asks 1 6 0 ∷ bit= 0 505 0 ∷ asks 1 0 56
    ∷ link= 4088 0 ∷ bit= 0 2 1 ∷ asks 1 6 0 ∷ bit= 0 2 0 ∷ asks 1 0 4088
    ∷ word? (in_pool 0 freeblock) 64 ∷ []

-- "nextoffset not above maxnextoffset and not a block start";
-- 4,088 is the last start, 4,089 means that there is no room
abbrev ask_nextoffset : List Line
ask_nextoffset =
    asks 1 0 48 ∷ word= (in_pool 0 nextoffset) 40 ∷ asks 1 6 0 ∷ word= (in_pool 0 nextoffset) 65 ∷ asks 1 6 0
    ∷ word= (in_pool 0 nextoffset) 4088 ∷ asks 1 0 56
    ∷ word? (in_pool 0 freeblock) 4088 ∷ word? (in_pool 0 nextoffset) 4096 ∷ has (link 4088) 0
    ∷ word= (in_pool 0 nextoffset) 4089 ∷ asks 1 0 4088
    ∷ word? (in_pool 0 freeblock) 0 ∷ word? (class_head 0) 0 ∷ []

-- "nextoffset rises by the size": by 512
abbrev ask_ready_of_seven : List Line
ask_ready_of_seven =
    asks 512 0 48 ∷ asks 512 0 560 ∷ word? (in_pool 0 nextoffset) 1584
    ∷ asks 512 0 1072 ∷ word? (in_pool 0 nextoffset) 2096 ∷ word? (in_pool 0 count) 3 ∷ []

-- R14: nextoffset is read only where the link is 0, and above maxnextoffset any value means full
abbrev ask_nextoffset_unread : List Line
ask_nextoffset_unread =
    asks 1 0 48 ∷ link= 56 72 ∷ word= (in_pool 0 nextoffset) 65 ∷ asks 1 0 56
    ∷ word? (in_pool 0 freeblock) 72 ∷ word? (in_pool 0 nextoffset) 65
    ∷ link= 72 0 ∷ word= (in_pool 0 nextoffset) 4294967295 ∷ asks 1 0 72
    ∷ word? (in_pool 0 freeblock) 0 ∷ word? (in_pool 0 nextoffset) 4294967295 ∷ []

-- R6: a map bit is judged as it stands before the step:
-- a link to the block itself, and nextoffset at the block itself, are served
abbrev ask_itself : List Line
ask_itself =
    asks 1 0 48 ∷ link= 56 56 ∷ asks 1 0 56 ∷ word? (in_pool 0 freeblock) 56 ∷ asks 1 6 0
    ∷ bit= 0 1 0 ∷ link= 56 0 ∷ word= (in_pool 0 nextoffset) 56 ∷ asks 1 0 56
    ∷ word? (in_pool 0 freeblock) 56 ∷ word? (in_pool 0 nextoffset) 64 ∷ []

-- ---- the last spare block: the pool leaves its list, and only then its links are read
abbrev full : Line
full = spoil (put_word (in_pool 0 nextoffset) 4096)

abbrev ask_last_next : List Line
ask_last_next =
    asks 1 0 48 ∷ word= (in_pool 0 pool_next) 10 ∷ asks 1 0 56
    ∷ full ∷ asks 1 6 0 ∷ word= (in_pool 0 pool_next) 9 ∷ word= (in_pool 8 pool_previous) 1 ∷ asks 1 0 64
    ∷ word? (class_head 0) 9 ∷ word? (in_pool 8 pool_previous) 0 ∷ word? (in_pool 0 pool_next) 0
    ∷ word? (in_pool 0 pool_previous) 0 ∷ word? (in_pool 0 freeblock) 0
    ∷ word? (in_pool 0 count) 3 ∷ bit? 0 2 1 ∷ []

-- R4: a front member whose previous is not 0: the previous member's next is written, and the head stays
abbrev ask_last_previous : List Line
ask_last_previous =
    asks 1 0 48 ∷ word= (in_pool 0 pool_previous) 10 ∷ asks 1 0 56
    ∷ full ∷ asks 1 6 0 ∷ word= (in_pool 0 pool_next) 8 ∷ word= (in_pool 0 pool_previous) 9 ∷ asks 1 0 64
    ∷ word? (class_head 0) 1 ∷ word? (in_pool 8 pool_next) 8 ∷ word? (in_pool 7 pool_previous) 9
    ∷ word? (in_pool 0 pool_next) 0 ∷ word? (in_pool 0 pool_previous) 0 ∷ []

-- "Writes happen in the order given": own next and previous become 0 last, also where the pool is its own neighbour
abbrev ask_last_itself : List Line
ask_last_itself =
    asks 1 0 48 ∷ word= (in_pool 0 pool_next) 1 ∷ word= (in_pool 0 pool_previous) 1 ∷ full ∷ asks 1 0 56
    ∷ word? (in_pool 0 pool_next) 0 ∷ word? (in_pool 0 pool_previous) 0 ∷ []

-- ==== ask, with an empty class list
-- "4 needs the class head, usable head and unused head all 0": each alone serves, or is refused for what it is
abbrev no_room : List Line
no_room = word= unused_head 0 ∷ asks 1 4 0 ∷ word? (class_head 0) 0 ∷ word= unused_head 1 ∷ asks 1 0 48 ∷ []

abbrev no_room_but_class : List Line
no_room_but_class = asks 1 0 48 ∷ word= usable_head 0 ∷ word= unused_head 0 ∷ asks 9 4 0 ∷ asks 1 0 56 ∷ []

abbrev no_room_but_usable : List Line
no_room_but_usable = asks 1 0 48 ∷ word= unused_head 0 ∷ asks 9 0 4144 ∷ []

-- "an arena link above A": the usable head. 3 is arena 2, which is made usable;
-- the words after arena 2's would serve as an arena's
abbrev ask_usable_head : List Line
ask_usable_head =
    word= (in_pool 0 pool_next) 2 ∷ word= usable_head 4 ∷ asks 1 6 0
    ∷ word= usable_head 3 ∷ word= (in_arena 2 free_pools) 2 ∷ asks 1 0 24624
    ∷ word? (in_arena 2 carve_mark) 1 ∷ word? (in_arena 2 free_pools) 1 ∷ []

-- .. the unused head, the words after arena 2's serving as an arena's
abbrev ask_unused_head : List Line
ask_unused_head =
    word= (in_pool 0 class) 0 ∷ word= unused_head 4 ∷ asks 1 6 0
    ∷ word= unused_head 3 ∷ asks 1 0 24624
    ∷ word? usable_head 3 ∷ word? (in_arena 1 arena_next) 0 ∷ word? unused_head 3 ∷ []

-- .. the links of an arena that leaves the unused list
abbrev open_links : List Line
open_links =
    word= (in_arena 0 arena_next) 4 ∷ asks 1 6 0
    ∷ word= (in_arena 0 arena_next) 3 ∷ word= (in_arena 0 arena_previous) 4 ∷ asks 1 6 0
    ∷ word= (in_arena 0 arena_previous) 2 ∷ asks 1 0 48
    ∷ word? (in_arena 1 arena_next) 3 ∷ word? (in_arena 2 arena_previous) 2 ∷ word? unused_head 1 ∷ []

-- R5: opening writes open, carve mark, freed-pool head, free pools and the links, and reads none of their old values;
-- words 6 and 7 stay
abbrev opening : List Line
opening =
    word= (in_arena 0 open_word) 9 ∷ word= (in_arena 0 carve_mark) 9
    ∷ word= (in_arena 0 free_pools) 9 ∷ word= (in_arena 0 freed_head) 99
    ∷ word= (in_arena 0 6) 7 ∷ word= (in_arena 0 7) 8 ∷ asks 1 0 48
    ∷ word? (in_arena 0 open_word) 1 ∷ word? (in_arena 0 carve_mark) 1
    ∷ word? (in_arena 0 free_pools) 2 ∷ word? (in_arena 0 freed_head) 0
    ∷ word? (in_arena 0 arena_next) 0 ∷ word? (in_arena 0 arena_previous) 0
    ∷ word? (in_arena 0 6) 7 ∷ word? (in_arena 0 7) 8
    ∷ word? usable_head 1 ∷ word? unused_head 2 ∷ word? (in_arena 1 arena_previous) 0 ∷ []

-- "a pool link above A × P": the freed-pool head. R12: 9 is pool 8, of another arena and not carved, and is taken
abbrev ask_freed_head : List Line
ask_freed_head =
    asks 1 0 48 ∷ word= (in_arena 0 freed_head) 10 ∷ asks 9 6 0 ∷ word= (in_arena 0 freed_head) 9 ∷ asks 9 0 32816
    ∷ word? (in_arena 0 freed_head) 0 ∷ word? (in_arena 0 carve_mark) 1 ∷ word? (in_arena 0 free_pools) 1 ∷ []

-- .. and the next of the freed pool that is taken, which becomes the head
abbrev ask_freed_next : List Line
ask_freed_next =
    asks 1 0 48 ∷ word= (in_arena 0 freed_head) 9 ∷ word= (in_pool 8 pool_next) 10 ∷ asks 9 6 0
    ∷ word= (in_pool 8 pool_next) 9 ∷ asks 9 0 32816
    ∷ word? (in_arena 0 freed_head) 9 ∷ word? (in_pool 8 pool_next) 0 ∷ []

-- "carve mark not below P when carving"
abbrev ask_carve_mark : List Line
ask_carve_mark =
    asks 1 0 48 ∷ word= (in_arena 0 carve_mark) 3 ∷ asks 9 6 0
    ∷ word= (in_arena 0 carve_mark) 2 ∷ asks 9 0 8240 ∷ word? (in_arena 0 carve_mark) 3 ∷ []

-- a freed pool is taken before one is carved, and the mark is then not read
abbrev ask_carve_mark_unread : List Line
ask_carve_mark_unread =
    asks 1 0 48 ∷ asks 9 0 4144 ∷ gives 4144 0 4144
    ∷ word= (in_arena 0 carve_mark) 3 ∷ asks 17 0 4144 ∷ word? (in_arena 0 carve_mark) 3 ∷ []

-- "free pools outside 1 to P when taking": carving, and from the freed pools
abbrev carve_free_pools : List Line
carve_free_pools =
    asks 1 0 48 ∷ word= (in_arena 0 free_pools) 0 ∷ asks 9 6 0 ∷ word= (in_arena 0 free_pools) 4 ∷ asks 9 6 0
    ∷ word= (in_arena 0 free_pools) 3 ∷ asks 9 0 4144 ∷ word? (in_arena 0 free_pools) 2 ∷ []

abbrev freed_free_pools : List Line
freed_free_pools =
    asks 1 0 48 ∷ asks 9 0 4144 ∷ gives 4144 0 4144
    ∷ word= (in_arena 0 free_pools) 0 ∷ asks 17 6 0 ∷ word= (in_arena 0 free_pools) 4 ∷ asks 17 6 0
    ∷ word= (in_arena 0 free_pools) 3 ∷ asks 17 0 4144 ∷ word? (in_arena 0 free_pools) 2 ∷ []

-- "at 0 the arena leaves the list": only then its links are read
abbrev spent_next : List Line
spent_next =
    asks 1 0 48 ∷ word= (in_arena 0 arena_next) 4 ∷ asks 9 0 4144 ∷ asks 17 6 0
    ∷ word= (in_arena 0 arena_next) 3 ∷ word= (in_arena 2 arena_previous) 1 ∷ asks 17 0 8240
    ∷ word? (in_arena 0 free_pools) 0 ∷ word? usable_head 3 ∷ word? (in_arena 2 arena_previous) 0
    ∷ word? (in_arena 0 arena_next) 0 ∷ word? (in_arena 0 arena_previous) 0 ∷ []

abbrev spent_previous : List Line
spent_previous =
    asks 1 0 48 ∷ word= (in_arena 0 arena_previous) 4 ∷ asks 9 0 4144 ∷ asks 17 6 0
    ∷ word= (in_arena 0 arena_previous) 3 ∷ asks 17 0 8240
    ∷ word? usable_head 1 ∷ word? (in_arena 2 arena_next) 0 ∷ word? (in_arena 0 arena_previous) 0 ∷ []

-- R15: a pool that is set to a class: only the bits of blocks 0 and 1 are judged
abbrev anew_bits : List Line
anew_bits =
    bit= 0 0 1 ∷ asks 1 6 0 ∷ bit= 0 0 0 ∷ bit= 0 1 1 ∷ asks 1 6 0
    ∷ bit= 0 1 0 ∷ bit= 0 2 1 ∷ asks 1 0 48 ∷ bit? 0 0 1 ∷ bit? 0 1 0 ∷ []

-- "class is set, nextoffset is 48 + 2 × size, maxnextoffset 4,096 − size, freeblock 48 + size with link written 0";
-- "alone on the class list with count 1"
abbrev anew_words : List Line
anew_words =
    word= (in_pool 0 pool_next) 5 ∷ word= (in_pool 0 pool_previous) 5 ∷ word= (in_pool 0 count) 9
    ∷ word= (in_pool 0 7) 6 ∷ link= 152 99 ∷ asks 100 0 48
    ∷ word? (in_pool 0 count) 1 ∷ word? (in_pool 0 freeblock) 152
    ∷ word? (in_pool 0 pool_next) 0 ∷ word? (in_pool 0 pool_previous) 0
    ∷ word? (in_pool 0 class) 12 ∷ word? (in_pool 0 nextoffset) 256
    ∷ word? (in_pool 0 maxnextoffset) 3992 ∷ word? (in_pool 0 7) 6
    ∷ word? (class_head 12) 1 ∷ has (link 152) 0 ∷ []

-- ---- a freed pool of the wanted class: pool 0 is freed, and pool 1 holds its arena open
abbrev freed : List Line → List Line
freed ls = asks 1 0 48 ∷ asks 9 0 4144 ∷ gives 48 0 48 ∷ ls

-- freeblock and link keep their rules there too
abbrev again_freeblock : List Line
again_freeblock =
    freed (word= (in_pool 0 freeblock) 0 ∷ asks 1 6 0 ∷ word= (in_pool 0 freeblock) 57 ∷ asks 1 6 0
    ∷ word= (in_pool 0 freeblock) 48 ∷ bit= 0 0 1 ∷ asks 1 6 0 ∷ bit= 0 0 0 ∷ asks 1 0 48
    ∷ word? (in_pool 0 freeblock) 56 ∷ word? (class_head 0) 1 ∷ word? (in_pool 0 count) 1 ∷ bit? 0 0 1 ∷ [])

abbrev again_link : List Line
again_link =
    freed (link= 48 57 ∷ asks 1 6 0 ∷ link= 48 56 ∷ bit= 0 1 1 ∷ asks 1 6 0
    ∷ bit= 0 1 0 ∷ asks 1 0 48 ∷ [])

-- its next becomes the arena's freed-pool head before its links become 0
abbrev again_next : List Line
again_next =
    freed (word= (in_pool 0 pool_next) 9 ∷ asks 1 0 48
    ∷ word? (in_arena 0 freed_head) 9 ∷ word? (in_pool 0 pool_next) 0 ∷ word? (in_arena 0 free_pools) 1 ∷ [])

-- R13: its count, nextoffset and maxnextoffset are not tested;
-- a link 0 is allowed, freeblock becomes 0 and the pool stays listed
abbrev again_untested : List Line
again_untested =
    freed (word= (in_pool 0 count) 999 ∷ word= (in_pool 0 nextoffset) 7
    ∷ word= (in_pool 0 maxnextoffset) 9 ∷ link= 48 0 ∷ asks 1 0 48
    ∷ word? (in_pool 0 count) 1 ∷ word? (in_pool 0 freeblock) 0 ∷ word? (class_head 0) 1
    ∷ word? (in_pool 0 nextoffset) 7 ∷ word? (in_pool 0 maxnextoffset) 9 ∷ [])

-- R12: open, spare words and a pool's eighth word are not read. (W-211: but for word 68, which is spare no more)
abbrev spare_words : List Line
spare_words =
    asks 1 0 48 ∷ word= (in_arena 0 open_word) 9 ∷ word= (in_arena 0 6) 9 ∷ word= (in_pool 0 7) 9 ∷ word= 69 9
    ∷ asks 1 0 56 ∷ asks 9 0 4144 ∷ gives 4144 0 4144
    ∷ word? (in_arena 0 open_word) 9 ∷ word? (in_pool 0 7) 9 ∷ []

-- ==== give back
-- "freeblock .. neither 0 nor a block start". R8: its own map bit is not tested
abbrev back_freeblock : List Line
back_freeblock =
    asks 1 0 48 ∷ asks 1 0 56 ∷ word= (in_pool 0 freeblock) 40 ∷ gives 56 6 0
    ∷ word= (in_pool 0 freeblock) 57 ∷ gives 56 6 0 ∷ word= (in_pool 0 freeblock) 4096 ∷ gives 56 6 0
    ∷ bit? 0 1 1
    ∷ word= (in_pool 0 freeblock) 4088 ∷ bit= 0 505 1 ∷ gives 56 0 56
    ∷ has (link 56) 4088 ∷ word? (in_pool 0 freeblock) 56 ∷ word? (in_pool 0 count) 1 ∷ bit? 0 1 0 ∷ []

-- "count .. outside 1 to 506 on give-back"
abbrev back_count : List Line
back_count =
    asks 1 0 48 ∷ asks 1 0 56 ∷ word= (in_pool 0 count) 0 ∷ gives 56 6 0
    ∷ word= (in_pool 0 count) 507 ∷ gives 56 6 0
    ∷ word= (in_pool 0 count) 506 ∷ gives 56 0 56 ∷ word? (in_pool 0 count) 505 ∷ word? (class_head 0) 1 ∷ []

-- R11: 506 stands for a class of 7 blocks too
abbrev back_count_of_seven : List Line
back_count_of_seven =
    asks 512 0 48 ∷ word= (in_pool 0 count) 507 ∷ gives 48 6 0
    ∷ word= (in_pool 0 count) 506 ∷ gives 48 0 48 ∷ []

-- R3: joining a list reads its old head.
-- "If the old freeblock was 0, the pool was full: it joins its class list at the front"
abbrev back_joins : List Line
back_joins =
    asks 1 0 48 ∷ asks 1 0 56
    ∷ word= (in_pool 0 freeblock) 0 ∷ word= (in_pool 0 pool_previous) 5 ∷ word= (class_head 0) 10 ∷ gives 56 6 0
    ∷ word= (class_head 0) 9 ∷ gives 56 0 56
    ∷ word? (in_pool 0 pool_next) 9 ∷ word? (in_pool 0 pool_previous) 0
    ∷ word? (in_pool 8 pool_previous) 1 ∷ word? (class_head 0) 1 ∷ has (link 56) 0 ∷ []

-- "Writes happen in the order given":
-- a pool that joins a list it is the head of gets its own link as previous, after the 0
abbrev back_joins_itself : List Line
back_joins_itself =
    asks 1 0 48 ∷ word= (in_pool 0 freeblock) 0 ∷ gives 48 0 48
    ∷ word? (in_pool 0 pool_next) 1 ∷ word? (in_pool 0 pool_previous) 1 ∷ word? (class_head 0) 1 ∷ []

-- the head is not read where the pool does not join
abbrev back_stays : List Line
back_stays = asks 1 0 48 ∷ asks 1 0 56 ∷ word= (class_head 0) 10 ∷ gives 56 0 56 ∷ word? (class_head 0) 10 ∷ []

-- R7: with old freeblock 0 the pool joins its list, even where the count falls to 0
abbrev back_joins_empty : List Line
back_joins_empty =
    asks 1 0 48 ∷ word= (in_pool 0 freeblock) 0 ∷ word= (class_head 0) 0 ∷ gives 48 0 48
    ∷ word? (in_pool 0 count) 0 ∷ word? (class_head 0) 1
    ∷ word? (in_arena 0 free_pools) 2 ∷ word? (in_arena 0 freed_head) 0 ∷ []

-- ---- a pool that falls to count 0: pool 0, while pool 1 holds its arena open
abbrev emptied : List Line → List Line
emptied ls = asks 1 0 48 ∷ asks 9 0 4144 ∷ ls

-- "a pool link above A × P": its links, on leaving the class list. R2: the class head is written and not read
abbrev empty_next : List Line
empty_next =
    emptied (word= (in_pool 0 pool_next) 10 ∷ gives 48 6 0
    ∷ word= (in_pool 0 pool_next) 9 ∷ word= (in_pool 8 pool_previous) 1 ∷ word= (class_head 0) 10 ∷ gives 48 0 48
    ∷ word? (class_head 0) 9 ∷ word? (in_pool 8 pool_previous) 0
    ∷ word? (in_pool 0 pool_next) 0 ∷ word? (in_arena 0 freed_head) 1 ∷ [])

abbrev empty_previous : List Line
empty_previous =
    emptied (word= (in_pool 0 pool_previous) 10 ∷ gives 48 6 0
    ∷ word= (in_pool 0 pool_previous) 9 ∷ word= (in_pool 8 pool_next) 1 ∷ gives 48 0 48
    ∷ word? (in_pool 8 pool_next) 0 ∷ word? (in_pool 0 pool_previous) 0 ∷ word? (class_head 0) 1 ∷ [])

-- .. and the freed-pool head: "linked by next alone (own previous 0, the old head's record untouched)"
abbrev empty_freed_head : List Line
empty_freed_head =
    emptied (word= (in_arena 0 freed_head) 10 ∷ gives 48 6 0
    ∷ word= (in_arena 0 freed_head) 9 ∷ word= (in_pool 8 pool_previous) 5 ∷ gives 48 0 48
    ∷ word? (in_pool 0 pool_next) 9 ∷ word? (in_pool 0 pool_previous) 0 ∷ word? (in_pool 8 pool_previous) 5
    ∷ word? (in_arena 0 freed_head) 1 ∷ word? (in_pool 0 count) 0 ∷ [])

-- "or outside 0 to P − 1 when a pool returns"; the usable head is not read where the arena stays usable
abbrev empty_free_pools : List Line
empty_free_pools =
    emptied (word= (in_arena 0 free_pools) 3 ∷ gives 48 6 0
    ∷ word= (in_arena 0 free_pools) 1 ∷ word= usable_head 99 ∷ gives 48 0 48
    ∷ word? (in_arena 0 free_pools) 2 ∷ word? usable_head 99
    ∷ word? (in_pool 0 class) 0 ∷ word? (in_pool 0 nextoffset) 64 ∷ [])

-- R3: "If free pools is now 1, the arena joins the usable list at the front"
abbrev back_returns : List Line
back_returns =
    emptied (word= (in_arena 0 free_pools) 0 ∷ word= (in_arena 0 arena_previous) 9 ∷ word= usable_head 4 ∷ gives 48 6 0
    ∷ word= usable_head 3 ∷ gives 48 0 48
    ∷ word? (in_arena 0 free_pools) 1 ∷ word? usable_head 1 ∷ word? (in_arena 0 arena_next) 3
    ∷ word? (in_arena 0 arena_previous) 0 ∷ word? (in_arena 2 arena_previous) 1 ∷ [])

-- "If free pools is now P, the arena leaves the usable list": its links.
-- R2: leaving writes the head and does not read it
abbrev release_next : List Line
release_next =
    asks 1 0 48 ∷ word= (in_arena 0 arena_next) 4 ∷ gives 48 6 0
    ∷ word= (in_arena 0 arena_next) 3 ∷ word= usable_head 99 ∷ gives 48 0 48
    ∷ word? usable_head 3 ∷ word? (in_arena 2 arena_previous) 0 ∷ word? unused_head 1 ∷ []

abbrev release_previous : List Line
release_previous =
    asks 1 0 48 ∷ word= (in_arena 0 arena_previous) 4 ∷ gives 48 6 0
    ∷ word= (in_arena 0 arena_previous) 3 ∷ word= (in_arena 2 arena_next) 1 ∷ gives 48 0 48
    ∷ word? (in_arena 2 arena_next) 0 ∷ word? usable_head 1 ∷ []

-- R3: .. and joins the unused list. R5: "its record becomes 0 except" for that; "its pool records stay as they stand"
abbrev release_words : List Line
release_words =
    asks 1 0 48 ∷ word= unused_head 4 ∷ gives 48 6 0
    ∷ word= unused_head 2 ∷ word= (in_arena 0 open_word) 9
    ∷ word= (in_arena 0 6) 7 ∷ word= (in_arena 0 7) 8 ∷ gives 48 0 48
    ∷ word? (in_arena 0 open_word) 0 ∷ word? (in_arena 0 carve_mark) 0 ∷ word? (in_arena 0 free_pools) 0
    ∷ word? (in_arena 0 freed_head) 0 ∷ word? (in_arena 0 arena_next) 2 ∷ word? (in_arena 0 arena_previous) 0
    ∷ word? (in_arena 0 6) 0 ∷ word? (in_arena 0 7) 0
    ∷ word? unused_head 1 ∷ word? (in_arena 1 arena_previous) 1 ∷ word? usable_head 0
    ∷ word? (in_pool 0 class) 0 ∷ word? (in_pool 0 freeblock) 48 ∷ word? (in_pool 0 nextoffset) 64
    ∷ asks 1 0 48 ∷ word? (in_pool 0 freeblock) 56 ∷ []

-- the last pool of an arena leaves its class list like any other
abbrev release_leaves : List Line
release_leaves =
    asks 1 0 48 ∷ gives 48 0 48 ∷ word? (class_head 0) 0 ∷ word? (in_pool 0 count) 0 ∷ bit? 0 0 0 ∷ []

-- ---- other arenas, pools and classes: six asks fill arenas 0 and 1
abbrev filled : List Line → List Line
filled ls =
    asks 1 0 48 ∷ asks 9 0 4144 ∷ asks 17 0 8240 ∷ asks 25 0 12336 ∷ asks 33 0 16432 ∷ asks 41 0 20528 ∷ ls

-- "Pool n is in arena n div P": blocks of arena 1 are given back, and it is newly usable, keeps its place, is released;
-- arena 0's freed-pool head is not read
abbrev other_arena : List Line
other_arena =
    filled (word= (in_arena 0 freed_head) 99
    ∷ word= (in_pool 3 freeblock) 56 ∷ gives 12336 6 0 ∷ word= (in_pool 3 freeblock) 80 ∷ gives 12336 0 12336
    ∷ has (link 12336) 80 ∷ word? (class_head 3) 0 ∷ word? (in_arena 1 freed_head) 4
    ∷ word? (in_arena 1 free_pools) 1 ∷ word? usable_head 2 ∷ word? (in_arena 0 free_pools) 0
    ∷ gives 16432 0 16432 ∷ word? (in_pool 4 pool_next) 4 ∷ word? (in_arena 1 free_pools) 2
    ∷ gives 20528 0 20528
    ∷ word? unused_head 2 ∷ word? usable_head 0
    ∷ word? (in_arena 1 open_word) 0 ∷ word? (in_arena 0 open_word) 1 ∷ [])

-- a freed pool of arena 1 is taken, for its own class and for another
abbrev other_arena_again : List Line
other_arena_again =
    filled (gives 12336 0 12336 ∷ asks 25 0 12336
    ∷ word? (in_arena 1 free_pools) 0 ∷ word? (in_arena 1 freed_head) 0 ∷ word? usable_head 0
    ∷ gives 12336 0 12336 ∷ asks 49 0 12336
    ∷ word? (in_arena 1 free_pools) 0 ∷ word? (in_arena 1 freed_head) 0 ∷ word? usable_head 0
    ∷ word? (class_head 6) 4 ∷ word? (in_pool 3 class) 6 ∷ [])

-- the links of the arena that is released, not of arena 0
abbrev other_arena_links : List Line
other_arena_links =
    filled (gives 12336 0 12336 ∷ gives 16432 0 16432 ∷ word= (in_arena 1 arena_next) 4 ∷ gives 20528 6 0
    ∷ word= (in_arena 1 arena_next) 0 ∷ word= (in_arena 0 arena_next) 4 ∷ gives 20528 0 20528 ∷ [])

-- "its class list", not another: pool 3, of class 3, becomes full and joins again
abbrev other_class : List Line
other_class =
    filled (word= (in_pool 3 nextoffset) 4096 ∷ asks 25 0 12368 ∷ word? (class_head 3) 0 ∷ word? (class_head 0) 1
    ∷ word= (class_head 3) 10 ∷ gives 12336 6 0
    ∷ word= (class_head 3) 0 ∷ gives 12336 0 12336 ∷ word? (class_head 3) 4 ∷ word? (class_head 0) 1 ∷ [])

-- ==== resize
-- an ask that meets 6 is the resize's answer, and nothing changes
abbrev resize_ask_six : List Line
resize_ask_six =
    asks 1 0 48 ∷ word= (class_head 1) 10 ∷ resizes 48 9 6 0
    ∷ bit? 0 0 1 ∷ word? (in_pool 0 count) 1 ∷ word? (in_arena 0 free_pools) 2 ∷ []

-- "a refused resize" keeps its block and its bytes: a first pool of three classes, and no arena left for a fourth
abbrev resize_no_room : List Line
resize_no_room =
    asks 1 0 48 ∷ asks 9 0 4144 ∷ asks 17 0 8240
    ∷ word= unused_head 0 ∷ writes 48 (79 ∷ 87 ∷ 69 ∷ 68 ∷ 0 ∷ 0 ∷ 0 ∷ 1 ∷ []) 0 48
    ∷ resizes 48 100 4 0 ∷ views 48 0 8 (79 ∷ 87 ∷ 69 ∷ 68 ∷ 0 ∷ 0 ∷ 0 ∷ 1 ∷ [])
    ∷ word? (in_pool 0 count) 1 ∷ []

-- "copy the first min(n, s) bytes": to a larger block all 8 and not the ninth, and the old block is dead;
-- to a smaller one n, and the bytes after them stay
abbrev resize_copies : List Line
resize_copies =
    asks 1 0 48 ∷ asks 9 0 4144 ∷ writes 48 (1 ∷ 2 ∷ 3 ∷ 4 ∷ 5 ∷ 6 ∷ 7 ∷ 8 ∷ []) 0 48
    ∷ link= 56 99 ∷ link= 4168 77
    ∷ resizes 48 9 0 4160 ∷ has (link 4160) 67305985
    ∷ has (link 4164) 134678021 ∷ has (link 4168) 77 ∷ views 48 10 0 []
    ∷ writes 4160
    (1 ∷ 2 ∷ 3 ∷ 4 ∷ 5 ∷ 6 ∷ 7 ∷ 8 ∷ 9 ∷ 10 ∷ 11 ∷ 12 ∷ 13 ∷ 14 ∷ 15 ∷ 16 ∷ []) 0 4160
    ∷ views 4160 0 16
    (1 ∷ 2 ∷ 3 ∷ 4 ∷ 5 ∷ 6 ∷ 7 ∷ 8 ∷ 9 ∷ 10 ∷ 11 ∷ 12 ∷ 13 ∷ 14 ∷ 15 ∷ 16 ∷ [])
    ∷ link= 52 0 ∷ resizes 4160 3 0 48 ∷ has (link 48) 197121 ∷ has (link 52) 0 ∷ []

-- R16: a resize that keeps its offset runs no step, so books that would give 6 are not seen
abbrev resize_keeps : List Line
resize_keeps =
    asks 100 0 48 ∷ word= (class_head 12) 10 ∷ word= (in_pool 0 count) 0
    ∷ resizes 48 104 0 48 ∷ resizes 48 79 0 48 ∷ resizes 48 105 6 4144 ∷ []

-- "The half-done resize": the give-back meets 6, the ask and the copy stand
abbrev half_done_six : List Line
half_done_six =
    asks 1 0 48 ∷ writes 48 (1 ∷ 2 ∷ 3 ∷ 4 ∷ 5 ∷ 6 ∷ 7 ∷ 8 ∷ []) 0 48
    ∷ word= (in_pool 0 count) 0 ∷ resizes 48 9 6 4144
    ∷ has (link 4144) 67305985 ∷ bit? 0 0 1 ∷ bit? 1 0 1 ∷ []

-- ---- pool 0 holds blocks 0 to 2 of class 0, the first two are given back, the third, at 64, has a text, and the books
-- say that the pool is a freed one
abbrev held_as_freed : List Line → List Line
held_as_freed ls =
    asks 1 0 48 ∷ asks 1 0 56 ∷ asks 1 0 64 ∷ gives 48 0 48 ∷ gives 56 0 56
    ∷ writes 64 (1 ∷ 2 ∷ 3 ∷ 4 ∷ 5 ∷ 6 ∷ 7 ∷ 8 ∷ []) 0 64 ∷ word= (in_arena 0 freed_head) 1 ∷ ls

-- .. the give-back meets 5: the ask sets the pool to class 2, which has no block at 64
abbrev half_done_five : List Line
half_done_five =
    held_as_freed (resizes 64 17 6 48
    ∷ has (link 48) 67305985 ∷ has (link 52) 134678021 ∷ bit? 0 2 1 ∷ word? (in_pool 0 count) 1 ∷ [])

-- W-206: "The half-done resize covers 10 as well": the ask sets the pool to class 1, whose block at 64 is dead.
-- R9: the copied bytes are those that stand after the ask, which wrote a link over the old block's first four
abbrev half_done_ten : List Line
half_done_ten =
    held_as_freed (resizes 64 16 6 48
    ∷ has (link 48) 0 ∷ has (link 52) 134678021 ∷ bit? 0 2 1
    ∷ word? (in_pool 0 count) 1 ∷ gives 64 10 0 ∷ [])

-- R10: the give-back goes by the class that the books then show: 80 was block 4 of class 0, and is block 2 of class 1
abbrev resize_by_new_class : List Line
resize_by_new_class =
    asks 1 0 48 ∷ asks 1 0 56 ∷ asks 1 0 64 ∷ asks 1 0 72 ∷ asks 1 0 80 ∷ gives 48 0 48 ∷ gives 56 0 56
    ∷ word= (in_arena 0 freed_head) 1 ∷ resizes 80 9 0 48 ∷ bit? 0 0 1 ∷ bit? 0 2 0 ∷ bit? 0 4 1 ∷ []

-- ==== the order of the tests
abbrev memory_short : Line
memory_short = spoil (on_memory (drop 1))

-- "books under two words is 2", whatever they say; R1: format reads no shape from the books
abbrev order_two_words : List Line
order_two_words =
    spoil (on_books (take 1)) ∷ asks 0 2 0 ∷ gives 48 2 0 ∷ resizes 48 0 2 0
    ∷ writes 48 (1 ∷ []) 2 0 ∷ views 48 2 0 [] ∷ rolls [] 2 0 []
    ∷ formats 0 3 0 1 ∷ formats 3 3 0 2 ∷ []

-- two words are enough to tell 1
abbrev two_words : List Line
two_words = spoil (on_books (take 2)) ∷ asks 1 2 0 ∷ word= 0 0 ∷ asks 1 1 0 ∷ []

-- 1 before 2: A 0 and 17, P 1 and 65 are out of range
abbrev order_one : List Line
order_one =
    memory_short ∷ word= 0 0 ∷ asks 0 1 0 ∷ word= 0 17 ∷ asks 0 1 0
    ∷ word= 0 3 ∷ word= 1 1 ∷ gives 48 1 0 ∷ word= 1 65 ∷ gives 48 1 0
    ∷ formats 0 3 0 1 ∷ formats 17 3 0 1 ∷ formats 3 1 0 1 ∷ formats 3 65 0 1 ∷ []

-- W-211: "Spare word 68 says which: 0 for eight, 1 for sixteen, another value is 1", of every call, before 3, 5 and 7.
-- It is read at each call
abbrev order_edition : List Line
order_edition =
    word= 68 2 ∷ asks 0 1 0 ∷ gives 48 1 0 ∷ resizes 48 0 1 0 ∷ writes 48 (1 ∷ []) 1 0
    ∷ views 48 1 0 [] ∷ view_at? 48 0 ∷ stands_in 48 (7 ∷ []) (7 ∷ []) 2 2000 ∷ rolls [] 1 0 []
    ∷ word= 68 4294967295 ∷ asks 1 1 0
    ∷ word= 68 1 ∷ asks 1 0 48 ∷ rolls (0 ∷ 0 ∷ []) 0 1 (48 ∷ 16 ∷ [])
    ∷ word= 68 0 ∷ rolls (0 ∷ 0 ∷ []) 0 1 (48 ∷ 8 ∷ []) ∷ []

-- ".. after A and P are tested": those of books that do not reach word 68 are 1 all the same
abbrev order_reach : List Line
order_reach =
    word= 68 2 ∷ spoil (on_books (take 69)) ∷ asks 1 1 0 ∷ word= 68 1 ∷ asks 1 2 0
    ∷ spoil (on_books (take 68)) ∷ asks 1 2 0 ∷ word= 0 0 ∷ asks 1 1 0
    ∷ word= 0 3 ∷ word= 1 65 ∷ asks 1 1 0 ∷ []

-- .. and before the lengths; the same of format, which reads none of the books
abbrev edition_lengths : List Line
edition_lengths =
    memory_short ∷ word= 68 2 ∷ asks 1 1 0 ∷ word= 0 0 ∷ asks 1 1 0 ∷ word= 0 3 ∷ word= 68 1 ∷ asks 1 2 0
    ∷ formats 3 3 2 1 ∷ formats 0 3 2 1 ∷ formats 3 3 1 2 ∷ spoil (on_books (take 68)) ∷ formats 3 3 2 1 ∷ []

-- a heap in range that the lengths do not fit: A 1 and 16, P 2 and 64
abbrev range_ends : List Line
range_ends =
    word= 0 1 ∷ asks 1 2 0 ∷ word= 0 16 ∷ asks 1 2 0 ∷ word= 1 2 ∷ asks 1 2 0 ∷ word= 1 64 ∷ asks 1 2 0
    ∷ formats 1 2 0 2 ∷ formats 16 64 0 2 ∷ formats 3 3 0 0 ∷ asks 1 0 48 ∷ []

-- 2 before 3, 5 and 7, for each buffer that is one element short
abbrev wrong_length : List Line
wrong_length =
    asks 0 2 0 ∷ gives 56 2 0 ∷ resizes 48 0 2 0
    ∷ writes 48 (1 ∷ 2 ∷ 3 ∷ 4 ∷ 5 ∷ 6 ∷ 7 ∷ 8 ∷ 9 ∷ []) 2 0
    ∷ views 48 2 0 [] ∷ view_at? 48 0 ∷ rolls [] 2 0 [] ∷ formats 3 3 0 2 ∷ []

abbrev order_two : List Line
order_two = asks 1 0 48 ∷ memory_short ∷ wrong_length

abbrev order_two_books : List Line
order_two_books = asks 1 0 48 ∷ spoil (on_books (take 167)) ∷ wrong_length

abbrev order_two_map : List Line
order_two_map = asks 1 0 48 ∷ spoil (on_map (drop 1)) ∷ wrong_length

-- "a lent length is not exact": one element long
abbrev long_memory : List Line
long_memory = asks 1 0 48 ∷ spoil (on_memory (λ m. 0 ∷ m)) ∷ wrong_length

abbrev long_books : List Line
long_books = asks 1 0 48 ∷ spoil (on_books (λ b. b ++ (0 ∷ []))) ∷ wrong_length

abbrev long_map : List Line
long_map = asks 1 0 48 ∷ spoil (on_map (λ m. 0 ∷ m)) ∷ wrong_length

-- 3 before 5, and before the step; 5 before 7, and before the step.
-- W-206: "Every call that gave 5 takes the split, in the same place": 10, of the block at 56, as 5, of none at 64
abbrev order_rest : List Line
order_rest =
    word= (class_head 0) 10 ∷ asks 0 3 0 ∷ asks 513 3 0 ∷ asks 1 6 0 ∷ word= (class_head 0) 0
    ∷ asks 1 0 48 ∷ resizes 64 0 3 0 ∷ resizes 64 513 3 0 ∷ resizes 64 1 5 0
    ∷ resizes 56 0 3 0 ∷ resizes 56 513 3 0 ∷ resizes 56 1 10 0
    ∷ writes 64 (1 ∷ 2 ∷ 3 ∷ 4 ∷ 5 ∷ 6 ∷ 7 ∷ 8 ∷ 9 ∷ []) 5 0
    ∷ writes 56 (1 ∷ 2 ∷ 3 ∷ 4 ∷ 5 ∷ 6 ∷ 7 ∷ 8 ∷ 9 ∷ []) 10 0
    ∷ writes 48 (1 ∷ 2 ∷ 3 ∷ 4 ∷ 5 ∷ 6 ∷ 7 ∷ 8 ∷ 9 ∷ []) 7 0
    ∷ views 64 5 0 [] ∷ views 56 10 0 [] ∷ view_at? 56 0
    ∷ word= (in_pool 0 count) 0 ∷ gives 64 5 0 ∷ gives 56 10 0 ∷ gives 48 6 0 ∷ []

-- ==== view, write, roll call
-- the live test: "it lies in memory, its pool's class is at most 63, it is a block start of that class and its map
-- bit is set".
-- R17: a class above 63 is 5, never 6, and neither its bits nor those past the last block are in a roll;
-- a pool of 512 has blocks 0 to 6
abbrev not_live : List Line
not_live =
    asks 512 0 48 ∷ gives 49 5 0 ∷ gives 47 5 0 ∷ gives 560 10 0 ∷ gives 1072 5 0 ∷ gives 36912 5 0
    ∷ bit= 0 6 1 ∷ bit= 0 7 1 ∷ gives 3632 5 0
    ∷ word= (in_pool 0 class) 64 ∷ gives 48 5 0 ∷ views 48 5 0 [] ∷ view_at? 48 0 ∷ rolls [] 0 0 []
    ∷ word= (in_pool 0 class) 63 ∷ word= (in_pool 0 freeblock) 7 ∷ gives 48 6 0
    ∷ rolls (9 ∷ 9 ∷ 9 ∷ 9 ∷ 9 ∷ []) 0 2 (48 ∷ 512 ∷ 3120 ∷ 512 ∷ 9 ∷ []) ∷ []

-- ==== W-206: a dead block, or no block
-- "10 where the offset is a block start, below nextoffset, of a carved pool of class at most 63, but not live": set
-- ready and never handed out; given back, while another block holds the arena open. "5 otherwise": at nextoffset; at no
-- start; once the arena is released
abbrev dead_block : List Line
dead_block =
    asks 1 0 48 ∷ gives 56 10 0 ∷ gives 64 5 0 ∷ gives 52 5 0
    ∷ asks 1 0 56 ∷ gives 48 0 48 ∷ gives 48 10 0 ∷ resizes 48 1 10 0 ∷ writes 48 [] 10 0 ∷ views 48 10 0 []
    ∷ asks 9 0 4144 ∷ gives 56 0 56 ∷ gives 56 10 0 ∷ gives 48 10 0
    ∷ gives 4144 0 4144 ∷ gives 4144 5 0 ∷ gives 56 5 0 ∷ gives 48 5 0 ∷ []

-- "an open (1) arena's": 2 is not open, nor is 0. A live block is live whatever stands there
abbrev dead_open : List Line
dead_open =
    asks 1 0 48 ∷ word= (in_arena 0 open_word) 0 ∷ gives 56 5 0 ∷ writes 48 [] 0 48
    ∷ word= (in_arena 0 open_word) 2 ∷ gives 56 5 0 ∷ word= (in_arena 0 open_word) 1 ∷ gives 56 10 0 ∷ []

-- "below .. mark", whatever the mark is: pool 4 is number 1 of arena 1, and 16,472 its block that is set ready.
-- The other arenas' words say nothing of it
abbrev dead_mark : List Line
dead_mark =
    filled (word= (in_arena 1 carve_mark) 0 ∷ gives 16472 5 0 ∷ word= (in_arena 1 carve_mark) 1 ∷ gives 16472 5 0
    ∷ word= (in_arena 1 carve_mark) 2 ∷ gives 16472 10 0
    ∷ word= (in_arena 1 carve_mark) 4294967295 ∷ gives 16472 10 0
    ∷ word= (in_arena 0 open_word) 0 ∷ word= (in_arena 0 carve_mark) 0 ∷ gives 16472 10 0
    ∷ word= (in_arena 1 open_word) 0 ∷ gives 16472 5 0 ∷ [])

-- "below nextoffset": the in-pool place, 88, of that block
abbrev dead_nextoffset : List Line
dead_nextoffset =
    filled (word= (in_pool 4 nextoffset) 87 ∷ gives 16472 5 0 ∷ word= (in_pool 4 nextoffset) 88 ∷ gives 16472 5 0
    ∷ word= (in_pool 4 nextoffset) 89 ∷ gives 16472 10 0
    ∷ word= (in_pool 0 nextoffset) 0 ∷ gives 16472 10 0 ∷ [])

-- "of class at most 63", and "a block start" of it: 3,632 is none for 512, though nextoffset is past it
abbrev dead_class : List Line
dead_class =
    asks 1 0 48 ∷ bit= 0 0 0 ∷ gives 48 10 0 ∷ word= (in_pool 0 class) 64 ∷ gives 48 5 0
    ∷ word= (in_pool 0 class) 63 ∷ gives 48 10 0
    ∷ word= (in_pool 0 nextoffset) 4294967295 ∷ gives 3120 10 0
    ∷ gives 3632 5 0 ∷ gives 560 10 0 ∷ gives 561 5 0 ∷ []

-- "but not live": the same block, its bit being set
abbrev dead_bit : List Line
dead_bit = asks 1 0 48 ∷ gives 56 10 0 ∷ bit= 0 1 1 ∷ writes 56 [] 0 56 ∷ bit= 0 1 0 ∷ gives 56 10 0 ∷ []

-- the last block of memory is live too: pool 8 is made the front pool of class 0, with that block to spare
abbrev last_block : List Line
last_block =
    word= (class_head 0) 9 ∷ word= (in_pool 8 class) 0 ∷ word= (in_pool 8 maxnextoffset) 4088
    ∷ word= (in_pool 8 freeblock) 4088 ∷ word= (in_pool 8 nextoffset) 4096
    ∷ word= (in_pool 8 count) 505 ∷ link= 36856 0
    ∷ asks 1 0 36856 ∷ word? (class_head 0) 0 ∷ gives 36856 0 36856 ∷ word? (class_head 0) 9 ∷ []

-- "Write copies a lent text to the start of a block; the rest of the block stays."
-- R22: an empty text is 0. A full one too
abbrev writing : List Line
writing =
    asks 1 0 48 ∷ writes 48 (1 ∷ 2 ∷ 3 ∷ 4 ∷ 5 ∷ 6 ∷ 7 ∷ 8 ∷ []) 0 48 ∷ writes 48 [] 0 48
    ∷ writes 48 (9 ∷ []) 0 48 ∷ views 48 0 8 (9 ∷ 2 ∷ 3 ∷ 4 ∷ 5 ∷ 6 ∷ 7 ∷ 8 ∷ [])
    ∷ view_at? 48 48
    ∷ word= (in_pool 0 count) 0 ∷ writes 48 [] 0 48 ∷ []

-- W-214: "either the live block's own bytes or the lent phrase itself": its own, too, where the phrase has the same
-- bytes; the phrase where the block was never handed out or is given back, and where none starts. "An empty phrase is
-- allowed."
abbrev standing : List Line
standing =
    stands_in 48 (7 ∷ 7 ∷ []) (7 ∷ 7 ∷ []) 2 2000 ∷ asks 1 0 48 ∷ asks 1 0 56
    ∷ writes 48 (1 ∷ 2 ∷ 3 ∷ 4 ∷ 5 ∷ 6 ∷ 7 ∷ 8 ∷ []) 0 48
    ∷ stands_in 48 (7 ∷ 7 ∷ []) (1 ∷ 2 ∷ 3 ∷ 4 ∷ 5 ∷ 6 ∷ 7 ∷ 8 ∷ []) 1 1048
    ∷ stands_in 48 [] (1 ∷ 2 ∷ 3 ∷ 4 ∷ 5 ∷ 6 ∷ 7 ∷ 8 ∷ []) 1 1048
    ∷ stands_in 48 (1 ∷ 2 ∷ 3 ∷ 4 ∷ 5 ∷ 6 ∷ 7 ∷ 8 ∷ [])
    (1 ∷ 2 ∷ 3 ∷ 4 ∷ 5 ∷ 6 ∷ 7 ∷ 8 ∷ []) 1 1048
    ∷ stands_in 52 (7 ∷ 7 ∷ []) (7 ∷ 7 ∷ []) 2 2000
    ∷ gives 48 0 48 ∷ stands_in 48 (7 ∷ 7 ∷ []) (7 ∷ 7 ∷ []) 2 2000 ∷ stands_in 48 [] [] 2 2000 ∷ []

-- W-214: 1 and 2 are refusals of view too
abbrev standing_shape : List Line
standing_shape =
    asks 1 0 48 ∷ writes 48 (1 ∷ 2 ∷ 3 ∷ 4 ∷ 5 ∷ 6 ∷ 7 ∷ 8 ∷ []) 0 48
    ∷ word= 0 17 ∷ stands_in 48 (7 ∷ []) (7 ∷ []) 2 2000
    ∷ word= 0 3 ∷ stands_in 48 (7 ∷ []) (1 ∷ 2 ∷ 3 ∷ 4 ∷ 5 ∷ 6 ∷ 7 ∷ 8 ∷ []) 1 1048
    ∷ spoil (on_books (take 1)) ∷ stands_in 48 (7 ∷ []) (7 ∷ []) 2 2000 ∷ []

-- "by rising offset, leaves the words after them": two words for each live block, or 7.
-- R22: no live block and no room is 0
abbrev rolling : List Line
rolling =
    rolls [] 0 0 [] ∷ asks 1 0 48 ∷ asks 9 0 4144 ∷ asks 1 0 56
    ∷ rolls (1 ∷ 2 ∷ 3 ∷ 4 ∷ 5 ∷ []) 7 0 (1 ∷ 2 ∷ 3 ∷ 4 ∷ 5 ∷ [])
    ∷ rolls (1 ∷ 2 ∷ 3 ∷ 4 ∷ 5 ∷ 6 ∷ []) 0 3 (48 ∷ 8 ∷ 56 ∷ 8 ∷ 4144 ∷ 16 ∷ [])
    ∷ rolls (1 ∷ 2 ∷ 3 ∷ 4 ∷ 5 ∷ 6 ∷ 7 ∷ []) 0 3 (48 ∷ 8 ∷ 56 ∷ 8 ∷ 4144 ∷ 16 ∷ 7 ∷ []) ∷ []

-- the last block of the last pool
abbrev rolling_last : List Line
rolling_last =
    word= (in_pool 8 class) 0 ∷ bit= 8 505 1 ∷ bit= 8 506 1
    ∷ rolls (0 ∷ 0 ∷ []) 0 1 (36856 ∷ 8 ∷ []) ∷ []

-- W-202: a bit at no block of its class is in no roll, and takes no room
abbrev rolling_stray : List Line
rolling_stray = asks 512 0 48 ∷ bit= 0 9 1 ∷ rolls (0 ∷ 0 ∷ []) 0 1 (48 ∷ 512 ∷ []) ∷ []

-- every word of the map is all ones: the seven blocks of the one pool that has a class, and none where it has none
abbrev rolling_ones : List Line
rolling_ones =
    asks 512 0 48 ∷ spoil (on_map (λ m. replicate (length m) 18446744073709551615))
    ∷ rolls (0 ∷ 0 ∷ 0 ∷ 0 ∷ 0 ∷ 0 ∷ 0 ∷ 0 ∷ 0 ∷ 0 ∷ 0 ∷ 0 ∷ 0 ∷ []) 7 0
    (0 ∷ 0 ∷ 0 ∷ 0 ∷ 0 ∷ 0 ∷ 0 ∷ 0 ∷ 0 ∷ 0 ∷ 0 ∷ 0 ∷ 0 ∷ [])
    ∷ rolls (0 ∷ 0 ∷ 0 ∷ 0 ∷ 0 ∷ 0 ∷ 0 ∷ 0 ∷ 0 ∷ 0 ∷ 0 ∷ 0 ∷ 0 ∷ 0 ∷ []) 0 7
    (48 ∷ 512 ∷ 560 ∷ 512 ∷ 1072 ∷ 512 ∷ 1584 ∷ 512
    ∷ 2096 ∷ 512 ∷ 2608 ∷ 512 ∷ 3120 ∷ 512 ∷ [])
    ∷ word= (in_pool 0 class) 64 ∷ rolls [] 0 0 [] ∷ []

abbrev pub damaged : List (List Line)
damaged =
    format_words ∷ format_records ∷ format_edition ∷ lengths ∷ book_words ∷ book_links ∷ map_words
    ∷ ask_class_head ∷ ask_class ∷ ask_maxnextoffset ∷ ask_both_read ∷ ask_count
    ∷ ask_count_of_seven ∷ ask_freeblock ∷ ask_freeblock_of_seven ∷ ask_freeblock_bit
    ∷ ask_link ∷ ask_next_bit ∷ ask_nextoffset ∷ ask_ready_of_seven ∷ ask_nextoffset_unread
    ∷ ask_itself ∷ ask_last_next ∷ ask_last_previous ∷ ask_last_itself
    ∷ no_room ∷ no_room_but_class ∷ no_room_but_usable ∷ ask_usable_head
    ∷ ask_unused_head ∷ open_links ∷ opening ∷ ask_freed_head ∷ ask_freed_next
    ∷ ask_carve_mark ∷ ask_carve_mark_unread ∷ carve_free_pools
    ∷ freed_free_pools ∷ spent_next ∷ spent_previous ∷ anew_bits ∷ anew_words
    ∷ again_freeblock ∷ again_link ∷ again_next ∷ again_untested ∷ spare_words
    ∷ back_freeblock ∷ back_count ∷ back_count_of_seven ∷ back_joins ∷ back_joins_itself ∷ back_stays
    ∷ back_joins_empty ∷ empty_next ∷ empty_previous ∷ empty_freed_head ∷ empty_free_pools
    ∷ back_returns ∷ release_next ∷ release_previous ∷ release_words ∷ release_leaves
    ∷ other_arena ∷ other_arena_again ∷ other_arena_links ∷ other_class
    ∷ resize_ask_six ∷ resize_no_room ∷ resize_copies ∷ resize_keeps
    ∷ half_done_six ∷ half_done_five ∷ half_done_ten ∷ resize_by_new_class
    ∷ order_two_words ∷ two_words ∷ order_one ∷ order_edition
    ∷ order_reach ∷ edition_lengths ∷ range_ends ∷ order_two
    ∷ order_two_books ∷ order_two_map ∷ long_memory ∷ long_books ∷ long_map ∷ order_rest
    ∷ not_live ∷ dead_block ∷ dead_open ∷ dead_mark ∷ dead_nextoffset ∷ dead_class ∷ dead_bit ∷ last_block
    ∷ writing ∷ standing ∷ standing_shape ∷ rolling ∷ rolling_last ∷ rolling_stray ∷ rolling_ones ∷ []

-- the table holds of a fresh heap over these three buffers
abbrev pub Holds : List ℕ → List ℕ → List ℕ → Type 0
Holds m b k = T (every damaged (fresh 3 3 0 m b k))

-- every row, whatever memory, books and map of the right lengths held before format
pub damaged_hold : (m b k : List ℕ)
    → length m ≡ memory_length 3 3 → length b ≡ books_length 3 3 → length k ≡ map_length 3 3
    → Holds m b k
unfolding every
damaged_hold =
    each_three Holds (memory_length 3 3) (books_length 3 3) (map_length 3 3) (λ f g k. tt)
