-- 02, W-201, the audit: for each clause of each rule a heap that breaks it, with its number, and beside it heaps that
-- just keep it; with readings R45 to R51 of docs/DECISIONS.md. One table under one statement.
-- Assumes nothing.
use Rattle.std.specs.Prelude.{◌≡◌, List, [], ◌∷◌, ◌++◌, ℕ, zero, suc, ◌+◌, T, length}
use Rattle.rules.specs.Books.{
  Heap,
  memory_length,
  books_length,
  map_length,
  on_memory,
  on_map,
  put_map_bit,
  usable_head,
  unused_head,
  class_head,
  open_word,
  carve_mark,
  free_pools,
  freed_head,
  arena_next,
  arena_previous,
  arena_word,
  count,
  freeblock,
  pool_next,
  pool_previous,
  class,
  nextoffset,
  maxnextoffset,
  no_class,
  pool_word,
}
use Rattle.rules.specs.Blocks.{put_link}
use Rattle.rules.specs.Outcome.{heap_of}
use Rattle.rules.specs.declared.Verdict.TheVariants.{
  Yes,
  Shape,
  Zeros,
  Closed,
  Open,
  Bits,
  Lists,
  Counts,
  Blocks,
  Order,
}
use Rattle.rules.specs.Audit.{number_of}
use Rattle.rules.specs.Lines.{Line, asks, gives, audits, has, spoil, word=, every, fresh}
use Rattle.rules.specs.Whole.{tab, each_three}

-- Two arenas of two pools, edition eight: pool n is in arena n div 2 and starts at 4,096n; a link to an arena is at
-- most 2, to a pool at most 4.

-- ---- damage: a word of arena a's record becomes v, of pool n's; block k's bit of pool n; the link in memory at o
abbrev arena= : ℕ → ℕ → ℕ → Line
arena= a w v = word= (arena_word w a) v

abbrev pool= : ℕ → ℕ → ℕ → Line
pool= n w v = word= (pool_word 2 w n) v

abbrev bit= : ℕ → ℕ → ℕ → Line
bit= n k v = spoil (on_map (put_map_bit n k v))

abbrev link= : ℕ → ℕ → Line
link= o v = spoil (on_memory (put_link o v))

-- ---- a word is v, and the audit gives k; then it is as it was, v₀
abbrev arena_gives : ℕ → ℕ → ℕ → ℕ → ℕ → List Line
arena_gives a w v₀ v k = arena= a w v ∷ audits k ∷ arena= a w v₀ ∷ []

abbrev pool_gives : ℕ → ℕ → ℕ → ℕ → ℕ → List Line
pool_gives n w v₀ v k = pool= n w v ∷ audits k ∷ pool= n w v₀ ∷ []

abbrev word_gives : ℕ → ℕ → ℕ → ℕ → List Line
word_gives i v₀ v k = word= i v ∷ audits k ∷ word= i v₀ ∷ []

abbrev link_gives : ℕ → ℕ → ℕ → ℕ → List Line
link_gives o v₀ v k = link= o v ∷ audits k ∷ link= o v₀ ∷ []

abbrev bit_gives : ℕ → ℕ → ℕ → List Line
bit_gives n i k = bit= n i 1 ∷ audits k ∷ bit= n i 0 ∷ []

-- and as it was it passes
abbrev passes : List Line
passes = audits 0 ∷ []

-- ---- heaps
-- n asks for 512 bytes that get the blocks from o on, one after the other: a pool has seven
abbrev large : ℕ → ℕ → List Line
large zero o = []
large (suc n) o = asks 512 0 o ∷ large n (o + 512)

-- pool 0 has one live block of 8 bytes, and the next one is set ready; arena 1 is closed
abbrev one : List Line
one = asks 8 0 48 ∷ audits 0 ∷ []

-- pool 0, of 8 bytes, was freed, and pool 1 has a live block of 16
abbrev freed : List Line
freed = asks 8 0 48 ∷ asks 16 0 4144 ∷ gives 48 0 48 ∷ audits 0 ∷ []

-- pools 0, 1 and 2 have a live block of 8, 16 and 24 bytes each: arena 0 has no free pool, and arena 1 one
abbrev spent : List Line
spent = asks 8 0 48 ∷ asks 16 0 4144 ∷ asks 24 0 8240 ∷ audits 0 ∷ []

-- pools 0 and 2 were freed, and pools 1 and 3 have a live block of 16 and 32 bytes: the usable list is 0, 1
abbrev both : List Line
both =
    asks 8 0 48 ∷ asks 16 0 4144 ∷ asks 24 0 8240 ∷ asks 32 0 12336 ∷ gives 8240 0 8240 ∷ gives 48 0 48 ∷ audits 0 ∷ []

-- arena 1 is open too, with pool 2 carved and freed, and no pool in use: no call makes such a one
abbrev opened : List Line
opened =
    asks 8 0 48 ∷ arena= 1 open_word 1 ∷ arena= 1 carve_mark 1 ∷ arena= 1 free_pools 2 ∷ arena= 1 freed_head 3
    ∷ word= unused_head 0 ∷ []

-- ==== "(1) no 1 or 2"; W-211: "the audit allows" the edition
abbrev no_shape : List Line
no_shape =
    passes
    ++ word_gives 0 2 0 1
    ++ word_gives 1 2 65 1
    ++ word_gives 68 0 2 1
    ++ word_gives 68 0 1 0
    ++ (spoil (on_map (λ m. 0 ∷ m)) ∷ audits 1 ∷ spoil (λ (h : Heap). heap_of h.memory [] []) ∷ audits 1 ∷ [])

-- ==== "(2) open 0 or 1, words 68 to 71, an arena record's last two and a pool record's last being 0"
abbrev open_words : List Line
open_words = one ++ arena_gives 0 open_word 1 2 2 ++ arena_gives 1 open_word 0 2 2 ++ arena_gives 1 open_word 0 1 4
    ++ passes

abbrev last_words : List Line
last_words =
    one
    ++ word_gives 69 0 1 2
    ++ word_gives 70 0 1 2
    ++ word_gives 71 0 1 2
    ++ arena_gives 0 6 0 1 2
    ++ arena_gives 1 7 0 1 2
    ++ pool_gives 0 7 0 1 2
    ++ pool_gives 3 7 0 1 2

-- ==== "(3) each closed arena's record 0 but for its links"
abbrev closed_words : List Line
closed_words =
    one
    ++ arena_gives 1 carve_mark 0 1 3
    ++ arena_gives 1 free_pools 0 2 3
    ++ arena_gives 1 freed_head 0 3 3
    ++ arena_gives 1 arena_next 0 1 6
    ++ arena_gives 1 arena_previous 0 1 6
    ++ passes

-- ==== "(4) each open arena's carve mark 1 to P and its free pools equal to its pools not in use"
abbrev marks : List Line
marks =
    one
    ++ arena_gives 0 carve_mark 1 0 4
    ++ arena_gives 0 carve_mark 1 3 4
    ++ (asks 16 0 4144 ∷ audits 0 ∷ arena= 0 carve_mark 3 ∷ audits 4 ∷ [])

-- no pool in use and none carved
abbrev mark_zero : List Line
mark_zero =
    opened
    ++ (arena= 0 arena_next 2 ∷ arena= 1 arena_previous 1 ∷ arena= 1 carve_mark 0 ∷ arena= 1 freed_head 0
    ∷ audits 4 ∷ [])

abbrev free_ones : List Line
free_ones =
    one
    ++ arena_gives 0 free_pools 1 0 4
    ++ arena_gives 0 free_pools 1 2 4
    ++ (asks 16 0 4144 ∷ audits 0 ∷ [])
    ++ arena_gives 0 free_pools 0 1 4
    ++ (gives 48 0 48 ∷ [])
    ++ arena_gives 0 free_pools 1 0 4
    ++ passes

abbrev free_other : List Line
free_other = spent ++ arena_gives 1 free_pools 1 2 4

-- R50: an open arena with no pool in use
abbrev none_in_use : List Line
none_in_use = opened ++ (arena= 0 arena_next 2 ∷ arena= 1 arena_previous 1 ∷ audits 0 ∷ [])

-- ==== "(5) no set bit in a pool not carved or at no block of its class"
-- R46: in a pool not carved it leaves rule 4 whole, also where its record has a class
abbrev stray_bit : List Line
stray_bit =
    one
    ++ bit_gives 1 0 5
    ++ bit_gives 3 511 5
    ++ passes
    ++ (pool= 1 class 0 ∷ audits 0 ∷ bit= 1 0 1 ∷ audits 5 ∷ [])

-- and any of a pool's 512 bits is a set bit: with one at no block the pool is in use, and free pools does not say so
abbrev any_bit : List Line
any_bit = freed ++ bit_gives 0 511 4

-- 506 blocks of 8 bytes, 7 of 512; none in class 64
abbrev no_block : List Line
no_block =
    one
    ++ bit_gives 0 506 5
    ++ bit_gives 0 505 7
    ++ bit_gives 0 511 5
    ++ (asks 512 0 4144 ∷ audits 0 ∷ [])
    ++ bit_gives 1 7 5
    ++ bit_gives 1 6 7
    ++ pool_gives 1 class 63 64 5

-- ==== "(6) each list holding just its members, once, doubly linked ones matching both ways"
-- "freed-pool lists the own arena's carved pools not in use, with previous 0": one is left out, another one is met, a
-- link leads to none, to itself, on to another, and back
abbrev freed_list : List Line
freed_list =
    freed
    ++ arena_gives 0 freed_head 1 0 6
    ++ arena_gives 0 freed_head 1 2 6
    ++ arena_gives 0 freed_head 1 5 6
    ++ pool_gives 0 pool_next 0 1 6
    ++ pool_gives 0 pool_next 0 2 6
    ++ pool_gives 0 pool_previous 0 1 6

-- a carved pool that no list has; pool 1 in no list, and in that of its arena
abbrev freed_carved : List Line
freed_carved = one ++ (arena= 0 carve_mark 2 ∷ audits 6 ∷ arena= 0 freed_head 2 ∷ audits 0 ∷ [])

-- two freed pools; the second one's previous is 0 too
abbrev freed_two : List Line
freed_two =
    opened
    ++ (arena= 0 arena_next 2 ∷ arena= 1 arena_previous 1 ∷ arena= 1 carve_mark 2 ∷ pool= 2 pool_next 4 ∷ audits 0 ∷ [])
    ++ pool_gives 3 pool_previous 0 3 6
    ++ pool_gives 2 pool_next 4 0 6
    ++ pool_gives 3 pool_next 0 3 6
    ++ arena_gives 1 freed_head 3 4 6

-- each on its own arena's list
abbrev freed_own : List Line
freed_own = both ++ (arena= 0 freed_head 3 ∷ arena= 1 freed_head 1 ∷ audits 6 ∷ [])

-- "the usable list the open arenas with free pools"
abbrev usable_list : List Line
usable_list =
    one
    ++ word_gives usable_head 1 0 6
    ++ word_gives usable_head 1 2 6
    ++ word_gives usable_head 1 3 6
    ++ arena_gives 0 arena_next 0 1 6
    ++ arena_gives 0 arena_next 0 2 6
    ++ arena_gives 0 arena_previous 0 1 6

abbrev usable_two : List Line
usable_two =
    both
    ++ word_gives usable_head 1 2 6
    ++ arena_gives 0 arena_next 2 0 6
    ++ arena_gives 0 arena_next 2 1 6
    ++ arena_gives 1 arena_previous 1 0 6
    ++ arena_gives 1 arena_previous 1 2 6
    ++ arena_gives 1 arena_next 0 1 6

-- "the unused list the closed arenas"
abbrev unused_list : List Line
unused_list =
    passes
    ++ word_gives unused_head 1 0 6
    ++ word_gives unused_head 1 2 6
    ++ arena_gives 0 arena_next 2 0 6
    ++ arena_gives 0 arena_next 2 3 6
    ++ arena_gives 1 arena_previous 1 0 6
    ++ arena_gives 1 arena_next 0 1 6
    ++ (asks 8 0 48 ∷ word= unused_head 1 ∷ audits 6 ∷ [])

-- pool 0's record, read as that of an arena 2, looks like a member
abbrev past_the_last : List Line
past_the_last = word= unused_head 3 ∷ pool= 0 class 2 ∷ arena= 1 arena_previous 3 ∷ audits 6 ∷ []

-- ".. open arenas without free pools having both links 0", and on no list
abbrev spent_links : List Line
spent_links = spent ++ arena_gives 0 arena_next 0 2 6 ++ arena_gives 0 arena_previous 0 2 6
    ++ word_gives usable_head 2 1 6

-- "each class list its pools with live and spare blocks"
abbrev class_list : List Line
class_list =
    one
    ++ word_gives (class_head 0) 1 0 6
    ++ word_gives (class_head 0) 1 2 6
    ++ word_gives (class_head 0) 1 5 6
    ++ word_gives (class_head 63) 0 1 6
    ++ pool_gives 0 pool_next 0 1 6
    ++ pool_gives 0 pool_next 0 2 6
    ++ pool_gives 0 pool_previous 0 1 6
    ++ pool_gives 0 class 0 1 6

-- two pools of one class: pool 0 was full of blocks of 512, and one came back; pool 1 has one
abbrev class_two : List Line
class_two =
    large 7 48
    ++ (asks 512 0 4144 ∷ gives 48 0 48 ∷ audits 0 ∷ [])
    ++ word_gives (class_head 63) 1 2 6
    ++ pool_gives 0 pool_next 2 0 6
    ++ pool_gives 1 pool_previous 1 0 6
    ++ pool_gives 1 pool_next 0 1 6

-- "full pools .. having both links 0", and on no list. R47: full is by the bits and not by the count, which is rule 7's
abbrev full_links : List Line
full_links =
    large 7 48
    ++ passes
    ++ pool_gives 0 pool_next 0 2 6
    ++ pool_gives 0 pool_previous 0 2 6
    ++ word_gives (class_head 63) 0 1 6
    ++ pool_gives 0 count 7 6 7

-- ==== "(7) each pool's count equal to its set bits"
abbrev counts : List Line
counts =
    large 3 48
    ++ pool_gives 0 count 3 7 7
    ++ pool_gives 0 count 3 2 7
    ++ pool_gives 1 count 0 1 7
    ++ pool_gives 3 count 0 1 7
    ++ passes

-- ==== "(8) each freed pool of class at most 63, or 65,535 with all else but next 0"
-- pool 1 is carved, and was not set to a class yet
abbrev unset : List Line
unset =
    one
    ++ (arena= 0 carve_mark 2 ∷ arena= 0 freed_head 2 ∷ audits 0 ∷ [])
    ++ pool_gives 1 freeblock 0 48 8
    ++ pool_gives 1 nextoffset 0 48 8
    ++ pool_gives 1 maxnextoffset 0 4088 8
    ++ pool_gives 1 class no_class 64 8
    ++ pool_gives 1 class no_class 63 8
    ++ pool_gives 1 class no_class 65534 8

-- class 64 is none, though its blocks of 520 bytes be in order
abbrev class_too_large : List Line
class_too_large =
    one
    ++ (arena= 0 carve_mark 2 ∷ arena= 0 freed_head 2 ∷ pool= 1 class 64 ∷ pool= 1 maxnextoffset 3576 ∷ [])
    ++ (pool= 1 nextoffset 1088 ∷ pool= 1 freeblock 48 ∷ link= 4144 568 ∷ link= 4664 0 ∷ audits 8 ∷ [])

-- and a freed pool of class 63 passes
abbrev last_class_freed : List Line
last_class_freed = asks 512 0 48 ∷ asks 8 0 4144 ∷ gives 48 0 48 ∷ audits 0 ∷ pool= 0 class 64 ∷ audits 8 ∷ []

-- but next: two such pools on one list
abbrev unset_next : List Line
unset_next =
    opened
    ++ (arena= 0 arena_next 2 ∷ arena= 1 arena_previous 1 ∷ arena= 1 carve_mark 2 ∷ pool= 2 pool_next 4 ∷ audits 0 ∷ [])
    ++ pool_gives 3 freeblock 0 48 8

-- "in each other carved pool maxnextoffset right, nextoffset a block start or the last block's end". R48: freed or not
abbrev offsets : List Line
offsets =
    freed
    ++ pool_gives 0 maxnextoffset 4088 4080 8
    ++ pool_gives 1 maxnextoffset 4080 4088 8
    ++ pool_gives 0 nextoffset 64 65 8
    ++ pool_gives 1 nextoffset 80 81 8

-- all seven blocks of 512 were handed out: nextoffset is the last block's end, 3,632. One block less, one more
abbrev last_end : List Line
last_end =
    large 7 48
    ++ passes
    ++ pool_gives 0 nextoffset 3632 3120 8
    ++ pool_gives 0 nextoffset 3632 4144 8

-- "each block in exactly one of live, freed chain and virgin, once": block 3, the first virgin one, is live, and
-- block 2 is in none
abbrev virgin_live : List Line
virgin_live = one ++ (pool= 0 nextoffset 72 ∷ bit= 0 3 1 ∷ pool= 0 count 2 ∷ audits 8 ∷ [])

-- the only live block is virgin; one block is in none, or all that were virgin are; the chain meets a live block, a
-- virgin one, what is no start, and none; it goes round, on to a live block, and to a virgin one
abbrev chain : List Line
chain =
    one
    ++ pool_gives 0 nextoffset 64 48 8
    ++ pool_gives 0 nextoffset 64 72 8
    ++ pool_gives 0 nextoffset 64 4096 8
    ++ pool_gives 0 freeblock 56 48 8
    ++ pool_gives 0 freeblock 56 64 8
    ++ pool_gives 0 freeblock 56 57 8
    ++ pool_gives 0 freeblock 56 0 8
    ++ link_gives 56 0 56 8
    ++ link_gives 56 0 48 8
    ++ link_gives 56 0 64 8

-- a chain of two, and in the other order; it leaves one out, and meets one twice
abbrev chain_two : List Line
chain_two =
    one
    ++ (asks 8 0 56 ∷ gives 48 0 48 ∷ audits 0 ∷ [])
    ++ link_gives 48 64 0 8
    ++ link_gives 48 64 48 8
    ++ pool_gives 0 freeblock 48 64 8
    ++ (pool= 0 freeblock 64 ∷ link= 64 48 ∷ link= 48 0 ∷ audits 0 ∷ [])

-- "with two at least on the chain if the pool is freed": the one block that was set ready is on it, or none
abbrev least_freed : List Line
least_freed =
    freed
    ++ (pool= 0 nextoffset 56 ∷ link= 48 0 ∷ audits 8 ∷ pool= 0 nextoffset 48 ∷ pool= 0 freeblock 0 ∷ audits 8 ∷ [])

-- "one unless it is full": a pool in use with none
abbrev least_in_use : List Line
least_in_use = one ++ (pool= 0 nextoffset 56 ∷ pool= 0 freeblock 0 ∷ audits 8 ∷ [])

-- ==== W-203: "the audit checks the order last". R51: never falling, so that an arena may have as many as the next
abbrev rising : List Line
rising =
    both
    ++ (word= usable_head 2 ∷ arena= 1 arena_next 1 ∷ arena= 1 arena_previous 0 ∷ [])
    ++ (arena= 0 arena_next 0 ∷ arena= 0 arena_previous 2 ∷ audits 0 ∷ [])

-- arena 1, with two free pools, stands before arena 0, which has one
abbrev falling : List Line
falling =
    opened
    ++ (word= usable_head 2 ∷ arena= 1 arena_next 1 ∷ arena= 0 arena_previous 2 ∷ audits 9 ∷ [])

-- ==== "the number, from 1, of the first broken rule". R45: the lowest number over the whole heap
abbrev first_broken : List Line
first_broken =
    opened
    ++ (word= usable_head 2 ∷ arena= 1 arena_next 1 ∷ arena= 0 arena_previous 2 ∷ audits 9 ∷ [])
    ++ (pool= 0 maxnextoffset 0 ∷ audits 8 ∷ pool= 3 count 1 ∷ audits 7 ∷ pool= 0 pool_next 1 ∷ audits 6 ∷ [])
    ++ (bit= 3 0 1 ∷ audits 5 ∷ arena= 1 free_pools 0 ∷ audits 4 ∷ arena= 0 open_word 0 ∷ audits 3 ∷ [])
    ++ (pool= 3 7 1 ∷ audits 2 ∷ word= 0 3 ∷ audits 1 ∷ [])

-- the verdicts are the rules, by their numbers
abbrev verdicts : List Line
verdicts =
    has (λ h. number_of Yes) 0 ∷ has (λ h. number_of Shape) 1 ∷ has (λ h. number_of Zeros) 2
    ∷ has (λ h. number_of Closed) 3 ∷ has (λ h. number_of Open) 4 ∷ has (λ h. number_of Bits) 5
    ∷ has (λ h. number_of Lists) 6 ∷ has (λ h. number_of Counts) 7 ∷ has (λ h. number_of Blocks) 8
    ∷ has (λ h. number_of Order) 9 ∷ []

-- ---- the rows, in three lists, because the prover computes a list at a time
abbrev pub by_words : List (List Line)
by_words =
    no_shape ∷ open_words ∷ last_words ∷ closed_words ∷ marks ∷ mark_zero ∷ free_ones ∷ free_other ∷ none_in_use
    ∷ stray_bit ∷ any_bit ∷ no_block ∷ []

abbrev pub by_lists : List (List Line)
by_lists =
    freed_list ∷ freed_carved ∷ freed_two ∷ freed_own ∷ usable_list ∷ usable_two ∷ unused_list ∷ past_the_last
    ∷ spent_links ∷ class_list ∷ class_two ∷ full_links ∷ []

abbrev pub by_blocks : List (List Line)
by_blocks =
    counts ∷ unset ∷ class_too_large ∷ last_class_freed ∷ unset_next ∷ offsets ∷ last_end ∷ virgin_live ∷ chain
    ∷ chain_two ∷ least_freed ∷ least_in_use ∷ rising ∷ falling ∷ first_broken ∷ verdicts ∷ []

-- the table holds of a fresh heap over these three buffers
abbrev InWords : List ℕ → List ℕ → List ℕ → Type 0
InWords m b k = T (every by_words (fresh 2 2 0 m b k))

abbrev InLists : List ℕ → List ℕ → List ℕ → Type 0
InLists m b k = T (every by_lists (fresh 2 2 0 m b k))

abbrev InBlocks : List ℕ → List ℕ → List ℕ → Type 0
InBlocks m b k = T (every by_blocks (fresh 2 2 0 m b k))

abbrev pub Hold : List ℕ → List ℕ → List ℕ → Type 0
Hold m b k = InWords m b k × InLists m b k × InBlocks m b k

-- every row, whatever memory, books and map of the right lengths held before format
pub audits_hold : (m b k : List ℕ)
    → length m ≡ memory_length 2 2 → length b ≡ books_length 2 2 → length k ≡ map_length 2 2
    → Hold m b k
unfolding every
audits_hold =
    each_three Hold (memory_length 2 2) (books_length 2 2) (map_length 2 2)
    (λ f g k. (tt, tt, tt))
