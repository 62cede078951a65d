-- 02, W-212, two heaps side by side: for each clause heaps that show it, in the order of 02's sentences; with readings
-- R53 to R64 of docs/DECISIONS.md. One table under one statement.
-- Assumes nothing.
use Rattle.std.specs.Prelude.{◌≡◌, List, [], ◌∷◌, ◌++◌, ℕ, ◌/◌, T, ℤ, pos, neg_ℤ, length, set, replicate}
use Rattle.rules.specs.Say.{◌▷◌}
use Rattle.rules.specs.Books.{
  Heap,
  memory_length,
  books_length,
  map_length,
  put,
  on_memory,
  on_map,
  put_word,
  no_class,
}
use Rattle.rules.specs.Numbers.{ask, give_back}
use Rattle.rules.specs.Lines.{
  over,
  Line,
  asks,
  writes,
  compares,
  spoil,
  holding,
  every,
  fresh,
  shaped,
  words,
  room,
}
use Rattle.rules.specs.Whole.{tab, each_three}

-- One arena of two pools, edition eight, unless said: pool n starts at 4,096n. What a row has done to its heap by the
-- time of a comparison both heaps have; what is done to one of them alone stands in the comparison.

-- ---- what is done to a heap: nothing; an ask, a give-back; byte o of memory becomes v
abbrev itself : Heap → Heap
itself h = h

abbrev asked : ℕ → Heap → Heap
asked n h = (ask h n).heap

abbrev given : ℕ → Heap → Heap
given o h = (give_back h o).heap

abbrev byte= : ℕ → ℕ → Heap → Heap
byte= o v = on_memory (put o v)

-- the map has a word too many
abbrev long_map : Heap → Heap
long_map = on_map (λ m. 0 ∷ m)

-- ---- changes of 0; class c has n blocks more in the second heap, n fewer
abbrev none : List ℤ
none = replicate 64 (pos 0)

abbrev more : ℕ → ℕ → List ℤ → List ℤ
more c n d = set d c (pos n)

abbrev fewer : ℕ → ℕ → List ℤ → List ℤ
fewer c n d = set d c (neg_ℤ (pos n))

-- ---- with room that is just enough the comparison is done, with list v and changes d; it is refused with k, and no
-- word of list and changes is written
abbrev finds : (Heap → Heap) → (Heap → Heap) → List ℕ → List ℤ → Line
finds f g v d = compares f g (over (words (length v)) (room 64) 0 (length v / 2) v d ∷ [])

abbrev refuses : (Heap → Heap) → (Heap → Heap) → ℕ → Line
refuses f g k = compares f g (over (words 2) (room 64) k 0 (words 2) (room 64) ∷ [])

-- ==== "list each offset that is live in just one": 1 in the first alone, 2 in the second alone
abbrev live_in_one : List Line
live_in_one =
    asks 8 0 48
    ∷ finds itself (λ h. h ▷ asked 8 ▷ asked 8 ▷ given 48) (48 ∷ 1 ∷ 56 ∷ 2 ∷ 64 ∷ 2 ∷ []) (none ▷ more 0 1) ∷ []

-- ==== "or live in both with another block size": 3, be it larger or smaller. In pool 0 the one has blocks of 16 bytes,
-- at 48, 64, 80 and 96, and the other of 24, at 48, 72 and 96. "(size before bytes)": in pool 1 both are other
abbrev another_size : List Line
another_size =
    finds (λ h. h ▷ holding 0 1 (0 ∷ 1 ∷ 3 ∷ []) ▷ holding 1 2 (0 ∷ []) ▷ byte= 4144 7)
    (λ h. h ▷ holding 0 2 (0 ∷ 1 ∷ 2 ∷ []) ▷ holding 1 0 (0 ∷ []) ▷ byte= 4144 8)
    (48 ∷ 3 ∷ 64 ∷ 1 ∷ 72 ∷ 2 ∷ 96 ∷ 3 ∷ 4144 ∷ 3 ∷ []) (none ▷ more 0 1 ▷ fewer 1 3 ▷ more 2 2) ∷ []

-- ==== "or other bytes": 4. Of three blocks of 24 bytes the first has another first byte and the second another last
-- byte; the third is the same in both, and not listed, though the byte after it is another, as that before the first
abbrev other_bytes : List Line
other_bytes =
    asks 24 0 48 ∷ writes 48 (replicate 24 7) 0 48 ∷ asks 24 0 72 ∷ writes 72 (replicate 24 7) 0 72
    ∷ asks 24 0 96 ∷ writes 96 (replicate 24 7) 0 96 ∷ spoil (byte= 47 7)
    ∷ finds itself (λ h. h ▷ byte= 47 8 ▷ byte= 48 8 ▷ byte= 95 6 ▷ byte= 120 8) (48 ∷ 4 ∷ 72 ∷ 4 ∷ []) none ∷ []

-- ==== "each once, by rising offset, with which of these it is": of two arenas of two pools, over the words of the map,
-- blocks 0, 63, 64 and 505 of 8 bytes, and over the pools; the last block ends with memory.
-- Live is 01's live test, on any books: bits 506 and 511 of a pool of blocks of 8, and bit 7 of one of 512, are at no
-- block, classes 64 and 65,535 have none, and that pools are not carved and arenas closed is nothing to it.
-- "for each class, the signed change in live blocks, second heap less first": of all pools of the class together, 0 in
-- class 0, where as many are live, though others. They are counted by the map: the books' counts are all 0 here
abbrev across_pools : List Line
across_pools =
    spoil (shaped 2 2 0)
    ∷ finds
    (λ h. h ▷ holding 0 0 (64 ∷ []) ▷ holding 1 no_class (0 ∷ [])
    ▷ holding 2 63 (6 ∷ 7 ∷ []) ▷ holding 3 0 (0 ∷ 1 ∷ 63 ∷ []))
    (λ h. h ▷ holding 0 0 (0 ∷ 63 ∷ 505 ∷ 506 ∷ 511 ∷ []) ▷ holding 1 63 (0 ∷ 1 ∷ [])
    ▷ holding 2 64 (6 ∷ []) ▷ holding 3 0 (505 ∷ []))
    (48 ∷ 2 ∷ 552 ∷ 2 ∷ 560 ∷ 1 ∷ 4088 ∷ 2 ∷ 4144 ∷ 2 ∷ 4656 ∷ 2 ∷ 11312 ∷ 1
    ∷ 12336 ∷ 1 ∷ 12344 ∷ 1 ∷ 12840 ∷ 1 ∷ 16376 ∷ 2 ∷ []) (none ▷ more 63 1) ∷ []

-- ==== "two heaps of equal A, P and edition", "Unequal shape is a new 12": A, P and the edition, each alone
abbrev unequal_shape : List Line
unequal_shape =
    refuses itself (shaped 2 2 0) 12 ∷ refuses (shaped 2 2 0) itself 12
    ∷ refuses itself (shaped 1 3 0) 12 ∷ refuses (shaped 1 3 0) itself 12
    ∷ refuses itself (shaped 1 2 1) 12 ∷ refuses (shaped 1 2 1) itself 12 ∷ []

-- A and P exchanged: both heaps have six pools
abbrev exchanged_shape : List Line
exchanged_shape = refuses (shaped 2 3 0) (shaped 3 2 0) 12 ∷ []

-- ==== "tested after 1 and 2 for the first heap, then the second"
abbrev first_then_second : List Line
first_then_second =
    refuses (put_word 0 17) itself 1 ∷ refuses long_map itself 2
    ∷ refuses itself (put_word 1 65) 1 ∷ refuses itself long_map 2
    ∷ refuses (put_word 68 2) long_map 1 ∷ refuses long_map (put_word 68 2) 2 ∷ []

-- 12 comes after these, where the shapes are unequal too
abbrev shapes_before_twelve : List Line
shapes_before_twelve =
    refuses (put_word 0 17) (shaped 1 3 0) 1 ∷ refuses long_map (shaped 1 3 0) 2
    ∷ refuses (shaped 1 3 0) (put_word 1 65) 1 ∷ refuses (shaped 1 3 0) long_map 2 ∷ []

-- and all of them before 7, of the list and of the changes
abbrev before_seven : List Line
before_seven =
    compares (asked 8) (shaped 1 3 0)
    (over (words 1) (room 64) 12 0 (words 1) (room 64) ∷ over (words 2) (room 63) 12 0 (words 2) (room 63) ∷ [])
    ∷ compares long_map itself (over [] [] 2 0 [] [] ∷ [])
    ∷ compares itself (put_word 68 2) (over [] [] 1 0 [] [] ∷ []) ∷ []

-- ==== "a list or changes that don't fit are 7". "Either way nothing is written"
-- two words for each entry and 64 changes are enough; one word or one change less is 7; what is past them stays. In
-- `live_in_one` the same blocks are live in the heaps, which are exchanged here
abbrev just_fits : List Line
just_fits =
    compares (holding 0 0 (1 ∷ 2 ∷ [])) (holding 0 0 (0 ∷ []))
    (over (words 6) (room 64) 0 3 (48 ∷ 2 ∷ 56 ∷ 1 ∷ 64 ∷ 1 ∷ []) (none ▷ fewer 0 1)
    ∷ over (words 5) (room 64) 7 0 (words 5) (room 64)
    ∷ over (words 6) (room 63) 7 0 (words 6) (room 63)
    ∷ over (words 9) (room 66) 0 3 (48 ∷ 2 ∷ 56 ∷ 1 ∷ 64 ∷ 1 ∷ words 3) ((none ▷ fewer 0 1) ++ room 2) ∷ []) ∷ []

-- where nothing differs no word of a list is needed, but all changes are
abbrev nothing_differs : List Line
nothing_differs =
    compares itself itself
    (over [] (room 64) 0 0 [] none
    ∷ over (words 1) (room 64) 0 0 (words 1) none
    ∷ over [] (room 63) 7 0 [] (room 63) ∷ []) ∷ []

-- ---- the rows, in two lists, because the prover computes a list at a time
abbrev pub by_lists : List (List Line)
by_lists =
    live_in_one ∷ another_size ∷ other_bytes ∷ across_pools ∷ []

abbrev pub by_tests : List (List Line)
by_tests =
    unequal_shape ∷ exchanged_shape ∷ first_then_second ∷ shapes_before_twelve ∷ before_seven ∷ just_fits
    ∷ nothing_differs ∷ []

-- the table holds of a fresh heap over these three buffers
abbrev InLists : List ℕ → List ℕ → List ℕ → Type 0
InLists m b k = T (every by_lists (fresh 1 2 0 m b k))

abbrev InTests : List ℕ → List ℕ → List ℕ → Type 0
InTests m b k = T (every by_tests (fresh 1 2 0 m b k))

abbrev pub Hold : List ℕ → List ℕ → List ℕ → Type 0
Hold m b k = InLists m b k × InTests m b k

-- every row, whatever memory, books and map of the right lengths held before format
pub compares_hold : (m b k : List ℕ)
    → length m ≡ memory_length 1 2 → length b ≡ books_length 1 2 → length k ≡ map_length 1 2
    → Hold m b k
unfolding every
compares_hold =
    each_three Hold (memory_length 1 2) (books_length 1 2) (map_length 1 2)
    (λ f g k. (tt, tt))
