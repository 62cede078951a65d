-- 02, W-211, the sixteen-byte edition: its own cases, those of 01 moved to sixteen by 01's rules, one table under one
-- statement.
-- Assumes nothing.
use Rattle.std.specs.Prelude.{◌≡◌, List, [], ◌∷◌, ◌++◌, ℕ, zero, suc, ◌+◌, T, ℤ, pos, negsuc, length, replicate}
use Rattle.rules.specs.Say.{◌▷◌}
use Rattle.rules.specs.Books.{
  Heap,
  memory_length,
  books_length,
  map_length,
  on_memory,
  on_map,
  put_map_bit,
  put_word,
  pool_word,
  count,
  freeblock,
  class,
  nextoffset,
  maxnextoffset,
}
use Rattle.rules.specs.Blocks.{put_link}
use Rattle.rules.specs.Batch.{request}
use Rattle.rules.specs.Lines.{
  over,
  Line,
  asks,
  asks_all,
  gives,
  resizes,
  writes,
  views,
  rolls,
  audits,
  compares,
  has,
  spoil,
  word,
  holding,
  every,
  fresh,
  shaped,
  words,
  room,
}
use Rattle.rules.specs.Whole.{tab, each_three}

-- a word of pool 0's record, in books of one arena
abbrev pool0 : ℕ → ℕ
pool0 w = pool_word 1 w 0

-- n asks for 16 bytes that get the blocks from o on, one after the other
abbrev sixteens : ℕ → ℕ → List Line
sixteens zero o = []
sixteens (suc n) o = asks 16 0 o ∷ sixteens n (o + 16)

-- the two heaps of S18: bit 253 of blocks of 16 is at none, and class 32 has none
abbrev one_side : Heap → Heap
one_side h = h ▷ holding 0 0 (0 ∷ []) ▷ holding 1 31 (0 ∷ 6 ∷ [])

abbrev other_side : Heap → Heap
other_side h = h ▷ holding 0 0 (1 ∷ 252 ∷ 253 ∷ []) ▷ holding 1 32 (0 ∷ [])

-- how they differ; in class 0 there is one block more, in class 31 there are two fewer
abbrev listed : List ℕ
listed = 48 ∷ 1 ∷ 64 ∷ 2 ∷ 4080 ∷ 2 ∷ 4144 ∷ 1 ∷ 7216 ∷ 1 ∷ []

abbrev changed : List ℤ
changed = pos 1 ∷ (replicate 30 (pos 0) ++ (negsuc 1 ∷ []))

-- one arena, P = 16, edition sixteen
abbrev pub cases : List (List Line)
cases =
    -- S1: K1 at sixteen, "first block still at 48"
    (has (word 68) 1 ∷ asks 1 0 48 ∷ has (word (pool0 freeblock)) 64 ∷ has (word (pool0 nextoffset)) 80
    ∷ has (word (pool0 maxnextoffset)) 4080 ∷ [])
    -- S2: K2
    ∷ (asks 1 0 48 ∷ asks 16 0 64 ∷ has (word (pool0 freeblock)) 80 ∷ has (word (pool0 nextoffset)) 96 ∷ [])
    -- S3: K3
    ∷ (asks 1 0 48 ∷ asks 1 0 64 ∷ gives 48 0 48 ∷ asks 16 0 48 ∷ [])
    -- S4: K4, "class (n − 1) div 16": 16 and 17 lie in two pools, 17 and 32 in one
    ∷ (asks 16 0 48 ∷ asks 17 0 4144 ∷ asks 32 0 4176 ∷ [])
    -- S5: K5
    ∷ (asks 1 0 48 ∷ asks 1 0 64 ∷ asks 17 0 4144 ∷ gives 48 0 48 ∷ gives 64 0 64 ∷ asks 16 0 64 ∷ [])
    -- S6: K6
    ∷ (asks 1 0 48 ∷ asks 17 0 4144 ∷ gives 48 0 48 ∷ asks 33 0 48 ∷ [])
    -- S7: K7, and "32 classes": the last is 31, its head word 35; "heads 36 to 67 stay 0"
    ∷ (asks 0 3 0 ∷ asks 513 3 0 ∷ asks 512 0 48 ∷ has (word (pool0 maxnextoffset)) 3584
    ∷ has (word (pool0 class)) 31 ∷ has (word 35) 1 ∷ has (word 36) 0 ∷ has (word 67) 0 ∷ [])
    -- S8: K8; the block of 100 has 112 bytes, and 4 × 84 is not above 3 × 112
    ∷ (asks 100 0 48 ∷ resizes 48 85 0 48 ∷ resizes 48 84 0 4144 ∷ [])
    -- S9: K9
    ∷ (asks 16 0 48 ∷ resizes 48 12 0 64 ∷ resizes 64 13 0 64 ∷ [])
    -- S10: K10; 56 is a block start at eight alone
    ∷ (asks 1 0 48 ∷ gives 56 5 0 ∷ gives 0 5 0 ∷ gives 65536 5 0 ∷ gives 48 0 48 ∷ gives 48 5 0 ∷ [])
    -- S11: "253 blocks of 16 in a pool"; the next one lies in another pool
    ∷ (sixteens 253 48 ++ (asks 16 0 4144 ∷ has (word (pool0 count)) 253 ∷ has (word (pool0 freeblock)) 0 ∷ []))
    -- S12: by the map, block 252 is in the roll, 253 is not
    ∷ (asks 16 0 48 ∷ spoil (on_map (put_map_bit 0 252 1)) ∷ spoil (on_map (put_map_bit 0 253 1))
    ∷ rolls (0 ∷ 0 ∷ 0 ∷ 0 ∷ []) 0 2 (48 ∷ 16 ∷ 4080 ∷ 16 ∷ []) ∷ gives 4096 5 0 ∷ [])
    -- S13: "block size 16 × (class + 1)", by roll call, write and view
    ∷ (asks 16 0 48 ∷ asks 17 0 4144 ∷ asks 512 0 8240
    ∷ rolls (0 ∷ 0 ∷ 0 ∷ 0 ∷ 0 ∷ 0 ∷ []) 0 3
    (48 ∷ 16 ∷ 4144 ∷ 32 ∷ 8240 ∷ 512 ∷ []) ∷ writes 48 (replicate 17 7) 7 0
    ∷ writes 48 (replicate 16 7) 0 48 ∷ views 48 0 16 (replicate 16 7) ∷ [])
    -- S14: "Wherever 01 or a request says 63 it reads 31 here", in the live test, the roll, a dead block
    ∷ (asks 512 0 48 ∷ spoil (put_word (pool0 class) 32) ∷ gives 48 5 0 ∷ gives 560 5 0 ∷ rolls [] 0 0 []
    ∷ spoil (put_word (pool0 class) 31) ∷ gives 560 10 0
    ∷ rolls (0 ∷ 0 ∷ []) 0 1 (48 ∷ 512 ∷ []) ∷ gives 48 0 48 ∷ [])
    -- S15: 505 and 506 stay
    ∷ (asks 16 0 48 ∷ asks 16 0 64 ∷ asks 16 0 80 ∷ spoil (put_word (pool0 count) 400) ∷ asks 16 0 96
    ∷ spoil (put_word (pool0 count) 505) ∷ asks 16 0 112 ∷ asks 16 6 0 ∷ gives 48 0 48
    ∷ spoil (put_word (pool0 count) 507) ∷ gives 64 6 0 ∷ [])
    -- S16: the audit, by 253 blocks of 16, 32 classes, and heads 36 to 67 of lists that have no members
    ∷ (asks 16 0 48 ∷ audits 0
    ∷ spoil (on_map (put_map_bit 0 253 1)) ∷ audits 5 ∷ spoil (on_map (put_map_bit 0 253 0))
    ∷ spoil (on_map (put_map_bit 0 252 1)) ∷ audits 7 ∷ spoil (on_map (put_map_bit 0 252 0))
    ∷ spoil (put_word 36 1) ∷ audits 6 ∷ spoil (put_word 36 0) ∷ spoil (put_word 67 1) ∷ audits 6 ∷ [])
    -- S17: class 32 has no blocks, in a pool in use, and in a freed one whose blocks of 528 bytes are in order
    ∷ (asks 512 0 48 ∷ audits 0 ∷ spoil (put_word (pool0 class) 32) ∷ audits 5
    ∷ spoil (put_word (pool0 class) 31) ∷ asks 16 0 4144 ∷ gives 48 0 48 ∷ audits 0
    ∷ spoil (put_word (pool0 class) 32) ∷ spoil (put_word (pool0 maxnextoffset) 3568)
    ∷ spoil (put_word (pool0 nextoffset) 1104) ∷ spoil (on_memory (put_link 48 576))
    ∷ spoil (on_memory (put_link 576 0)) ∷ audits 8 ∷ [])
    -- S18: W-212: 32 changes are enough, 31 are 7, and one past 32 stays; starts at multiples of 16; the last class 31
    ∷ (spoil (shaped 1 2 1) ∷ compares one_side other_side
    (over (words 10) (room 32) 0 5 listed changed ∷ over (words 10) (room 31) 7 0 (words 10) (room 31)
    ∷ over (words 10) (room 33) 0 5 listed (changed ++ room 1) ∷ []) ∷ [])
    -- S19: W-204: a batch, by the edition that the books hold
    ∷ (asks_all (request 1 7 9 ∷ request 17 7 9 ∷ request 513 7 9 ∷ request 16 7 9 ∷ []) 0
    (request 1 0 48 ∷ request 17 0 4144 ∷ request 513 3 0 ∷ request 16 0 64 ∷ []) ∷ asks 9 0 80 ∷ [])
    ∷ []

-- the table holds of a fresh heap over these three buffers
abbrev pub Holds : List ℕ → List ℕ → List ℕ → Type 0
Holds m b k = T (every cases (fresh 1 16 1 m b k))

-- every case, whatever memory, books and map of the right lengths held before format
pub sixteen_holds : (m b k : List ℕ)
    → length m ≡ memory_length 1 16 → length b ≡ books_length 1 16 → length k ≡ map_length 1 16
    → Holds m b k
unfolding every
sixteen_holds =
    each_three Holds (memory_length 1 16) (books_length 1 16) (map_length 1 16) (λ f g k. tt)
