-- 02, W-212: two heaps side by side. What each offset is in the two, the list of those that differ, the change in live
-- blocks of each class, and the call: its tests, and then list and changes.
-- Assumes nothing.
use Rattle.std.specs.Prelude.{
  Bool,
  not,
  ◌&&◌,
  List,
  [],
  ◌∷◌,
  ◌++◌,
  ℕ,
  zero,
  suc,
  ◌+◌,
  ◌*◌,
  ◌-◌,
  ◌/◌,
  leb,
  eqb,
  ℤ,
  pos,
  neg_ℤ,
  length,
  drop,
  if◌then◌else◌,
}
use Rattle.rules.specs.declared.Compared.{Compared}
use Rattle.rules.specs.Say.{all_below, how_many, total, listing}
use Rattle.rules.specs.Books.{
  Heap,
  at,
  memory_length,
  is_set,
  arenas,
  pools,
  edition,
  alignment,
  class,
  pool,
}
use Rattle.rules.specs.Blocks.{size_of, last_class, capacity, live}
use Rattle.rules.specs.Outcome.{passing}
use Rattle.rules.specs.Numbers.{shape_number, room_number, ◌before◌, block_size}

-- ---- "each offset that is live in just one, or live in both with another block size or other bytes"
abbrev pub is_live : Heap → ℕ → Bool
is_live h o = live (alignment h) (arenas h) (pools h) h.books h.map o

-- the n bytes from offset o on are the same in both memories
abbrev pub same_bytes : List ℕ → List ℕ → ℕ → ℕ → Bool
same_bytes m m' o n = all_below (λ i. eqb (at m (o + i)) (at m' (o + i))) n

-- "with which of these it is": 1 live in the first alone, 2 in the second alone, 3 another size, 4 other bytes, of the
-- whole block, "(size before bytes)"; 0 where the two do not differ
abbrev pub change_at : Heap → Heap → ℕ → ℕ
change_at first second o =
    if not (eqb (block_size first o) (block_size second o)) then 3
    else if not (same_bytes first.memory second.memory o (block_size first o)) then 4
    else 0

unfoldable pub kind_at : Heap → Heap → ℕ → ℕ
kind_at first second o =
    if is_live first o
    then (if is_live second o then change_at first second o else 1)
    else (if is_live second o then 2 else 0)

-- "list each offset .. each once, by rising offset, with which of these it is": of all the offsets of memory
abbrev pub differences : Heap → Heap → List ℕ
differences first second = listing (kind_at first second) 0 (memory_length (arenas first) (pools first))

-- ---- "for each class, the signed change in live blocks, second heap less first"
-- how many blocks of pool p are live, where its class is c, and none where it is not: of the class's blocks those whose
-- bits are set, as in the live test; how many of that class are, in all pools
unfoldable pub live_in_pool : Heap → ℕ → ℕ → ℕ
live_in_pool h c p =
    if eqb (pool (arenas h) h.books class p) c
    then how_many (is_set h.map p) (capacity (size_of (alignment h) c))
    else 0

abbrev pub live_of_class : Heap → ℕ → ℕ
live_of_class h c = total (live_in_pool h c) (arenas h * pools h)

-- the change from m to n: 0 where they are equal, above 0 by as much as n is more, below 0 by as much as m is more
unfoldable pub change_from : ℕ → ℕ → ℤ
change_from m n = if leb m n then pos (n - m) else neg_ℤ (pos (m - n))

abbrev pub change_of : Heap → Heap → ℕ → ℤ
change_of first second c = change_from (live_of_class first c) (live_of_class second c)

-- how many classes the heap's edition has: 64, or 32 in edition sixteen
abbrev pub classes : Heap → ℕ
classes h = last_class (alignment h) + 1

-- of the n classes from class c on
unfoldable pub changes_from : Heap → Heap → ℕ → ℕ → List ℤ
changes_from first second c zero = []
changes_from first second c (suc n) = change_of first second c ∷ changes_from first second (suc c) n

abbrev pub changes : Heap → Heap → List ℤ
changes first second = changes_from first second 0 (classes first)

-- ---- the call
-- "two heaps of equal A, P and edition"; "Unequal shape is a new 12"
unfoldable pub unequal_number : Heap → Heap → ℕ
unequal_number first second =
    if eqb (arenas first) (arenas second)
    && eqb (pools first) (pools second)
    && eqb (edition first) (edition second)
    then 0 else 12

-- what it answers, and the lent list and changes as it leaves them
pub record CompareOutcome : Type 0 where
  pub answer : Compared
  pub listed : List ℕ
  pub changed : List ℤ

abbrev pub compared_of : ℕ → ℕ → Compared
compared_of k n = record { number = k; entries = n }

abbrev pub compare_outcome : ℕ → ℕ → List ℕ → List ℤ → CompareOutcome
compare_outcome k n listed changed = record { answer = compared_of k n; listed = listed; changed = changed }

-- "tested after 1 and 2 for the first heap, then the second; a list or changes that don't fit are 7"
abbrev pub compare_tests : Heap → Heap → ℕ → ℕ → ℕ
compare_tests first second room places =
    shape_number first
    before shape_number second
    before unequal_number first second
    before room_number (length (differences first second)) room
    before room_number (classes first) places

-- "Either way nothing is written"; what is past the entries, and past the changes, stays
unfoldable pub compare : Heap → Heap → List ℕ → List ℤ → CompareOutcome
compare first second list lent =
    passing (compare_tests first second (length list) (length lent)) (λ k. compare_outcome k 0 list lent)
    (compare_outcome 0 (length (differences first second) / 2)
    (differences first second ++ drop (length (differences first second)) list)
    (changes first second ++ drop (classes first) lent))
