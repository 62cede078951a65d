-- 01, "Numbers a call can return": the tests, with that of 02's edition (W-211), their order, and the calls: tests
-- first, then the step. Beside view stands 02's stand-in (W-214).
-- Assumes nothing.
use Rattle.std.specs.Prelude.{◌&&◌, List, [], ◌++◌, ℕ, ◌+◌, ◌/◌, leb, ltb, length, drop, replicate, if◌then◌else◌}
use Rattle.rules.specs.declared.Sized.{Sized}
use Rattle.rules.specs.declared.Rolled.{Rolled}
use Rattle.rules.specs.Say.{◌▷◌}
use Rattle.rules.specs.Books.{
  Heap,
  in_range,
  exact,
  map_length,
  arenas,
  pools,
  edition_word,
  edition,
  is_edition,
  alignment,
}
use Rattle.rules.specs.Blocks.{largest, size_at, live_number}
use Rattle.rules.specs.Outcome.{Outcome, heap_of, done, refused, passing}
use Rattle.rules.specs.Format.{fresh_books}
use Rattle.rules.specs.Ask.{ask_step}
use Rattle.rules.specs.GiveBack.{back_step}
use Rattle.rules.specs.Resize.{resize_step}
use Rattle.rules.specs.View.{part, copy_text, roll}

-- ---- the tests, each a number of 01 or 0
-- 1: "A or P out of range"; 02, W-211: "another value is 1", of an edition
unfoldable pub range_number : ℕ → ℕ → ℕ
range_number A P = if in_range A P then 0 else 1

unfoldable pub edition_number : ℕ → ℕ
edition_number e = if is_edition e then 0 else 1

-- 2: a lent length is not exact; the books do not reach word i
unfoldable pub length_number : Heap → ℕ → ℕ → ℕ
length_number h A P = if exact A P h then 0 else 2

unfoldable pub reach_number : Heap → ℕ → ℕ
reach_number h i = if ltb i (length h.books) then 0 else 2

-- 3: "size 0 or above 512"
unfoldable pub size_number : ℕ → ℕ
size_number n = if leb 1 n && leb n largest then 0 else 3

-- 7: fewer places than are wanted
unfoldable pub room_number : ℕ → ℕ → ℕ
room_number wanted room = if ltb room wanted then 7 else 0

-- ---- "Order: books under two words is 2; then 1, 2, 3, 5, 7, and then the step": the first number that is not 0
infixr 12 ◌before◌
abbrev pub ◌before◌ : ℕ → ℕ → ℕ
j before k = passing j (λ number. number) k

-- 1 and 2, for given A, P and edition: "Format tests its given A and P, then the lengths"; W-211: another edition "is
-- 1 there too"
unfoldable pub fit_number : Heap → ℕ → ℕ → ℕ → ℕ
fit_number h A P e = range_number A P before edition_number e before length_number h A P

-- "books under two words is 2; then 1, 2", by the books' own A and P; W-211: another edition "is 1 after A and P are
-- tested, or 2 if the books don't reach it"
unfoldable pub shape_number : Heap → ℕ
shape_number h =
    reach_number h 1
    before range_number (arenas h) (pools h)
    before reach_number h edition_word
    before edition_number (edition h)
    before length_number h (arenas h) (pools h)

-- the tests of a call; 02, W-206: 10 is "in the same place" as 5
abbrev pub in_order : ℕ → ℕ → ℕ → ℕ → ℕ
in_order shape size offset room = shape before size before offset before room

-- ---- the calls; 0 stands for a test that a call does not have
-- Format "writes all books and map and no memory"; W-211: it is "told the edition"
unfoldable pub format : Heap → ℕ → ℕ → ℕ → Outcome
format h A P e =
    passing (fit_number h A P e) (λ k. refused k h)
    (done 0 (heap_of h.memory (fresh_books A P e) (replicate (map_length A P) 0)))

-- roll call's answer, and the lent words as it leaves them
pub record RollOutcome : Type 0 where
  pub answer : Rolled
  pub words : List ℕ

abbrev pub rolled_of : ℕ → ℕ → Rolled
rolled_of k n = record { number = k; count = n }

abbrev pub roll_outcome : ℕ → ℕ → List ℕ → RollOutcome
roll_outcome k n words = record { answer = rolled_of k n; words = words }

abbrev pub sized_of : ℕ → ℕ → Sized
sized_of k s = record { number = k; size = s }

-- by the heap's own books and map: 5 or 10, of an offset; all tests of a call on an offset; the size of the block
-- there; the roll
abbrev pub offset_number : Heap → ℕ → ℕ
offset_number h o = live_number (alignment h) (arenas h) (pools h) h.books h.map o

abbrev pub offset_tests : Heap → ℕ → ℕ
offset_tests h o = in_order (shape_number h) 0 (offset_number h o) 0

abbrev pub block_size : Heap → ℕ → ℕ
block_size h o = size_at (alignment h) (arenas h) h.books o

abbrev pub roll_of : Heap → List ℕ
roll_of h = roll (alignment h) (arenas h) (pools h) h.books h.map

unfoldable pub ask : Heap → ℕ → Outcome
ask h n =
    passing (in_order (shape_number h) (size_number n) 0 0) (λ k. refused k h)
    (ask_step (alignment h) (arenas h) (pools h) h n)

unfoldable pub give_back : Heap → ℕ → Outcome
give_back h o =
    passing (offset_tests h o) (λ k. refused k h)
    (back_step (alignment h) (arenas h) (pools h) h o)

unfoldable pub resize : Heap → ℕ → ℕ → Outcome
resize h o n =
    passing (in_order (shape_number h) (size_number n) (offset_number h o) 0) (λ k. refused k h)
    (resize_step (alignment h) (arenas h) (pools h) h o n)

-- "a refusal hands back the empty part"
unfoldable pub view : Heap → ℕ → List ℕ
view h o =
    passing (offset_tests h o) (λ k. [])
    (part o (block_size h o) h.memory)

-- and where that part begins in memory; the empty part stands at memory's start
abbrev pub view_at : Heap → ℕ → ℕ
view_at h o = passing (offset_tests h o) (λ k. 0) o

-- "a companion call gives its number and, when done, the block size, otherwise 0"
unfoldable pub view_size : Heap → ℕ → Sized
view_size h o =
    passing (offset_tests h o) (λ k. sized_of k 0)
    (sized_of 0 (block_size h o))

-- 02, W-214: "either the live block's own bytes or the lent phrase itself, and the phrase exactly when view would
-- refuse", that is where the number which view's companion gives is not 0
unfoldable pub stand_in : Heap → ℕ → List ℕ → List ℕ
stand_in h o phrase =
    passing (view_size h o).number (λ k. phrase)
    (view h o)

-- and where it lies, "the block's own" or "the phrase itself": memory and lent are where memory and the phrase lie.
-- A place is a buffer and a position in it
abbrev pub stand_in_at : Heap → ℕ → ℕ × ℕ → ℕ × ℕ → ℕ × ℕ
stand_in_at h o memory lent =
    passing (view_size h o).number (λ k. lent)
    (memory.0, o + memory.1)

-- 7: "text longer than its block"
unfoldable pub write : Heap → ℕ → List ℕ → Outcome
write h o text =
    passing (in_order (shape_number h) 0 (offset_number h o) (room_number (length text) (block_size h o)))
    (λ k. refused k h)
    (done o (h ▷ copy_text o text))

-- 7: "fewer than two roll words for each live block". It "leaves the words after them, and returns how many"
unfoldable pub roll_call : Heap → List ℕ → RollOutcome
roll_call h words =
    passing (in_order (shape_number h) 0 0 (room_number (length (roll_of h)) (length words)))
    (λ k. roll_outcome k 0 words)
    (roll_outcome 0 (length (roll_of h) / 2) (roll_of h ++ drop (length (roll_of h)) words))
