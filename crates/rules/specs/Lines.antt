-- A case as a row of lines, and what it is that a row holds of a heap.
-- Assumes nothing.
use Rattle.std.specs.Prelude.{Bool, true, false, ◌&&◌, List, [], ◌∷◌, ℕ, ◌%◌, eqb, ℤ, pos, negsuc, replicate}
use Rattle.rules.specs.declared.Answer.{Answer}
use Rattle.rules.specs.declared.Request.{Request}
use Rattle.rules.specs.declared.Sized.{Sized}
use Rattle.rules.specs.declared.Rolled.{Rolled}
use Rattle.rules.specs.Say.{all_below, how_many, total, listing}
use Rattle.rules.specs.Books.{
  Heap,
  at,
  in_range,
  memory_length,
  books_length,
  map_length,
  exact,
  alignment_of,
  on_map,
  bit,
  put_bit,
  put_map_bit,
  map_word,
  arenas,
  class,
  pool_word,
  put_word,
  carved,
}
use Rattle.rules.specs.Blocks.{is_start, link_at, put_link, live, is_block, live_number}
use Rattle.rules.specs.Lists.{leave_by, join_by}
use Rattle.rules.specs.Outcome.{heap_of}
use Rattle.rules.specs.Format.{fresh_books}
use Rattle.rules.specs.Ask.{
  no_link,
  from_freeblock,
  from_listed,
  set_anew,
  same_class,
  take_again,
  from_mark,
  from_freed,
  from_usable,
  from_unused,
  plan_ask,
  take_from,
  after_ask,
  ask_answer,
  ask_step,
}
use Rattle.rules.specs.GiveBack.{walk, emptying, plan_back, after_back, back_answer, back_step}
use Rattle.rules.specs.Resize.{give_old, moved, resize_step}
use Rattle.rules.specs.View.{roll_blocks, roll_pool, roll_pools}
use Rattle.rules.specs.Numbers.{
  range_number,
  edition_number,
  length_number,
  reach_number,
  fit_number,
  shape_number,
  size_number,
  room_number,
  format,
  ask,
  give_back,
  resize,
  view,
  view_size,
  stand_in,
  stand_in_at,
  write,
  roll_call,
}
use Rattle.rules.specs.Batch.{one_by_one, ask_all, requests_in, in_words, ask_rows}
use Rattle.rules.specs.Audit.{
  in_use,
  blocks_of,
  has_spare,
  bits_below,
  rule1,
  arena_keeps2,
  rule2,
  arena_keeps3,
  arena_keeps4,
  pool_keeps5,
  leads,
  meets,
  pool_keeps6,
  arena_keeps6,
  rule6,
  all_else_zero,
  is_dead,
  chained,
  is_divided,
  pool_keeps8,
  arena_keeps9,
  audit_by,
  audit,
  number_of,
}
use Rattle.rules.specs.Compare.{
  kind_at,
  live_in_pool,
  change_from,
  changes_from,
  unequal_number,
  CompareOutcome,
  compare,
}

-- a comparison of two heaps over the lent list w and changes c: it gives number k and n entries, and leaves v and d.
-- Those of the same two heaps stand together, because the prover then computes once what differs
pub data Comparison : Type 0 where
  over : List ℕ → List ℤ → ℕ → ℕ → List ℕ → List ℤ → Comparison  -- w c k n v d

-- a line of a case: a call with its answer, a look, or damage that is done
pub data Line : Type 0 where
  formats : ℕ → ℕ → ℕ → ℕ → Line  -- A P e k: format gives number k, and offset 0
  asks : ℕ → ℕ → ℕ → Line  -- n k o: ask n gives number k and offset o
  asks_all : List Request → ℕ → List Request → Line  -- row k v: a batch over row gives k, and leaves v
  asks_rows : List ℕ → ℕ → List ℕ → Line  -- w k v: a batch over the words w gives k, and leaves v
  gives : ℕ → ℕ → ℕ → Line  -- o k r: give back o gives number k and offset r
  resizes : ℕ → ℕ → ℕ → ℕ → Line  -- o n k r: resize o to n gives number k and offset r
  writes : ℕ → List ℕ → ℕ → ℕ → Line  -- o t k r: write of the text t at o gives number k and offset r
  views : ℕ → ℕ → ℕ → List ℕ → Line  -- o k s bytes: view's companion gives k and size s, view the bytes
  stands_in : ℕ → List ℕ → List ℕ → ℕ → ℕ → Line  -- o t bytes b i: t's stand-in is the bytes at (b, i)
  rolls : List ℕ → ℕ → ℕ → List ℕ → Line  -- w k n v: roll call over w gives k and count n, and leaves v
  audits : ℕ → Line  -- k: the audit gives k
  compares : (Heap → Heap) → (Heap → Heap) → List Comparison → Line  -- f g cs: of f's heap and g's, each of cs
  has : (Heap → ℕ) → ℕ → Line  -- a number of the heap is as said
  spoil : (Heap → Heap) → Line  -- somebody changes the heap

-- ---- what a line looks at: a word of the books, a link in memory, block k's bit in pool p
abbrev pub word : ℕ → Heap → ℕ
word i h = at h.books i

unfoldable pub link : ℕ → Heap → ℕ
unfolding link_at
link o h = link_at h.memory o

unfoldable pub bit_in : ℕ → ℕ → Heap → ℕ
unfolding bit
bit_in p k h = bit (at h.map (map_word p k)) (k % 64)

-- ---- damage, and a look: the word at place i of the books becomes v, is v
abbrev pub word= : ℕ → ℕ → Line
word= i v = spoil (put_word i v)

abbrev pub word? : ℕ → ℕ → Line
word? i v = has (word i) v

-- pool n's class becomes c, and the bits of blocks ks of that pool are set
abbrev pub holding : ℕ → ℕ → List ℕ → Heap → Heap
holding n c [] h = put_word (pool_word (arenas h) class n) c h
holding n c (k ∷ ks) h = on_map (put_map_bit n k 1) (holding n c ks h)

-- ---- equal answers, equal lists
abbrev answers : ℕ → ℕ → Answer → Bool
answers k o r = eqb r.number k && eqb r.offset o

abbrev sized_as : ℕ → ℕ → Sized → Bool
sized_as k s r = eqb r.number k && eqb r.size s

abbrev rolled_as : ℕ → ℕ → Rolled → Bool
rolled_as k n r = eqb r.number k && eqb r.count n

-- a place, where memory lies in buffer 1 from 1,000 on and a phrase in buffer 2 from 2,000 on
abbrev placed_as : ℕ → ℕ → (ℕ × ℕ → ℕ × ℕ → ℕ × ℕ) → Bool
placed_as b i place = eqb (place (1, 1000) (2, 2000)).0 b && eqb (place (1, 1000) (2, 2000)).1 i

abbrev pub same : List ℕ → List ℕ → Bool
same [] [] = true
same [] (y ∷ ys) = false
same (x ∷ xs) [] = false
same (x ∷ xs) (y ∷ ys) = eqb x y && same xs ys

abbrev same_row : List Request → List Request → Bool
same_row [] [] = true
same_row [] (q ∷ qs) = false
same_row (r ∷ rs) [] = false
same_row (r ∷ rs) (q ∷ qs) =
    eqb r.size q.size && eqb r.number q.number && eqb r.offset q.offset && same_row rs qs

-- equal changes, and what a comparison leaves
abbrev is_change : ℤ → ℤ → Bool
is_change (pos m) (pos n) = eqb m n
is_change (negsuc m) (negsuc n) = eqb m n
is_change (pos m) (negsuc n) = false
is_change (negsuc m) (pos n) = false

abbrev same_changes : List ℤ → List ℤ → Bool
same_changes [] [] = true
same_changes [] (y ∷ ys) = false
same_changes (x ∷ xs) [] = false
same_changes (x ∷ xs) (y ∷ ys) = is_change x y && same_changes xs ys

abbrev compared_as : ℕ → ℕ → List ℕ → List ℤ → CompareOutcome → Bool
compared_as k n v d r =
    eqb r.answer.number k
    && eqb r.answer.entries n
    && same r.listed v
    && same_changes r.changed d

abbrev compares_as : Heap → Heap → List Comparison → Bool
compares_as first second [] = true
compares_as first second (over w c k n v d ∷ cs) =
    compared_as k n v d (compare first second w c) && compares_as first second cs

-- every line holds, each over the heap that those before it leave
unfoldable pub runs : List Line → Heap → Bool
unfolding in_range exact alignment_of bit put_bit carved is_start link_at put_link live is_block live_number leave_by
    join_by fresh_books no_link from_freeblock from_listed set_anew same_class take_again from_mark from_freed
    from_usable from_unused plan_ask take_from after_ask ask_answer ask_step walk emptying plan_back after_back
    back_answer back_step give_old moved resize_step roll_blocks roll_pool roll_pools range_number edition_number
    length_number reach_number fit_number shape_number size_number room_number format ask give_back resize view
    view_size stand_in write roll_call one_by_one ask_all requests_in in_words ask_rows all_below how_many in_use
    blocks_of has_spare bits_below rule1 arena_keeps2 rule2 arena_keeps3 arena_keeps4 pool_keeps5 leads meets
    pool_keeps6 arena_keeps6 rule6 all_else_zero is_dead chained is_divided pool_keeps8 arena_keeps9 audit_by
    number_of total listing kind_at live_in_pool change_from changes_from unequal_number compare link bit_in
runs [] h = true
runs (formats A P e k ∷ ls) h = answers k 0 (format h A P e).answer && runs ls (format h A P e).heap
runs (asks n k o ∷ ls) h = answers k o (ask h n).answer && runs ls (ask h n).heap
runs (asks_all row k v ∷ ls) h =
    let x = ask_all h row in
    answers k 0 x.answer && same_row x.left.row v && runs ls x.left.heap
runs (asks_rows w k v ∷ ls) h =
    let x = ask_rows h w in
    answers k 0 x.answer && same x.words v && runs ls x.heap
runs (gives o k r ∷ ls) h = answers k r (give_back h o).answer && runs ls (give_back h o).heap
runs (resizes o n k r ∷ ls) h = answers k r (resize h o n).answer && runs ls (resize h o n).heap
runs (writes o t k r ∷ ls) h = answers k r (write h o t).answer && runs ls (write h o t).heap
runs (views o k s t ∷ ls) h = sized_as k s (view_size h o) && same (view h o) t && runs ls h
runs (stands_in o t u b i ∷ ls) h = same (stand_in h o t) u && placed_as b i (stand_in_at h o) && runs ls h
runs (rolls w k n v ∷ ls) h = rolled_as k n (roll_call h w).answer && same (roll_call h w).words v && runs ls h
runs (audits k ∷ ls) h = eqb (audit h) k && runs ls h
runs (compares f g cs ∷ ls) h = compares_as (f h) (g h) cs && runs ls h
runs (has f v ∷ ls) h = eqb (f h) v && runs ls h
runs (spoil f ∷ ls) h = runs ls (f h)

-- every row holds, each of the heap h itself
unfoldable pub every : List (List Line) → Heap → Bool
unfolding runs
every [] h = true
every (r ∷ rs) h = runs r h && every rs h

-- the heap that format leaves of three lent buffers
abbrev pub fresh : ℕ → ℕ → ℕ → List ℕ → List ℕ → List ℕ → Heap
fresh A P e m b k = (format (heap_of m b k) A P e).heap

-- ---- for comparisons: another heap instead, fresh and of a shape of its own; a lent list of n words, and n changes
abbrev pub shaped : ℕ → ℕ → ℕ → Heap → Heap
shaped A P e h =
    fresh A P e (replicate (memory_length A P) 7) (replicate (books_length A P) 7) (replicate (map_length A P) 7)

abbrev pub words : ℕ → List ℕ
words n = replicate n 9

abbrev pub room : ℕ → List ℤ
room n = replicate n (pos 9)
