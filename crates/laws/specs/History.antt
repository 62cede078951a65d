-- What the theorems speak of: histories of calls, run by the rules; how they begin;
-- their ledgers and editions, made from the calls and their answers; the usable list; and a heap with no room.
-- Assumes nothing.
use Rattle.std.specs.Prelude.{
  ◌≢◌,
  ◌≡◌,
  Bool,
  true,
  false,
  not,
  ◌&&◌,
  ◌||◌,
  List,
  [],
  ◌∷◌,
  ◌++◌,
  ℕ,
  zero,
  suc,
  ◌+◌,
  ◌*◌,
  ◌/◌,
  ◌<◌,
  min,
  ltb,
  eqb,
  ℤ,
  length,
  set,
  take,
  drop,
  if◌then◌else◌,
}
use Rattle.rules.specs.Books.{
  Heap,
  at,
  arenas,
  pools,
  edition,
  alignment_of,
  usable_head,
  open_word,
  free_pools,
  arena_next,
  arena,
  class,
  pool,
  none?,
  linked,
  offset_of,
}
use Rattle.rules.specs.Blocks.{class_of, size_of, start_of, capacity, class_at, live}
use Rattle.rules.specs.Outcome.{heap_of}
use Rattle.rules.specs.View.{part}
use Rattle.rules.specs.Numbers.{format, ask, give_back, resize, view, view_size, write, roll_call}
use Rattle.rules.specs.Audit.{audit}
use Rattle.rules.specs.Compare.{compare}
use Rattle.sequences.specs.Update.{to}

-- ---- a history's events: the calls, with any arguments, and a holder's write of one byte of a block
pub data Event : Type 0 where
  formats : ℕ → ℕ → ℕ → Event  -- A, P, edition
  asks : ℕ → Event  -- size
  gives : ℕ → Event  -- offset
  resizes : ℕ → ℕ → Event  -- offset, size
  views : ℕ → Event  -- offset
  sizes : ℕ → Event  -- offset; view's companion
  stands_in : ℕ → List ℕ → Event  -- offset, phrase
  writes : ℕ → List ℕ → Event  -- offset, text
  rolls : List ℕ → Event  -- the lent words
  audits : Event
  compares : Bool → Heap → List ℕ → List ℤ → Event  -- whether first, the other heap, the lent list and changes
  pokes : ℕ → ℕ → ℕ → Event  -- the offset of a block, a place in it, the byte

-- the ledger: at each offset the bytes of the block that is held there, none where none is
abbrev pub Ledger : Type 0
Ledger = ℕ → List ℕ

pub record State : Type 0 where
  pub heap : Heap
  pub ledger : Ledger
  pub told : ℕ  -- the edition that the last format which was done was told, or that the history began with

-- ---- how a history begins: with a format of any buffers, or with a heap as it stands
pub data Beginning : Type 0 where
  formatted : Heap → ℕ → ℕ → ℕ → Beginning  -- the buffers, and A, P, edition
  passed : Heap → Beginning

-- the format is done; the audit passes the heap
abbrev pub Begins : Beginning → Type 0
Begins (formatted h A P e) = (format h A P e).answer.number ≡ 0
Begins (passed h) = audit h ≡ 0

-- the buffers as they were found
abbrev pub found : Beginning → Heap
found (formatted h A P e) = h
found (passed h) = h

-- what it begins with: the heap that the format leaves, an empty ledger and the edition that was told; or the heap
-- itself, its live blocks, each with its bytes, and its edition
abbrev pub begun : Beginning → State
begun (formatted h A P e) = record { heap = (format h A P e).heap; ledger = λ o. []; told = e }
begun (passed h) = record { heap = h; ledger = view h; told = edition h }

-- the heap h after a call in the state x, and the ledger: the new one if the call's number is 0. (So a half-done
-- resize, which answers 6 and changes the heap, would leave the old one; but no history meets one: `no_six`)
abbrev pub noted : ℕ → Heap → State → Ledger → State
noted number h x new = record { heap = h; ledger = if eqb number 0 then new else x.ledger; told = x.told }

-- ---- of an offset o: the class of its pool; whether its arena is open; whether that is released from the heap h to
-- the heap h', being open before and not after
abbrev pub pool_class : Heap → ℕ → ℕ
pool_class h o = class_at (arenas h) h.books o

abbrev pub in_open_arena : Heap → ℕ → Bool
in_open_arena h o = eqb (arena h.books open_word (o / 4096 / pools h)) 1

abbrev pub released : Heap → Heap → ℕ → Bool
released h h' o = in_open_arena h o && not (in_open_arena h' o)

-- the number that an event's call answers, of an audit 0 for yes or that of the first broken rule; view and the
-- stand-in answer a part and no number, and a holder's byte is no call: 0
unfoldable pub number_of : State → Event → ℕ
number_of x (formats A P e) = (format x.heap A P e).answer.number
number_of x (asks n) = (ask x.heap n).answer.number
number_of x (gives o) = (give_back x.heap o).answer.number
number_of x (resizes o n) = (resize x.heap o n).answer.number
number_of x (views o) = 0
number_of x (sizes o) = (view_size x.heap o).number
number_of x (stands_in o phrase) = 0
number_of x (writes o text) = (write x.heap o text).answer.number
number_of x (rolls words) = (roll_call x.heap words).answer.number
number_of x audits = audit x.heap
number_of x (compares true other list lent) = (compare x.heap other list lent).answer.number
number_of x (compares false other list lent) = (compare other x.heap list lent).answer.number
number_of x (pokes o d v) = 0

-- the size of the block that is handed out for n bytes in the edition e
abbrev pub size_for : ℕ → ℕ → ℕ
size_for e n = size_of (alignment_of e) (class_of (alignment_of e) n)

-- a resize to n that moves the block at o to new, of the size s: its first bytes go along; the others are as they were
-- when the new block was handed out, m being memory as the ask left it
abbrev pub carried : ℕ → ℕ → ℕ → ℕ → List ℕ → Ledger → Ledger
carried s n o new m g =
    to new
    (take (min n (length (g o))) (g o) ++ drop (min n (length (g o))) (part new s m))
    (to o [] g)

-- the state after an event. A done ask adds an entry, a done give-back removes it, a done resize moves it and a
-- done format empties the ledger and says the edition; an entry has the bytes as they were when the block was handed
-- out, and as its holder wrote since
unfoldable pub after : State → Event → State
after x (formats A P e) =
    let y = format x.heap A P e in record {
      heap = y.heap;
      ledger = if eqb y.answer.number 0 then (λ o. []) else x.ledger;
      told = if eqb y.answer.number 0 then e else x.told;
    }
after x (asks n) =
    let y = ask x.heap n in
    noted y.answer.number y.heap x
    (to y.answer.offset (part y.answer.offset (size_for x.told n) y.heap.memory) x.ledger)
after x (gives o) =
    let y = give_back x.heap o in
    noted y.answer.number y.heap x (to o [] x.ledger)
after x (resizes o n) =
    let y = resize x.heap o n in
    noted y.answer.number y.heap x
    (if eqb y.answer.offset o then x.ledger
    else carried (size_for x.told n) n o y.answer.offset (ask x.heap n).heap.memory x.ledger)
after x (views o) = x
after x (sizes o) = x
after x (stands_in o phrase) = x
after x (writes o text) =
    let y = write x.heap o text in
    noted y.answer.number y.heap x (to o (text ++ drop (length text) (x.ledger o)) x.ledger)
after x (rolls words) = x
after x audits = x
after x (compares t other list lent) = x
after x (pokes o d v) =
    if ltb d (length (x.ledger o))
    then record {
      heap = heap_of (set x.heap.memory (o + d) v) x.heap.books x.heap.map;
      ledger = to o (set (x.ledger o) d v) x.ledger;
      told = x.told;
    }
    else x

-- what an event can do to the dead block at o: it is handed out again, its pool is set to another class, or its arena
-- is released. (A format that is done releases every open arena)
unfoldable pub ended : State → Event → ℕ → Bool
ended x e o =
    not (eqb (length ((after x e).ledger o)) 0)
    || not (eqb (pool_class (after x e).heap o) (pool_class x.heap o))
    || released x.heap (after x e).heap o

-- every event of a history, one after the other
unfoldable pub run : State → List Event → State
run x [] = x
run x (e ∷ es) = run (after x e) es

-- the numbers of its calls
unfoldable pub numbers : State → List Event → List ℕ
numbers x [] = []
numbers x (e ∷ es) = number_of x e ∷ numbers (after x e) es

-- no call of the history gives 6
abbrev pub NoSix : State → List Event → Type 0
NoSix x [] = Unit {0}
NoSix x (e ∷ es) = (number_of x e ≢ 6) × NoSix (after x e) es

-- ---- the usable list, by the books alone
-- the arenas that are met from a link on by next, at most so many
abbrev pub met : ℕ → (ℕ → ℕ) → ℕ → List ℕ
met zero next link = []
met (suc more) next link = if none? link then [] else linked link ∷ met more next (next (linked link))

-- those that are met from the usable head
abbrev pub usable_list : Heap → List ℕ
usable_list h = met (arenas h) (λ a. arena h.books arena_next a) (at h.books usable_head)

-- a is an open arena with free pools
abbrev pub Usable : Heap → ℕ → Type 0
Usable h a = (a < arenas h) × (arena h.books open_word a ≡ 1) × (arena h.books free_pools a ≢ 0)

-- ---- the heap h of A arenas with P pools has no room for class c:
-- every pool holds a live block, and every pool of the class is full of live ones
pub record LiveIn (al A P : ℕ) (h : Heap) (p : ℕ) : Type 0 where
  pub offset : ℕ
  pub inside : offset / 4096 ≡ p
  pub is_live : live al A P h.books h.map offset ≡ true

pub record Full (al A P : ℕ) (h : Heap) (c : ℕ) : Type 0 where
  pub held_all : (p : ℕ) → p < A * P → LiveIn al A P h p
  pub full_class : (p : ℕ) → p < A * P → pool A h.books class p ≡ c
      → (k : ℕ) → k < capacity (size_of al c)
      → live al A P h.books h.map (offset_of p (start_of (size_of al c) k)) ≡ true
