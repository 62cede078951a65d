-- Small histories, computed by `run` itself at both editions, that reach each path of ask and give back, a refusal with
-- 4, a moved resize and a second arena: the theorems are not empty.
-- Assumes nothing.
use Rattle.std.specs.Prelude.{◌≡◌, Bool, true, ◌&&◌, List, [], ◌∷◌, ℕ, ◌+◌, ◌*◌, ◌-◌, ◌/◌, T, eqb, length, replicate}
use Rattle.rules.specs.declared.Source.{Source}
use Rattle.rules.specs.declared.Source.TheVariants.{Freed, Carved, Opened}
use Rattle.rules.specs.declared.AskPlan.{AskPlan}
use Rattle.rules.specs.declared.AskPlan.TheVariants.{NoRoom, Damaged, Follow, Ready, Last, Again, Anew}
use Rattle.rules.specs.declared.BackPlan.{BackPlan}
use Rattle.rules.specs.declared.BackPlan.TheVariants.{Damaged as Broken, Joins, Stays, Empties, Moves, Returns, Releases}
use Rattle.rules.specs.Books.{
  Heap,
  memory_length,
  books_length,
  map_length,
  alignment_of,
  alignment,
  bit,
  put_bit,
  in_range,
  exact,
}
use Rattle.rules.specs.Blocks.{class_of, class_at, is_start, link_at, put_link, live, live_number}
use Rattle.rules.specs.Lists.{leave_by, join_by}
use Rattle.rules.specs.Format.{fresh_books}
use Rattle.rules.specs.Ask.{
  no_link,
  from_freeblock,
  from_listed,
  set_anew,
  same_class,
  take_again,
  from_mark,
  from_freed,
  from_usable,
  from_unused,
  plan_ask,
  take_from,
  after_ask,
  ask_answer,
  ask_step,
}
use Rattle.rules.specs.GiveBack.{walk, emptying, plan_back, after_back, back_answer, back_step}
use Rattle.rules.specs.Resize.{give_old, moved, resize_step}
use Rattle.rules.specs.Outcome.{heap_of}
use Rattle.rules.specs.View.{part, roll_blocks, roll_pool, roll_pools}
use Rattle.rules.specs.Numbers.{
  range_number,
  edition_number,
  length_number,
  reach_number,
  fit_number,
  shape_number,
  size_number,
  room_number,
  roll_of,
  format,
  ask,
  give_back,
  resize,
  write,
}
use Rattle.rules.specs.Lines.{same}
use Rattle.rules.specs.Whole.{tab, each_three}
use Rattle.laws.specs.History.{
  Event,
  formats,
  asks,
  gives,
  resizes,
  views,
  sizes,
  stands_in,
  writes,
  rolls,
  audits,
  compares,
  pokes,
  State,
  formatted,
  begun,
  after,
  run,
}

-- the paths by number: of an ask 0 no room, 1 by link, 2 by a block set ready, 3 as the last spare block, 4 freed of
-- the same class, 5 freed of another, 6 carved, 7 opened; of a give-back 1 joins, 2 stays, 3 empties, 4 the arena
-- newly usable, 5 released, 6 the arena moves in the usable list
abbrev source_no : Source → ℕ
source_no (Freed a) = 5
source_no (Carved a) = 6
source_no (Opened a) = 7

abbrev ask_no : AskPlan → ℕ
ask_no NoRoom = 0
ask_no Damaged = 9
ask_no (Follow p f l) = 1
ask_no (Ready p f m) = 2
ask_no (Last p f) = 3
ask_no (Again a p f l) = 4
ask_no (Anew s p) = source_no s

abbrev back_no : BackPlan → ℕ
back_no Broken = 9
back_no Joins = 1
back_no Stays = 2
back_no Empties = 3
back_no Returns = 4
back_no Releases = 5
back_no (Moves q) = 6

-- the path that an event's call takes on a heap of A arenas with P pools; of a resize the offset that it answers, of
-- the others nothing
abbrev path_of : ℕ → ℕ → Heap → Event → ℕ
path_of A P h (formats A' P' e) = 0
path_of A P h (asks n) = ask_no (plan_ask (alignment h) A P h (class_of (alignment h) n))
path_of A P h (gives o) = back_no (plan_back (alignment h) A P h.books (class_at A h.books o) (o / 4096))
path_of A P h (resizes o n) = (resize h o n).answer.offset
path_of A P h (views o) = 0
path_of A P h (sizes o) = 0
path_of A P h (stands_in o phrase) = 0
path_of A P h (writes o text) = 0
path_of A P h (rolls words) = 0
path_of A P h audits = 0
path_of A P h (compares t other list lent) = 0
path_of A P h (pokes o d v) = 0

-- an event and the path that it takes
abbrev pub Turn : Type 0
Turn = Event × ℕ

unfoldable pub events : List Turn → List Event
events [] = []
events (t ∷ ts) = t.0 ∷ events ts

-- every turn takes its path, each in the state that those before it leave
unfoldable pub reaches : ℕ → ℕ → List Turn → State → Bool
unfolding in_range alignment_of exact bit put_bit is_start link_at put_link live live_number leave_by join_by fresh_books no_link
    from_freeblock from_listed set_anew same_class take_again from_mark from_freed from_usable from_unused plan_ask take_from
    after_ask ask_answer ask_step walk emptying plan_back after_back back_answer back_step give_old moved resize_step range_number
    edition_number length_number reach_number fit_number shape_number size_number room_number format ask give_back resize write
    after
reaches A P [] x = true
reaches A P (t ∷ ts) x = eqb (path_of A P x.heap t.0) t.1 && reaches A P ts (after x t.0)

-- and the history's run ends with this roll, and with these bytes at this offset in memory and in the ledger
unfoldable pub ends : List Event → State → List ℕ → ℕ → List ℕ → Bool
unfolding reaches roll_blocks roll_pool roll_pools run
ends es x listed o bytes =
    let y = run x es in
    same (roll_of y.heap) listed && same (y.ledger o) bytes && same (part o (length bytes) y.heap.memory) bytes

-- a history of an edition, with A arenas of P pools, by its turns and by its end, whatever memory, books and map of the
-- right lengths held before format
pub record Story : Type 0 where
  pub edition : ℕ
  pub A : ℕ
  pub P : ℕ
  pub turns : List Turn
  pub listed : List ℕ
  pub offset : ℕ
  pub bytes : List ℕ

abbrev pub Holds : Story → List ℕ → List ℕ → List ℕ → Type 0
Holds s m b k =
    let x = begun (formatted (heap_of m b k) s.A s.P s.edition) in
    T (reaches s.A s.P s.turns x && ends (events s.turns) x s.listed s.offset s.bytes)

abbrev pub Reached : Story → Type 0
Reached s =
    (m b k : List ℕ)
    → length m ≡ memory_length s.A s.P → length b ≡ books_length s.A s.P → length k ≡ map_length s.A s.P
    → Holds s m b k

reached : (s : Story)
    → ((f g k : ℕ → ℕ)
    → Holds s (tab (memory_length s.A s.P) 0 f) (tab (books_length s.A s.P) 0 g)
    (tab (map_length s.A s.P) 0 k))
    → Reached s
reached s = each_three (Holds s) (memory_length s.A s.P) (books_length s.A s.P) (map_length s.A s.P)

-- a story for each edition e, reached at both
abbrev pub BothReached : (ℕ → Story) → Type 0
BothReached s = Reached (s 0) × Reached (s 1)

-- two pools, and blocks of 512, seven to a pool: all paths but one, and a refusal with 4
abbrev pub two_pools : ℕ → Story
two_pools e = record {
  edition = e;
  A = 1;
  P = 2;
  turns =
      (asks 512, 7) ∷ (asks 512, 2) ∷ (asks 512, 2) ∷ (asks 512, 2) ∷ (asks 512, 2) ∷ (asks 512, 2) ∷ (asks 512, 3)
      ∷ (asks 512, 6) ∷ (asks 512, 2) ∷ (asks 512, 2) ∷ (asks 512, 2) ∷ (asks 512, 2) ∷ (asks 512, 2) ∷ (asks 512, 3)
      ∷ (asks 512, 0)
      ∷ (gives 48, 1) ∷ (gives 560, 2) ∷ (asks 512, 1) ∷ (gives 560, 2)
      ∷ (gives 1072, 2) ∷ (gives 1584, 2) ∷ (gives 2096, 2) ∷ (gives 2608, 2) ∷ (gives 3120, 4)
      ∷ (asks 512, 4) ∷ (gives 3120, 4)
      ∷ (asks 8, 5) ∷ (resizes 48 6, 48 + alignment_of e) ∷ (gives (48 + alignment_of e), 4)
      ∷ (gives 4144, 1) ∷ (gives 4656, 2) ∷ (gives 5168, 2) ∷ (gives 5680, 2) ∷ (gives 6192, 2) ∷ (gives 6704, 2)
      ∷ (gives 7216, 5)
      ∷ [];
  listed = [];
  offset = 48;
  bytes = [];
}

-- an arena of three pools that is alone in the usable list keeps its place when a pool comes free
abbrev pub three_pools : ℕ → Story
three_pools e = record {
  edition = e;
  A = 1;
  P = 3;
  turns = (asks 512, 7) ∷ (asks 8, 6) ∷ (gives 4144, 3) ∷ [];
  listed = 48 ∷ 512 ∷ [];
  offset = 4144;
  bytes = [];
}

-- two arenas of two pools: the second is opened when the first is spent, the first is released and opened again, and
-- 'owed', in the second, moves to the first. A block of class c has the size s × (c + 1), s being the alignment
abbrev pub two_arenas : ℕ → Story
two_arenas e = let s = alignment_of e in record {
  edition = e;
  A = 2;
  P = 2;
  turns =
      (asks s, 7) ∷ (asks (2 * s), 6) ∷ (asks (3 * s), 7) ∷ (asks (4 * s), 6)
      ∷ (writes 8240 (111 ∷ 119 ∷ 101 ∷ 100 ∷ replicate (s - 4) 0), 0)
      ∷ (gives 48, 4) ∷ (gives 4144, 5) ∷ (asks (5 * s), 7) ∷ (resizes 8240 s, 4144) ∷ (pokes 4144 7 33, 0)
      ∷ (asks (6 * s), 5)
      ∷ [];
  listed = 48 ∷ 5 * s ∷ 4144 ∷ s ∷ 8240 ∷ 6 * s ∷ 12336 ∷ 4 * s ∷ [];
  offset = 4144;
  bytes = 111 ∷ 119 ∷ 101 ∷ 100 ∷ 0 ∷ 0 ∷ 0 ∷ 33 ∷ replicate (s - 8) 0;
}

-- two arenas of three pools: when the second gets a second pool back it moves back past the first, which gives the next
-- pool then; the first, with as many as the second, keeps its place
abbrev pub past_one : ℕ → Story
past_one e = let s = alignment_of e in record {
  edition = e;
  A = 2;
  P = 3;
  turns =
      (asks s, 7) ∷ (asks (2 * s), 6) ∷ (asks (3 * s), 6) ∷ (asks (4 * s), 7) ∷ (asks (5 * s), 6) ∷ (asks (6 * s), 6)
      ∷ (gives 48, 4) ∷ (gives 12336, 4) ∷ (gives 16432, 6) ∷ (asks (7 * s), 5) ∷ (gives 4144, 4) ∷ (gives 8240, 3)
      ∷ [];
  listed = 48 ∷ 7 * s ∷ 20528 ∷ 6 * s ∷ [];
  offset = 8240;
  bytes = [];
}

pub reached_two : BothReached two_pools
unfolding ends events
reached_two = (reached (two_pools 0) (λ f g k. tt), reached (two_pools 1) (λ f g k. tt))

pub reached_three : BothReached three_pools
unfolding ends events
reached_three = (reached (three_pools 0) (λ f g k. tt), reached (three_pools 1) (λ f g k. tt))

pub reached_arenas : BothReached two_arenas
unfolding ends events
reached_arenas = (reached (two_arenas 0) (λ f g k. tt), reached (two_arenas 1) (λ f g k. tt))

pub reached_past : BothReached past_one
unfolding ends events
reached_past = (reached (past_one 0) (λ f g k. tt), reached (past_one 1) (λ f g k. tt))
