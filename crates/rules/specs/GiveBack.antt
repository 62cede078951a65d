-- 01, "Give back", with 02's order of the usable arenas (W-203): the path, decided from the books before, each rule of
-- 6 where the path meets it; then the writes, in the papers' order.
-- Assumes nothing.
use Rattle.std.specs.Prelude.{
  Bool,
  not,
  ◌&&◌,
  ◌||◌,
  List,
  ℕ,
  zero,
  suc,
  ◌+◌,
  ◌*◌,
  ◌-◌,
  ◌/◌,
  ◌%◌,
  leb,
  ltb,
  eqb,
  replicate,
  if◌then◌else◌,
}
use Rattle.std.proofs.lemmas.List.Edits.{sets}
use Rattle.rules.specs.declared.Answer.{Answer}
use Rattle.rules.specs.declared.BackPlan.{BackPlan}
use Rattle.rules.specs.declared.BackPlan.TheVariants.{Damaged, Joins, Stays, Empties, Moves, Returns, Releases}
use Rattle.rules.specs.Say.{◌▷◌}
use Rattle.rules.specs.Books.{
  Heap,
  put,
  on_memory,
  on_books,
  on_map,
  put_map_bit,
  usable_head,
  unused_head,
  class_head,
  free_pools,
  freed_head,
  arena_next,
  arena_previous,
  arena_word,
  arena,
  count,
  freeblock,
  pool_next,
  pool_previous,
  pool_word,
  pool,
  put_word,
  rise,
  fall,
  none?,
  link_to,
  linked,
  offset_of,
}
use Rattle.rules.specs.Blocks.{size_of, is_start, block_no, put_link, class_at}
use Rattle.rules.specs.Lists.{
  may_leave,
  may_join,
  arena_links,
  pool_links,
  arena_leaves,
  arena_joins,
  arena_goes_in_after,
  pool_leaves,
  pool_joins,
}
use Rattle.rules.specs.Outcome.{Outcome, outcome, answer_of}

infixr 12 ◌⇛◌
-- `rule ⇛ rest`: a used word keeps its rule and the path goes on, or the answer is 6
abbrev pub ◌⇛◌ : Bool → BackPlan → BackPlan
rule ⇛ rest = if rule then rest else Damaged

-- ---- what becomes of arena a, one of whose pools comes free; first 02, W-203: its walk in the usable list
module _ (A : ℕ) (b : List ℕ) (a : ℕ) where
  -- "after free pools rises": how many free pools arena x has then
  abbrev pub free_now : ℕ → ℕ
  free_now x = arena b free_pools x + (if eqb x a then 1 else 0)

  -- ".. following arenas as long as they have fewer free pools than it now has": the link is to such an arena
  abbrev pub passes : ℕ → Bool
  passes next = not (none? next) && ltb (free_now (linked next)) (free_now a)

  -- "passing none writes nothing, otherwise it leaves the list and goes in after the last passed": the link to which is
  -- given, or 0. Leaving reads own previous
  abbrev pub goes_in : ℕ → BackPlan
  goes_in last = if none? last then Empties else leb (arena b arena_previous a) A ⇛ Moves (linked last)

  -- ".. it moves back past following arenas as long as ..", and "a walk longer than A arenas is a 6": so many more can
  -- be passed; the links are to the arena that follows and to the one that was passed last
  unfoldable pub walk : ℕ → ℕ → ℕ → BackPlan
  walk zero next last = leb next A ⇛ (if passes next then Damaged else goes_in last)
  walk (suc more) next last =
      leb next A ⇛ (if passes next then walk more (arena b arena_next (linked next)) next else goes_in last)

  -- 01: "If free pools is now P, the arena leaves the usable list, .. If free pools is now 1, the arena joins the
  -- usable list at the front." 02: ".. and the arena is neither released nor newly usable": the walk begins, at own
  -- next
  abbrev pub settling : ℕ → BackPlan
  settling P =
      if eqb (arena b free_pools a + 1) P then may_leave A arena_links a b ⇛ may_join A unused_head b ⇛ Releases
      else if eqb (arena b free_pools a + 1) 1 then may_join A usable_head b ⇛ Returns
      else walk A (arena b arena_next a) 0

-- ---- the path of a block of pool p, of class c.
-- A name stands before it is used: 01's order is from `plan_back`, the last, upwards
module _ (al A P : ℕ) (b : List ℕ) (c p : ℕ) where
  -- word w of the pool's record, and of its arena's
  abbrev pub pool_has : ℕ → ℕ
  pool_has w = pool A b w p

  abbrev pub arena_has : ℕ → ℕ
  arena_has w = arena b w (p / P)

  -- "Otherwise, at count 0, it leaves its class list and goes to the front of its arena's freed pools, .. and free
  -- pools rises by 1. .."
  unfoldable pub emptying : BackPlan
  emptying =
      may_leave (A * P) (pool_links A) p b
      ⇛ leb (arena_has freed_head) (A * P)
      ⇛ leb (arena_has free_pools) (P - 1)
      ⇛ settling A b (p / P) P

  -- "If the old freeblock was 0, the pool was full: it joins its class list at the front. Otherwise, at count 0, .."
  unfoldable pub plan_back : BackPlan
  plan_back =
      (none? (pool_has freeblock) || is_start (size_of al c) (pool_has freeblock))
      ⇛ (leb 1 (pool_has count) && leb (pool_has count) 506)
      ⇛ (if none? (pool_has freeblock) then may_join (A * P) (class_head c) b ⇛ Joins
      else if eqb (pool_has count) 1 then emptying
      else Stays)

-- ---- the writes, for the block at f of pool p, of class c
module _ (al A P c p f : ℕ) where
  -- "Clear the bit; write the old freeblock as the block's link; freeblock is the block; count falls by 1."
  abbrev pub take_back : Heap → Heap
  take_back h =
      h
      ▷ on_map (put_map_bit p (block_no (size_of al c) f) 0)
      ▷ on_memory (put_link (offset_of p f) (pool A h.books freeblock p))
      ▷ put_word (pool_word A freeblock p) f
      ▷ fall (pool_word A count p)

  -- ".. it leaves its class list and goes to the front of its arena's freed pools, linked by next alone
  -- (own previous 0, the old head's record untouched), and free pools rises by 1."
  abbrev pub empty : Heap → Heap
  empty h =
      h
      ▷ pool_leaves A c p
      ▷ on_books (λ b. put (pool_word A pool_next p) (arena b freed_head (p / P)) b)
      ▷ put_word (pool_word A pool_previous p) 0
      ▷ put_word (arena_word freed_head (p / P)) (link_to p)
      ▷ rise (arena_word free_pools (p / P))

  -- 02, W-203: ".. it leaves the list and goes in after the last passed", which is q
  abbrev pub move_after : ℕ → ℕ → Heap → Heap
  move_after q a h = h ▷ arena_leaves usable_head a ▷ arena_goes_in_after q a

  -- ".. the arena leaves the usable list, its record becomes 0 except that it joins the unused list at the front"
  abbrev pub release : ℕ → Heap → Heap
  release a h =
      h
      ▷ arena_leaves usable_head a
      ▷ on_books (λ b. sets b (arena_word 0 a) (replicate 8 0))
      ▷ arena_joins unused_head a

  -- the writes of each path
  unfoldable pub after_back : BackPlan → Heap → Heap
  after_back Damaged h = h
  after_back Joins h = h ▷ take_back ▷ pool_joins A c p
  after_back Stays h = h ▷ take_back
  after_back Empties h = h ▷ take_back ▷ empty
  after_back (Moves q) h = h ▷ take_back ▷ empty ▷ move_after q (p / P)
  after_back Returns h = h ▷ take_back ▷ empty ▷ arena_joins usable_head (p / P)
  after_back Releases h = h ▷ take_back ▷ empty ▷ release (p / P)

-- ---- the answer, o being the offset given
unfoldable pub back_answer : ℕ → BackPlan → Answer
back_answer o Damaged = answer_of 6 0
back_answer o Joins = answer_of 0 o
back_answer o Stays = answer_of 0 o
back_answer o Empties = answer_of 0 o
back_answer o (Moves q) = answer_of 0 o
back_answer o Returns = answer_of 0 o
back_answer o Releases = answer_of 0 o

-- what a give-back of offset o, of class c, that takes the path q leaves; and a give-back of a live offset
module _ (al A P : ℕ) where
  abbrev pub given_back : ℕ → Heap → ℕ → BackPlan → Outcome
  given_back c h o q = outcome (back_answer o q) (after_back al A P c (o / 4096) (o % 4096) q h)

  unfoldable pub back_step : Heap → ℕ → Outcome
  back_step h o = given_back (class_at A h.books o) h o (plan_back al A P h.books (class_at A h.books o) (o / 4096))
