-- 01, "Ask": the path, decided from the heap before, each rule of 6 where the path meets it;
-- then the writes, in 01's order.
-- Assumes nothing.
use Rattle.std.specs.Prelude.{Bool, not, ◌&&◌, ◌||◌, ℕ, ◌+◌, ◌*◌, leb, ltb, eqb, if◌then◌else◌}
use Rattle.rules.specs.declared.Answer.{Answer}
use Rattle.rules.specs.declared.Source.{Source}
use Rattle.rules.specs.declared.Source.TheVariants.{Freed, Carved, Opened}
use Rattle.rules.specs.declared.AskPlan.{AskPlan}
use Rattle.rules.specs.declared.AskPlan.TheVariants.{NoRoom, Damaged, Follow, Ready, Last, Again, Anew}
use Rattle.rules.specs.Say.{◌▷◌, only}
use Rattle.rules.specs.Books.{
  Heap,
  at,
  put,
  on_memory,
  on_books,
  on_map,
  is_set,
  put_map_bit,
  usable_head,
  unused_head,
  class_head,
  open_word,
  carve_mark,
  free_pools,
  freed_head,
  arena_word,
  arena,
  count,
  freeblock,
  pool_next,
  pool_previous,
  class,
  nextoffset,
  maxnextoffset,
  no_class,
  pool_word,
  pool,
  put_word,
  rise,
  fall,
  none?,
  link_to,
  linked,
  offset_of,
}
use Rattle.rules.specs.Blocks.{class_of, size_of, last_start, is_start, block_no, link_at, put_link}
use Rattle.rules.specs.Lists.{may_leave, arena_links, pool_links, arena_leaves, arena_joins, pool_leaves}
use Rattle.rules.specs.Outcome.{Outcome, outcome, answer_of}

infixr 12 ◌⇛◌
-- `rule ⇛ rest`: a used word keeps its rule and the path goes on, or the answer is 6
abbrev pub ◌⇛◌ : Bool → AskPlan → AskPlan
rule ⇛ rest = if rule then rest else Damaged

-- the path from the front member of the list whose head word is l, 6 where l is above `most`;
-- `otherwise` where the list is empty
abbrev pub front_of : ℕ → ℕ → (ℕ → AskPlan) → AskPlan → AskPlan
front_of l most front otherwise = if none? l then otherwise else (leb l most ⇛ front (linked l))

-- ---- the path of an ask for class c, over the heap h.
-- A name stands before it is used: 01's order is from `plan_ask`, the last, upwards
module _ (al A P : ℕ) (h : Heap) (c : ℕ) where
  -- the wanted block size
  abbrev pub size : ℕ
  size = size_of al c

  -- word w of pool p's record, and of arena a's
  abbrev pub pool_has : ℕ → ℕ → ℕ
  pool_has p w = pool A h.books w p

  abbrev pub arena_has : ℕ → ℕ → ℕ
  arena_has a w = arena h.books w a

  -- f is a block start in pool p, and its map bit, counted by the wanted class, is not set
  abbrev pub spare : ℕ → ℕ → Bool
  spare p f = is_start size f && not (is_set h.map p (block_no size f))

  -- the link in pool p's freeblock
  abbrev pub link_in : ℕ → ℕ
  link_in p = link_at h.memory (offset_of p (pool_has p freeblock))

  -- "If that is 0 and nextoffset ≤ maxnextoffset, freeblock becomes nextoffset, .. If it is 0 and there is no such
  -- room, the pool is full: it leaves the list": pool p is listed, and its freeblock has no link
  unfoldable pub no_link : ℕ → AskPlan
  no_link p =
      if leb (pool_has p nextoffset) (pool_has p maxnextoffset)
      then spare p (pool_has p nextoffset) ⇛ Ready p (pool_has p freeblock) (pool_has p nextoffset)
      else may_leave (A * P) (pool_links A) p h.books ⇛ Last p (pool_has p freeblock)

  -- "the block at freeblock is the answer, freeblock becomes its link": of the listed pool p
  unfoldable pub from_freeblock : ℕ → AskPlan
  from_freeblock p =
      spare p (pool_has p freeblock)
      ⇛ (none? (link_in p) || spare p (link_in p))
      ⇛ (if none? (link_in p) then no_link p else Follow p (pool_has p freeblock) (link_in p))

  -- "If the class list has a pool, take the front one": pool p
  unfoldable pub from_listed : ℕ → AskPlan
  from_listed p =
      eqb (pool_has p class) c
      ⇛ eqb (pool_has p maxnextoffset) (last_start size)
      ⇛ leb (pool_has p count) 505
      ⇛ from_freeblock p

  -- "Otherwise class is set, .. freeblock 48 + size with link written 0, and the answer is 48":
  -- blocks 0 and 1 of pool p
  unfoldable pub set_anew : Source → ℕ → AskPlan
  set_anew s p = spare p 48 ⇛ spare p (48 + size) ⇛ Anew s p

  -- "If its class is already the wanted one, the answer is its freeblock, which becomes that block's link":
  -- pool p, freed in arena a
  unfoldable pub same_class : ℕ → ℕ → AskPlan
  same_class a p =
      spare p (pool_has p freeblock)
      ⇛ (none? (link_in p) || spare p (link_in p))
      ⇛ Again a p (pool_has p freeblock) (link_in p)

  -- "If its class is already the wanted one, .. Otherwise class is set": pool p, taken from arena a's freed pools
  unfoldable pub take_again : ℕ → ℕ → AskPlan
  take_again a p = if eqb (pool_has p class) c then same_class a p else set_anew (Freed a) p

  -- "Free pools falls by 1; at 0 the arena leaves the list": arena a, which gives a pool
  abbrev pub counted : ℕ → AskPlan → AskPlan
  counted a rest =
      (leb 1 (arena_has a free_pools) && leb (arena_has a free_pools) P)
      ⇛ (not (eqb (arena_has a free_pools) 1) || may_leave A arena_links a h.books)
      ⇛ rest

  -- "else carve the pool at the mark"
  unfoldable pub from_mark : ℕ → AskPlan
  from_mark a =
      ltb (arena_has a carve_mark) P
      ⇛ counted a (set_anew (Carved a) (a * P + arena_has a carve_mark))

  -- "take the freed-pool head .. (its next becomes the head)": pool p
  unfoldable pub from_freed : ℕ → ℕ → AskPlan
  from_freed a p =
      leb (pool_has p pool_next) (A * P)
      ⇛ counted a (take_again a p)

  -- "From the usable front, take the freed-pool head if there is one .., else carve"
  unfoldable pub from_usable : ℕ → AskPlan
  from_usable a = front_of (arena_has a freed_head) (A * P) (from_freed a) (from_mark a)

  -- "where the usable list is empty, the unused head leaves its list and joins the usable one (.. carve mark and
  -- freed-pool head 0, ..)": its first pool is carved
  unfoldable pub from_unused : ℕ → AskPlan
  from_unused a = may_leave A arena_links a h.books ⇛ set_anew (Opened a) (a * P)

  -- "Ask.", and "4 needs the class head, usable head and unused head all 0"
  unfoldable pub plan_ask : AskPlan
  plan_ask =
      front_of (at h.books (class_head c)) (A * P) from_listed
      (front_of (at h.books usable_head) A from_usable
      (front_of (at h.books unused_head) A from_unused
      NoRoom))

-- ---- the writes of an ask for class c
module _ (al A P c : ℕ) where
  -- "else carve the pool at the mark (its class becomes 65,535, the mark rises by 1)"
  abbrev pub carve : ℕ → ℕ → Heap → Heap
  carve a p h = h ▷ put_word (pool_word A class p) no_class ▷ rise (arena_word carve_mark a)

  -- pool p is taken from its source
  unfoldable pub take_from : Source → ℕ → Heap → Heap
  take_from (Freed a) p h = h ▷ on_books (λ b. put (arena_word freed_head a) (pool A b pool_next p) b)
  take_from (Carved a) p h = h ▷ carve a p
  take_from (Opened a) p h =
      h
      ▷ arena_leaves unused_head a
      ▷ arena_joins usable_head a
      ▷ put_word (arena_word open_word a) 1
      ▷ put_word (arena_word carve_mark a) 0
      ▷ put_word (arena_word freed_head a) 0
      ▷ put_word (arena_word free_pools a) P
      ▷ carve a p

  abbrev pub arena_of : Source → ℕ
  arena_of (Freed a) = a
  arena_of (Carved a) = a
  arena_of (Opened a) = a

  -- "Free pools falls by 1; at 0 the arena leaves the list, next and previous 0."
  abbrev pub leave_at_zero : ℕ → Heap → Heap
  leave_at_zero a h = h ▷ only (none? (arena h.books free_pools a)) (arena_leaves usable_head a)

  abbrev pub spend : ℕ → Heap → Heap
  spend a h = h ▷ fall (arena_word free_pools a) ▷ leave_at_zero a

  -- "The pool goes alone on the class list with count 1."
  abbrev pub alone : ℕ → Heap → Heap
  alone p h =
      h
      ▷ put_word (class_head c) (link_to p)
      ▷ put_word (pool_word A pool_next p) 0
      ▷ put_word (pool_word A pool_previous p) 0
      ▷ put_word (pool_word A count p) 1

  -- the link in the block at f of pool p is written 0
  abbrev pub no_link_at : ℕ → ℕ → Heap → Heap
  no_link_at p f = on_memory (put_link (offset_of p f) 0)

  -- "Last, the map bit is set."
  abbrev pub hand_out : ℕ → ℕ → Heap → Heap
  hand_out p f = on_map (put_map_bit p (block_no (size_of al c) f) 1)

  -- the writes of each path, in the order of the sentences above: "count rises by 1, .. freeblock becomes its link",
  -- "nextoffset rises by the size, and the link in the new freeblock is written 0", "the pool is full: it leaves the
  -- list"; a pool that is taken, of the wanted class, or set to it
  unfoldable pub after_ask : AskPlan → Heap → Heap
  unfolding take_from
  after_ask NoRoom h = h
  after_ask Damaged h = h
  after_ask (Follow p f l) h = h ▷ rise (pool_word A count p) ▷ put_word (pool_word A freeblock p) l ▷ hand_out p f
  after_ask (Ready p f m) h =
      h
      ▷ rise (pool_word A count p)
      ▷ put_word (pool_word A freeblock p) m
      ▷ put_word (pool_word A nextoffset p) (m + size_of al c)
      ▷ no_link_at p m
      ▷ hand_out p f
  after_ask (Last p f) h =
      h ▷ rise (pool_word A count p) ▷ put_word (pool_word A freeblock p) 0 ▷ pool_leaves A c p ▷ hand_out p f
  after_ask (Again a p f l) h =
      h ▷ take_from (Freed a) p ▷ spend a ▷ alone p ▷ put_word (pool_word A freeblock p) l ▷ hand_out p f
  after_ask (Anew s p) h =
      h
      ▷ take_from s p
      ▷ spend (arena_of s)
      ▷ alone p
      ▷ put_word (pool_word A class p) c
      ▷ put_word (pool_word A nextoffset p) (48 + 2 * size_of al c)
      ▷ put_word (pool_word A maxnextoffset p) (last_start (size_of al c))
      ▷ put_word (pool_word A freeblock p) (48 + size_of al c)
      ▷ no_link_at p (48 + size_of al c)
      ▷ hand_out p 48

-- ---- the answer
unfoldable pub ask_answer : AskPlan → Answer
ask_answer NoRoom = answer_of 4 0
ask_answer Damaged = answer_of 6 0
ask_answer (Follow p f l) = answer_of 0 (offset_of p f)
ask_answer (Ready p f m) = answer_of 0 (offset_of p f)
ask_answer (Last p f) = answer_of 0 (offset_of p f)
ask_answer (Again a p f l) = answer_of 0 (offset_of p f)
ask_answer (Anew s p) = answer_of 0 (offset_of p 48)

-- what an ask that takes the path q leaves; and an ask for n bytes, 1 to 512
module _ (al A P : ℕ) where
  abbrev pub asked : ℕ → Heap → AskPlan → Outcome
  asked c h q = outcome (ask_answer q) (after_ask al A P c q h)

  unfoldable pub ask_step : Heap → ℕ → Outcome
  ask_step h n = asked (class_of al n) h (plan_ask al A P h (class_of al n))
