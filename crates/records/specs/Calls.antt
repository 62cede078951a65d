-- What a replay needs to know of ask, give back and resize, whatever the heap holds: A, P and the edition stay in the
-- books; and that words at any places stay where the writes are to others.
-- Assumes nothing.
use Rattle.std.specs.Prelude.{◌≡◌, refl, Bool, ◌≢◌, ◌⊎◌, List, ℕ, zero, suc, ◌+◌, ◌/◌, ◌%◌, ◌≤◌, ◌<◌, min, length, replicate, if◌then◌else◌}
use Rattle.std.proofs.Common.{◌∙◌, inl, arith, get_or-set_other}
use Rattle.std.proofs.Math.Bool.{true, false}
use Rattle.std.proofs.lemmas.List.Edits.{sets}
use Rattle.rules.specs.declared.Source.{Source}
use Rattle.rules.specs.declared.Source.TheVariants.{Freed, Carved, Opened}
use Rattle.rules.specs.declared.AskPlan.{AskPlan}
use Rattle.rules.specs.declared.AskPlan.TheVariants.{NoRoom, Damaged, Follow, Ready, Last, Again, Anew}
use Rattle.rules.specs.declared.BackPlan.{BackPlan}
use Rattle.rules.specs.declared.BackPlan.TheVariants.{Damaged as Broken, Joins, Stays, Empties, Moves, Returns, Releases}
use Rattle.rules.specs.Say.{only}
use Rattle.rules.specs.Books.{Heap, at, put, arenas, pools, edition, alignment, usable_head, free_pools, arena_word, arena, fall, none?, linked}
use Rattle.rules.specs.Blocks.{class_of, class_at, size_at, live_number}
use Rattle.rules.specs.Lists.{next_at, previous_at, leave, join, go_in_after, arena_links, arena_leaves}
use Rattle.rules.specs.Outcome.{Outcome, outcome, answer_of, done, refused, passing}
use Rattle.rules.specs.Ask.{take_from, arena_of, spend, alone, after_ask, ask_step}
use Rattle.rules.specs.GiveBack.{take_back, empty, release, after_back, back_step}
use Rattle.rules.specs.Resize.{keeps, copy, give_old, half_done, moved, resize_step}
use Rattle.rules.specs.Numbers.{shape_number, size_number, in_order, offset_number, ask, give_back, resize}
use Rattle.books.specs.Sizes.{Aligned, aligned, has_class, class_low}
use Rattle.books.specs.Known.{size_zero, live_zero, live_is}
use Rattle.books.specs.Passing.{order_zero}
use Rattle.books.specs.Lists.{leave_keeps, join_keeps}
use Rattle.loops.specs.Sets.{sets_other}

-- the books b' have the words of b at the places K
pub record Same (K : ℕ → Type 0) (b b' : List ℕ) : Type 0 where
  pub word : (j : ℕ) → K j → at b' j ≡ at b j

-- the words before the records that are no list's head: 0 and 1, which are A and P; 68, the edition; 69 to 71, which
-- are spare. Counted round those 72 words from 68 on they are the first six: so `omega` reads it, and would not read a
-- choice
abbrev pub Fixed : ℕ → Type 0
Fixed j = (j < 72) × ((j + 4) % 72 < 6)

abbrev pub Kept : List ℕ → List ℕ → Type 0
Kept b b' = Same Fixed b b'

pub none_written : {K : ℕ → Type 0} {b : List ℕ} → Same K b b
none_written = record { word = λ j l. refl }

pub kept_on : {K : ℕ → Type 0} {a b c : List ℕ} → Same K a b → Same K b c → Same K a c
kept_on k l = record { word = λ j u. l.word j u ∙ k.word j u }

-- ---- the writes of the steps, each to words at other places
module _ {K : ℕ → Type 0} {b b' : List ℕ} where
  pub put_kept : (i v : ℕ) → ((j : ℕ) → K j → j ≢ i) → Same K b b' → Same K b (put i v b')
  put_kept i v h k = record { word = λ j l. get_or-set_other b' i j v 0 (h j l) ∙ k.word j l }

  pub sets_kept : (i : ℕ) (vs : List ℕ) → ((j : ℕ) → K j → (j < i) ⊎ (i + length vs ≤ j)) → Same K b b'
      → Same K b (sets b' i vs)
  sets_kept i vs h k = record { word = λ j l. sets_other b' i vs j (h j l) ∙ k.word j l }

  pub leave_kept : (base head n : ℕ)
      → ((j : ℕ) → K j
      → (j ≢ head)
      × (j ≢ next_at base (linked (at b' (previous_at base n))))
      × (j ≢ previous_at base (linked (at b' (next_at base n))))
      × (j ≢ next_at base n)
      × (j ≢ previous_at base n))
      → Same K b b' → Same K b (leave base head n b')
  leave_kept base head n h k = record { word = λ j l. leave_keeps base head _ _ n b' j (h j l) ∙ k.word j l }

  pub join_kept : (base head n : ℕ)
      → ((j : ℕ) → K j
      → (j ≢ head) × (j ≢ previous_at base (linked (at b' head))) × (j ≢ next_at base n) × (j ≢ previous_at base n))
      → Same K b b' → Same K b (join base head n b')
  join_kept base head n h k = record { word = λ j l. join_keeps base head _ _ n b' j (h j l) ∙ k.word j l }

  pub go_in_kept : (base q n : ℕ)
      → ((j : ℕ) → K j
      → (j ≢ next_at base q)
      × (j ≢ previous_at base (linked (at b' (next_at base q))))
      × (j ≢ next_at base n)
      × (j ≢ previous_at base n))
      → Same K b b' → Same K b (go_in_after base q n b')
  go_in_kept base q n h k = record { word = λ j l. join_keeps base (next_at base q) _ _ n b' j (h j l) ∙ k.word j l }

-- a change that is made only where a test holds
only_kept : {b : List ℕ} (t : Bool) (f : Heap → Heap) (h : Heap) → Kept b h.books → Kept b (f h).books
    → Kept b (only t f h).books
only_kept true f h k l = l
only_kept false f h k l = k

-- ---- an ask for class c: its head, word 4 + c, stands before word 68
module _ (al A P c : ℕ) (few : c ≤ 63) {b : List ℕ} where
  take_kept : (s : Source) (p : ℕ) (h : Heap) → Kept b h.books → Kept b (take_from al A P c s p h).books
  unfolding take_from
  take_kept (Freed a) p h k = put_kept _ _ (λ j l. omega arith) k
  take_kept (Carved a) p h k = put_kept _ _ (λ j l. omega arith) (put_kept _ _ (λ j l. omega arith) k)
  take_kept (Opened a) p h k =
      put_kept _ _ (λ j l. omega arith) (put_kept _ _ (λ j l. omega arith)
      (put_kept _ _ (λ j l. omega arith) (put_kept _ _ (λ j l. omega arith) (put_kept _ _ (λ j l. omega arith) (put_kept _ _ (λ j l. omega arith)
      (join_kept _ _ _ (λ j l. omega arith) (leave_kept _ _ _ (λ j l. omega arith) k)))))))

  spend_kept : (a : ℕ) (h : Heap) → Kept b h.books → Kept b (spend al A P c a h).books
  spend_kept a h k =
      let less : Kept b (fall (arena_word free_pools a) h).books = put_kept _ _ (λ j l. omega arith) k in
      only_kept (none? (arena (fall (arena_word free_pools a) h).books free_pools a)) (arena_leaves usable_head a)
      (fall (arena_word free_pools a) h) less (leave_kept arena_links usable_head a (λ j l. omega arith) less)

  alone_kept : (p : ℕ) (h : Heap) → Kept b h.books → Kept b (alone al A P c p h).books
  alone_kept p h k =
      put_kept _ _ (λ j l. omega arith) (put_kept _ _ (λ j l. omega arith) (put_kept _ _ (λ j l. omega arith) (put_kept _ _ (λ j l. omega arith) k)))

  -- a pool is taken from its source, its arena spends it, and it goes alone on the class list
  listed_kept : (s : Source) (p : ℕ) (h : Heap) → Kept b h.books
      → Kept b (alone al A P c p (spend al A P c (arena_of al A P c s) (take_from al A P c s p h))).books
  listed_kept s p h k =
      let taken = take_from al A P c s p h in
      let a = arena_of al A P c s in
      alone_kept p (spend al A P c a taken) (spend_kept a taken (take_kept s p h k))

  ask_kept : (q : AskPlan) (h : Heap) → Kept b h.books → Kept b (after_ask al A P c q h).books
  unfolding after_ask
  ask_kept NoRoom h k = k
  ask_kept Damaged h k = k
  ask_kept (Follow p f l) h k = put_kept _ _ (λ j l. omega arith) (put_kept _ _ (λ j l. omega arith) k)
  ask_kept (Ready p f m) h k = put_kept _ _ (λ j l. omega arith) (put_kept _ _ (λ j l. omega arith) (put_kept _ _ (λ j l. omega arith) k))
  ask_kept (Last p f) h k = leave_kept _ _ _ (λ j l. omega arith) (put_kept _ _ (λ j l. omega arith) (put_kept _ _ (λ j l. omega arith) k))
  ask_kept (Again a p f l) h k =
      put_kept _ _ (λ j l. omega arith) (listed_kept (Freed a) p h k)
  ask_kept (Anew s p) h k =
      put_kept _ _ (λ j l. omega arith) (put_kept _ _ (λ j l. omega arith) (put_kept _ _ (λ j l. omega arith) (put_kept _ _ (λ j l. omega arith)
      (listed_kept s p h k))))

-- ---- a give-back of a block of class c
module _ (al A P c p f : ℕ) (few : c ≤ 63) {b : List ℕ} where
  take_back_kept : (h : Heap) → Kept b h.books → Kept b (take_back al A P c p f h).books
  take_back_kept h k = put_kept _ _ (λ j l. omega arith) (put_kept _ _ (λ j l. omega arith) k)

  empty_kept : (h : Heap) → Kept b h.books → Kept b (empty al A P c p f h).books
  empty_kept h k =
      put_kept _ _ (λ j l. omega arith) (put_kept _ _ (λ j l. omega arith) (put_kept _ _ (λ j l. omega arith) (put_kept _ _ (λ j l. omega arith)
      (leave_kept _ _ _ (λ j l. omega arith) k))))

  -- the block is taken back and its pool is emptied
  emptied_kept : (h : Heap) → Kept b h.books → Kept b (empty al A P c p f (take_back al A P c p f h)).books
  emptied_kept h k = empty_kept (take_back al A P c p f h) (take_back_kept h k)

  release_kept : (a : ℕ) (h : Heap) → Kept b h.books → Kept b (release al A P c p f a h).books
  release_kept a h k =
      join_kept _ _ _ (λ j l. omega arith) (sets_kept (arena_word 0 a) (replicate 8 0) (λ j l. inl (omega arith)) (leave_kept _ _ _ (λ j l. omega arith) k))

  back_kept : (q : BackPlan) (h : Heap) → Kept b h.books → Kept b (after_back al A P c p f q h).books
  unfolding after_back
  back_kept Broken h k = k
  back_kept Joins h k = join_kept _ _ _ (λ j l. omega arith) (take_back_kept h k)
  back_kept Stays h k = take_back_kept h k
  back_kept Empties h k = emptied_kept h k
  back_kept (Moves q) h k = go_in_kept _ _ _ (λ j l. omega arith) (leave_kept _ _ _ (λ j l. omega arith) (emptied_kept h k))
  back_kept Returns h k = join_kept _ _ _ (λ j l. omega arith) (emptied_kept h k)
  back_kept Releases h k = release_kept (p / P) (empty al A P c p f (take_back al A P c p f h)) (emptied_kept h k)

-- ---- the calls, over a heap whose books were b: what each leaves has the words of b
-- a call that a test refuses changes nothing; the others have passed every test
tested : {b : List ℕ} (n : ℕ) (h : Heap) (x : Outcome) → Kept b h.books → (n ≡ 0 → Kept b x.heap.books)
    → Kept b (passing n (λ k. refused k h) x).heap.books
tested zero h x k t = t refl
tested (suc n) h x k t = k

module _ {al : ℕ} (L : Aligned al) (A P : ℕ) {b : List ℕ} where
  ask_step_lem : (h : Heap) (n : ℕ) → n ≤ 512 → Kept b h.books → Kept b (ask_step al A P h n).heap.books
  unfolding ask_step
  ask_step_lem h n in_range_lem k =
      let few = class_low L (class_of al n) (has_class L n in_range_lem) in
      ask_kept al A P (class_of al n) (omega (arith, few)) _ h k

  back_step_lem : (h : Heap) (o : ℕ) → live_number al A P h.books h.map o ≡ 0 → Kept b h.books
      → Kept b (back_step al A P h o).heap.books
  unfolding back_step
  back_step_lem h o e k =
      let there = live_is L A P h.books h.map o (live_zero al A P h.books h.map o e) in
      let few = class_low L (class_at A h.books o) there.class in
      back_kept al A P (class_at A h.books o) _ _ (omega (arith, few)) _ h k

  give_old_lem : (h : Heap) (o : ℕ) → Kept b h.books → Kept b (give_old al A P h o).heap.books
  unfolding give_old
  give_old_lem h o k = tested _ h _ k (λ e. back_step_lem h o e k)

  half_done_lem : (new : ℕ) (r : Outcome) → Kept b r.heap.books → Kept b (half_done al A P new r).heap.books
  half_done_lem new r t = go r.answer.number
    where
      go : (n : ℕ) → Kept b (passing n (λ k. outcome (answer_of 6 new) r.heap) (done new r.heap)).heap.books
      go zero = t
      go (suc n) = t

  move : (o k : ℕ) (r : Outcome) → Kept b r.heap.books → Kept b (moved al A P o k r).heap.books
  unfolding moved
  move o k r t = go r.answer.number
    where
      back : Outcome
      back = give_old al A P (copy o r.answer.offset k r.heap) o

      go : (n : ℕ) → Kept b (passing n (λ number. r) (half_done al A P r.answer.offset back)).heap.books
      go zero = half_done_lem r.answer.offset back (give_old_lem (copy o r.answer.offset k r.heap) o t)
      go (suc n) = t

  resize_step_lem : (h : Heap) (o n : ℕ) → n ≤ 512 → Kept b h.books → Kept b (resize_step al A P h o n).heap.books
  unfolding resize_step
  resize_step_lem h o n in_range_lem k = go (keeps (size_at al A h.books o) n)
    where
      go : (t : Bool)
          → Kept b (if t then done o h
          else moved al A P o (min n (size_at al A h.books o)) (ask_step al A P h n)).heap.books
      go true = k
      go false = move o _ (ask_step al A P h n) (ask_step_lem h n in_range_lem k)

-- of any heap, damaged or not: none of words 0, 1 and 68 to 71 is written
module _ (h : Heap) where
  abbrev L : Aligned (alignment h)
  L = aligned (edition h)

  pub ask_keeps : (n : ℕ) → Kept h.books (ask h n).heap.books
  unfolding ask
  ask_keeps n =
      tested (in_order (shape_number h) (size_number n) 0 0) h (ask_step (alignment h) (arenas h) (pools h) h n) none_written
      (λ e. ask_step_lem L (arenas h) (pools h) h n (size_zero n (order_zero (shape_number h) (size_number n) 0 0 e).1).1 none_written)

  pub back_keeps : (o : ℕ) → Kept h.books (give_back h o).heap.books
  unfolding give_back
  back_keeps o =
      let dead = offset_number h o in
      tested (in_order (shape_number h) 0 dead 0) h (back_step (alignment h) (arenas h) (pools h) h o) none_written
      (λ e. back_step_lem L (arenas h) (pools h) h o (order_zero (shape_number h) 0 dead 0 e).2 none_written)

  pub resize_keeps : (o n : ℕ) → Kept h.books (resize h o n).heap.books
  unfolding resize
  resize_keeps o n =
      let dead = offset_number h o in
      tested (in_order (shape_number h) (size_number n) dead 0) h (resize_step (alignment h) (arenas h) (pools h) h o n) none_written
      (λ e. resize_step_lem L (arenas h) (pools h) h o n (size_zero n (order_zero (shape_number h) (size_number n) dead 0 e).1).1 none_written)
