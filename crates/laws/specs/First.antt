-- 01's "the first 48 bytes of each pool stay unused and are never written", over any heap at all. What a call writes
-- of memory lies in a block: a link at a block start that a rule has tested, a copy into the block that an ask hands
-- out, a text in a live block.
-- Assumes nothing.
use Rattle.std.specs.Prelude.{◌≡◌, Bool, ltb, length, take, drop, if◌then◌else◌}
use Rattle.std.proofs.Math.Path.{refl, ap}
use Rattle.std.proofs.Common.{◌∙◌, length-take, ltb-false}
use Rattle.std.proofs.Math.Bool.{true, false}
use mathlib.Core.List.{List}
use Prim.Native.Nat.{ℕ, zero, suc, ◌+◌, ◌/◌, ◌%◌, ◌≤◌, ◌<◌, min}
use Rattle.std.proofs.Math.Nat.{min-le_left}
use native.Mathlib.Omega.{arith}
use Rattle.std.proofs.lemmas.List.Edits.{sets}
use Rattle.rules.specs.declared.Source.{Source}
use Rattle.rules.specs.declared.Source.TheVariants.{Freed, Carved, Opened}
use Rattle.rules.specs.declared.AskPlan.{AskPlan}
use Rattle.rules.specs.declared.AskPlan.TheVariants.{NoRoom, Damaged, Follow, Ready, Last, Again, Anew}
use Rattle.rules.specs.declared.BackPlan.{BackPlan}
use Rattle.rules.specs.declared.BackPlan.TheVariants.{Damaged as Broken, Joins, Stays, Empties, Moves, Returns, Releases}
use Rattle.rules.specs.Books.{Heap, at, in_range, arenas, pools, edition, alignment, offset_of}
use Rattle.rules.specs.Blocks.{class_of, size_of, last_class, put_link, class_at, size_at, live, live_number}
use Rattle.rules.specs.Outcome.{Outcome, heap_of, outcome, answer_of, done, refused, passing}
use Rattle.rules.specs.Ask.{plan_ask, take_from, arena_of, spend, after_ask, ask_answer, ask_step}
use Rattle.rules.specs.GiveBack.{after_back, back_step}
use Rattle.rules.specs.Resize.{keeps, copy, give_old, half_done, moved, resize_step}
use Rattle.rules.specs.Numbers.{
  range_number,
  reach_number,
  fit_number,
  shape_number,
  size_number,
  room_number,
  in_order,
  offset_number,
  offset_tests,
  block_size,
  format,
  ask,
  give_back,
  resize,
  write,
}
use Rattle.books.specs.Known.{in_range_lem, size_zero, live_zero, live_is}
use Rattle.books.specs.Passing.{before_zero, order_zero}
use Rattle.books.specs.Sizes.{Aligned, aligned, size_low, size_high, has_class, class_fits}
use Rattle.plans.specs.Fits.{FitsAsk, fits_ask}
use Rattle.sound.specs.Bytes.{sets_off}
use Rattle.sound.specs.Chains.{first_outside, put_link_other}
use Rattle.sound.specs.Taken.{spend_is}
use Rattle.laws.specs.Refused.{tested}

-- memory m' has the first bytes of m's pools
abbrev pub First : List ℕ → List ℕ → Type 0
First m m' = (i : ℕ) → i % 4096 < 48 → at m' i ≡ at m i

through : (m m' m'' : List ℕ) → First m m' → First m' m'' → First m m''
through m m' m'' f g i l = g i l ∙ f i l

-- ---- bytes in a block that begins at f in pool p
link_first : (m : List ℕ) (v p f : ℕ) → 48 ≤ f → f + 8 ≤ 4096 → First m (put_link (offset_of p f) v m)
link_first m v p f low high i l = put_link_other m (offset_of p f) v i (first_outside p f 4 i low (omega arith) l)

text_first : (m text : List ℕ) (p f : ℕ) → 48 ≤ f → f + length text ≤ 4096 → First m (sets m (offset_of p f) text)
text_first m text p f low high i l = sets_off m (offset_of p f) text i (first_outside p f (length text) i low high l)

-- ---- an ask
-- taking a pool writes no memory
take_memory : (al A P c : ℕ) (s : Source) (p : ℕ) (h : Heap) → (take_from al A P c s p h).memory ≡ h.memory
unfolding take_from
take_memory al A P c (Freed a) p h = refl
take_memory al A P c (Carved a) p h = refl
take_memory al A P c (Opened a) p h = refl

given_memory : (al A P c a : ℕ) (s : Source) (p : ℕ) (h : Heap)
    → (spend al A P c a (take_from al A P c s p h)).memory ≡ h.memory
given_memory al A P c a s p h = ap (λ (x : Heap). x.memory) (spend_is al A P c a (take_from al A P c s p h)) ∙ take_memory al A P c s p h

-- where a block of n bytes or more is handed out
pub record Placed (n o : ℕ) : Type 0 where
  pub pool : ℕ
  pub start : ℕ
  pub place : o ≡ offset_of pool start
  pub low : 48 ≤ start
  pub ends : start + n ≤ 4096

module _ {al : ℕ} (L : Aligned al) (A P c : ℕ) (lc : c ≤ last_class al) (h : Heap) where
  ask_path : (q : AskPlan) → FitsAsk A P (size_of al c) c h.books h.map q
      → First h.memory (after_ask al A P c q h).memory
  unfolding after_ask
  ask_path NoRoom t = λ i l. refl
  ask_path Damaged t = λ i l. refl
  ask_path (Follow p f k) t = λ i l. refl
  ask_path (Ready p f m) t = link_first h.memory 0 p m t.2.low (omega (arith, t.2.ends, size_low L c lc))
  ask_path (Last p f) t = λ i l. refl
  ask_path (Again a p f k) t = λ i l. ap (λ (x : List ℕ). at x i) (given_memory al A P c a (Freed a) p h)
  ask_path (Anew s p) t =
      λ i l.
      ap (λ (x : List ℕ). at (put_link (offset_of p (48 + size_of al c)) 0 x) i) (given_memory al A P c (arena_of al A P c s) s p h)
      ∙ link_first h.memory 0 p (48 + size_of al c) (omega arith) (omega (arith, size_high L c lc)) i l

  ask_place : (q : AskPlan) → FitsAsk A P (size_of al c) c h.books h.map q → (ask_answer q).number ≡ 0
      → Placed (size_of al c) (ask_answer q).offset
  unfolding ask_answer
  ask_place NoRoom t z = absurd (omega arith)
  ask_place Damaged t z = absurd (omega arith)
  ask_place (Follow p f k) t z = record { pool = p; start = f; place = refl; low = t.0.spare.start.low; ends = t.0.spare.start.ends }
  ask_place (Ready p f m) t z = record { pool = p; start = f; place = refl; low = t.0.spare.start.low; ends = t.0.spare.start.ends }
  ask_place (Last p f) t z = record { pool = p; start = f; place = refl; low = t.0.spare.start.low; ends = t.0.spare.start.ends }
  ask_place (Again a p f k) t z = record { pool = p; start = f; place = refl; low = t.1.start.low; ends = t.1.start.ends }
  ask_place (Anew s p) t z = record { pool = p; start = 48; place = refl; low = omega arith; ends = omega (arith, size_high L c lc) }

-- ---- the tests have passed
range_some : (A P : ℕ) → range_number A P ≡ 0 → 1 ≤ P
unfolding range_number
range_some A P = go (in_range A P) refl
  where
    go : (t : Bool) → in_range A P ≡ t → ◌≡◌ {A = ℕ} (if t then 0 else 1) 0 → 1 ≤ P
    go true e z = omega (arith, (in_range_lem A P e).2)
    go false e z = absurd (omega arith)

pools_some : (h : Heap) → shape_number h ≡ 0 → 1 ≤ pools h
unfolding shape_number
pools_some h z =
    let t = before_zero (reach_number h 1) _ z in
    range_some (arenas h) (pools h) (before_zero (range_number (arenas h) (pools h)) _ t.1).0

room_zero : (wanted room : ℕ) → room_number wanted room ≡ 0 → wanted ≤ room
unfolding room_number
room_zero wanted room = go (ltb room wanted) refl
  where
    go : (t : Bool) → ltb room wanted ≡ t → ◌≡◌ {A = ℕ} (if t then 7 else 0) 0 → wanted ≤ room
    go true e z = absurd (omega arith)
    go false e z = ltb-false room wanted e

-- ---- a give-back of offset o
module _ {al : ℕ} (L : Aligned al) (A P : ℕ) (h : Heap) (o : ℕ) where
  back_path : (c : ℕ) (q : BackPlan) → 48 ≤ o % 4096 → o % 4096 + 8 ≤ 4096
      → First h.memory (after_back al A P c (o / 4096) (o % 4096) q h).memory
  unfolding after_back
  back_path c Broken low high = λ i l. refl
  back_path c Joins low high = link_first h.memory _ (o / 4096) (o % 4096) low high
  back_path c Stays low high = link_first h.memory _ (o / 4096) (o % 4096) low high
  back_path c Empties low high = link_first h.memory _ (o / 4096) (o % 4096) low high
  back_path c (Moves q) low high = link_first h.memory _ (o / 4096) (o % 4096) low high
  back_path c Returns low high = link_first h.memory _ (o / 4096) (o % 4096) low high
  back_path c Releases low high = link_first h.memory _ (o / 4096) (o % 4096) low high

  back_live : live al A P h.books h.map o ≡ true → First h.memory (back_step al A P h o).heap.memory
  unfolding back_step
  back_live e =
      let t = live_is L A P h.books h.map o e in
      back_path (class_at A h.books o) _ t.start.low (omega (arith, t.start.ends, size_low L (class_at A h.books o) t.class))

  give_old_first : First h.memory (give_old al A P h o).heap.memory
  unfolding give_old
  give_old_first =
      tested (λ (x : Outcome). First h.memory x.heap.memory) h (live_number al A P h.books h.map o) (back_step al A P h o)
      (λ j i l. refl) (λ z. back_live (live_zero al A P h.books h.map o z))

-- ---- an ask and a resize for n bytes
half_heap : (al A P new : ℕ) (x : Outcome) → (half_done al A P new x).heap ≡ x.heap
half_heap al A P new x = go x.answer.number
  where
    go : (k : ℕ) → (passing k (λ j. outcome (answer_of 6 new) x.heap) (done new x.heap)).heap ≡ x.heap
    go zero = refl
    go (suc k) = refl

module _ {al : ℕ} (L : Aligned al) (A P : ℕ) (some : 1 ≤ P) (h : Heap) (n : ℕ) (hi : n ≤ 512) where
  abbrev c : ℕ
  c = class_of al n

  fits : FitsAsk A P (size_of al c) c h.books h.map (plan_ask al A P h c)
  fits = fits_ask al A P h c (size_low L c (has_class L n hi)) some

  step_first : First h.memory (ask_step al A P h n).heap.memory
  unfolding ask_step
  step_first = ask_path L A P c (has_class L n hi) h (plan_ask al A P h c) fits

  step_place : (ask_step al A P h n).answer.number ≡ 0 → Placed (size_of al c) (ask_step al A P h n).answer.offset
  unfolding ask_step
  step_place z = ask_place L A P c (has_class L n hi) h (plan_ask al A P h c) fits z

  copy_first : (o k : ℕ) → k ≤ n → (new : ℕ) → Placed (size_of al c) new → (g : Heap)
      → First g.memory (copy o new k g).memory
  copy_first o k l new t g =
      rw t.place
      (text_first g.memory (take k (drop o g.memory)) t.pool t.start t.low
      (omega (arith, t.ends, class_fits L n, l, length-take k (drop o g.memory), min-le_left k (length (drop o g.memory)))))

  -- what the ask leaves
  abbrev got : Outcome
  got = ask_step al A P h n

  abbrev copied : ℕ → ℕ → Heap
  copied o k = copy o got.answer.offset k got.heap

  move_first : (o k : ℕ) → k ≤ n → First h.memory (moved al A P o k got).heap.memory
  unfolding moved
  move_first o k l = go got.answer.number refl
    where
      go : (j : ℕ) → got.answer.number ≡ j
          → First h.memory (passing j (λ number. got)
          (half_done al A P got.answer.offset (give_old al A P (copied o k) o))).heap.memory
      go (suc j) e = step_first
      go zero e =
          rw (half_heap al A P got.answer.offset (give_old al A P (copied o k) o))
          (through h.memory got.heap.memory (give_old al A P (copied o k) o).heap.memory step_first
          (through got.heap.memory (copied o k).memory (give_old al A P (copied o k) o).heap.memory
          (copy_first o k l got.answer.offset (step_place e) got.heap) (give_old_first L A P (copied o k) o)))

  resize_step_first : (o : ℕ) → First h.memory (resize_step al A P h o n).heap.memory
  unfolding resize_step
  resize_step_first o = go (keeps (size_at al A h.books o) n)
    where
      go : (t : Bool)
          → First h.memory (if t then done o h
          else moved al A P o (min n (size_at al A h.books o)) (ask_step al A P h n)).heap.memory
      go true = λ i l. refl
      go false = move_first o (min n (size_at al A h.books o)) (min-le_left n (size_at al A h.books o))

-- ---- the calls, on any heap
pub format_first : (h : Heap) (A P e : ℕ) → First h.memory (format h A P e).heap.memory
unfolding format
format_first h A P e = go (fit_number h A P e) _ _
  where
    go : (k : ℕ) (b m : List ℕ)
        → First h.memory (passing k (λ j. refused j h) (done 0 (heap_of h.memory b m))).heap.memory
    go zero b m = λ i l. refl
    go (suc k) b m = λ i l. refl

module _ (h : Heap) where
  L : Aligned (alignment h)
  L = aligned (edition h)

  -- a refusal, or what comes after the tests
  after_tests : (k : ℕ) (x : Outcome) → (k ≡ 0 → First h.memory x.heap.memory)
      → First h.memory (passing k (λ j. refused j h) x).heap.memory
  after_tests k x = tested (λ (y : Outcome). First h.memory y.heap.memory) h k x (λ j i l. refl)

  pub ask_first : (n : ℕ) → First h.memory (ask h n).heap.memory
  unfolding ask
  ask_first n =
      after_tests (in_order (shape_number h) (size_number n) 0 0) (ask_step (alignment h) (arenas h) (pools h) h n)
      (λ e.
      let t = order_zero (shape_number h) (size_number n) 0 0 e in
      step_first L (arenas h) (pools h) (pools_some h t.0) h n (size_zero n t.1).1)

  pub back_first : (o : ℕ) → First h.memory (give_back h o).heap.memory
  unfolding give_back
  back_first o =
      after_tests (offset_tests h o) (back_step (alignment h) (arenas h) (pools h) h o)
      (λ e.
      let t = order_zero (shape_number h) 0 (offset_number h o) 0 e in
      back_live L (arenas h) (pools h) h o (live_zero (alignment h) (arenas h) (pools h) h.books h.map o t.2))

  pub resize_first : (o n : ℕ) → First h.memory (resize h o n).heap.memory
  unfolding resize
  resize_first o n =
      after_tests (in_order (shape_number h) (size_number n) (offset_number h o) 0) (resize_step (alignment h) (arenas h) (pools h) h o n)
      (λ e.
      let t = order_zero (shape_number h) (size_number n) (offset_number h o) 0 e in
      resize_step_first L (arenas h) (pools h) (pools_some h t.0) h n (size_zero n t.1).1 o)

  pub write_first : (o : ℕ) (text : List ℕ) → First h.memory (write h o text).heap.memory
  unfolding write
  write_first o text =
      after_tests (in_order (shape_number h) 0 (offset_number h o) (room_number (length text) (block_size h o))) _
      (λ e.
      let t = order_zero (shape_number h) 0 (offset_number h o) (room_number (length text) (block_size h o)) e in
      let b = live_is L (arenas h) (pools h) h.books h.map o (live_zero (alignment h) (arenas h) (pools h) h.books h.map o t.2) in
      let place : o ≡ offset_of (o / 4096) (o % 4096) = omega arith in
      λ i l. ap (λ (x : ℕ). at (sets h.memory x text) i) place
      ∙ text_first h.memory text (o / 4096) (o % 4096) b.start.low
      (omega (arith, b.start.ends, room_zero (length text) (block_size h o) t.3)) i l)
