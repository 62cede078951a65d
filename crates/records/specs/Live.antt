-- The count of live blocks, carried from one call to the next: what an ask, a give-back and a resize make of it, on any
-- heap of the right shape, damaged or not.
-- Assumes nothing.
use Rattle.std.specs.Prelude.{◌≡◌, Bool, ◌&&◌, List, ◌⊎◌, ◌≢◌, eqb, if◌then◌else◌}
use Rattle.std.proofs.Math.Path.{refl, ap}
use Rattle.std.proofs.Common.{sym, ◌∙◌, inl, inr, div-lt_iff_lt-mul, arith}
use Rattle.std.proofs.Math.Bool.{true, false}
use Prim.Native.Nat.{ℕ, zero, suc, ◌+◌, ◌*◌, ◌-◌, ◌/◌, ◌%◌, ◌≤◌, ◌<◌, min}
use Rattle.std.proofs.Math.Decide.{ℕ_discrete}
use Rattle.std.proofs.Math.ListN.{length}
use borrow.Author.Tests.{eqb-true}
use Rattle.rules.specs.declared.Answer.{Answer}
use Rattle.rules.specs.declared.Source.{Source}
use Rattle.rules.specs.declared.Source.TheVariants.{Freed}
use Rattle.rules.specs.declared.AskPlan.{AskPlan}
use Rattle.rules.specs.declared.AskPlan.TheVariants.{NoRoom, Damaged, Follow, Ready, Last, Again, Anew}
use Rattle.rules.specs.declared.BackPlan.{BackPlan}
use Rattle.rules.specs.declared.BackPlan.TheVariants.{Damaged as Broken, Joins, Stays, Empties, Moves, Returns, Releases}
use Rattle.rules.specs.Books.{
  Heap,
  at,
  bit,
  put_bit,
  books_length,
  map_length,
  map_word,
  is_set,
  put_map_bit,
  arenas,
  pools,
  edition,
  alignment,
  class,
  pool,
  offset_of,
}
use Rattle.rules.specs.Blocks.{class_of, size_of, last_class, block_no, class_at, size_at, live_number}
use Rattle.rules.specs.Outcome.{Outcome, outcome, answer_of, done, refused, passing}
use Rattle.rules.specs.View.{roll}
use Rattle.rules.specs.Ask.{after_ask, ask_answer, asked, ask_step}
use Rattle.rules.specs.GiveBack.{after_back, back_answer, given_back, back_step}
use Rattle.rules.specs.Resize.{keeps, copy, give_old, half_done, moved, resize_step}
use Rattle.rules.specs.Numbers.{shape_number, size_number, in_order, ask, give_back, resize}
use Rattle.bits.specs.Bit.{no_bit, put_other}
use Rattle.bits.specs.Map.{length_put}
use Rattle.books.specs.Sizes.{Aligned, aligned, size_low, size_high, class_low, has_class}
use Rattle.books.specs.Known.{LiveBlock, size_zero, live_zero, live_is}
use Rattle.books.specs.Starts.{first_block}
use Rattle.books.specs.Tests.{both}
use Rattle.bits.specs.Map.{zeros, each_zero}
use Rattle.plans.specs.Range.{Range, ranged}
use Rattle.plans.specs.Fits.{FitsAsk, Spare, fits_ask}
use Rattle.records.specs.Calls.{Kept, ask_keeps, back_keeps, resize_keeps}
use Rattle.records.specs.Replies.{Whole, live_in, right_shape}
use Rattle.records.specs.OneMore.{OneMore, one_set, one_cleared, pool_longer, pool_begun, roll_longer}
use Rattle.records.specs.Classes.{Still, NotAnew, ask_still, listed_map, anew_class, back_still}

-- of pool p's eight words in the map k, the first is 1 and the others are 0: no block but its first is live
abbrev pub alone_in : List ℕ → ℕ → Bool
alone_in k p =
    eqb (at k (8 * p + 1)) 0
    && eqb (at k (8 * p + 2)) 0
    && eqb (at k (8 * p + 3)) 0
    && eqb (at k (8 * p + 4)) 0
    && eqb (at k (8 * p + 5)) 0
    && eqb (at k (8 * p + 6)) 0
    && eqb (at k (8 * p + 7)) 0
    && eqb (at k (8 * p)) 1

-- the block at o, which an ask has handed out, is not the first of its pool; or it is, and is alone there: so no
-- change of a pool's class made another block count, or cease to
abbrev pub Carries : List ℕ → ℕ → Type 0
Carries k o = (o % 4096 ≡ 48 → ⊥) ⊎ (alone_in k (o / 4096) ≡ true)

-- ---- `live` blocks before a call that answered a and left the books b and the map k
pub record AskCounts (live : ℕ) (a : Answer) (b k : List ℕ) : Type 0 where
  pub refused : (a.number ≡ 0 → ⊥) → live ≡ live_in b k
  pub done : a.number ≡ 0 → Carries k a.offset → live + 1 ≡ live_in b k

pub record BackCounts (live : ℕ) (a : Answer) (b k : List ℕ) : Type 0 where
  pub refused : (a.number ≡ 0 → ⊥) → live ≡ live_in b k
  pub done : a.number ≡ 0 → live ≡ live_in b k + 1

-- number 6 with an offset is the half-done resize
pub record ResizeCounts (live : ℕ) (a : Answer) (b k : List ℕ) : Type 0 where
  pub refused : (a.number ≡ 0 → ⊥) → (a.number ≡ 6 → a.offset ≡ 0) → live ≡ live_in b k
  pub done : a.number ≡ 0 → (a.offset % 4096 ≡ 48 → ⊥) → live ≡ live_in b k

-- ---- in a pool whose first block is alone no other block is live
module _ (k : List ℕ) (p : ℕ) (e : alone_in k p ≡ true) where
  abbrev later : ℕ → ℕ
  later i = at k (8 * p + suc i)

  seven : (zeros later 7 ≡ true) × (eqb (at k (8 * p)) 1 ≡ true)
  unfolding zeros
  seven = both _ (eqb (at k (8 * p)) 1) e

  alone_there : (j : ℕ) → 1 ≤ j → j < 512 → is_set k p j ≡ false
  unfolding bit put_bit
  alone_there j low high = go (ℕ_discrete (j / 64) 0)
    where
      go : Dec (j / 64 ≡ 0) → is_set k p j ≡ false
      go (yes z) =
          let w : at k (map_word p j) ≡ 1 = ap (at k) (omega arith) ∙ eqb-true (at k (8 * p)) 1 seven.1 in
          let d : bit 1 (j % 64) ≡ bit 0 (j % 64) = put_other 0 0 (j % 64) 1 (omega arith) (omega arith) in
          rw (w, d, no_bit (j % 64))
      go (no n) =
          let w : at k (map_word p j) ≡ 0 = ap (at k) (omega arith) ∙ each_zero later 7 seven.0 (j / 64 - 1) (omega arith) in
          rw (w, no_bit (j % 64))

-- ---- the steps, over a heap of A arenas of P pools, at the alignment al: the roll has two words for each live block
abbrev words : ℕ → ℕ → ℕ → Heap → ℕ
words al A P h = length (roll al A P h.books h.map)

record Asked (al A P : ℕ) (h : Heap) (x : Outcome) : Type 0 where
  refused : (x.answer.number ≡ 0 → ⊥) → words al A P x.heap ≡ words al A P h
  done : x.answer.number ≡ 0 → Carries x.heap.map x.answer.offset
      → words al A P x.heap ≡ words al A P h + 2
  place : x.answer.number ≡ 0 → 48 ≤ x.answer.offset
  map : length x.heap.map ≡ length h.map

record Given (al A P : ℕ) (h : Heap) (x : Outcome) : Type 0 where
  refused : (x.answer.number ≡ 0 → ⊥) → words al A P x.heap ≡ words al A P h
  done : x.answer.number ≡ 0 → words al A P h ≡ words al A P x.heap + 2

record Resized (al A P : ℕ) (h : Heap) (x : Outcome) : Type 0 where
  refused : (x.answer.number ≡ 0 → ⊥) → (x.answer.number ≡ 6 → x.answer.offset ≡ 0)
      → words al A P x.heap ≡ words al A P h
  done : x.answer.number ≡ 0 → (x.answer.offset % 4096 ≡ 48 → ⊥) → words al A P x.heap ≡ words al A P h

-- ---- an ask for class c
module _ {al : ℕ} (L : Aligned al) (A P c : ℕ) (h : Heap) (range : Range A P) (few : c ≤ last_class al)
    (books : length h.books ≡ books_length A P) (map : length h.map ≡ map_length A P) where
  long : 72 + 8 * A ≤ length h.books
  long = omega (arith, books)

  -- there is a head for the class
  headed : c ≤ 63
  headed = omega (arith, class_low L c few)

  -- the map when the block at f of pool p is handed out
  abbrev set : ℕ → ℕ → List ℕ
  set p f = put_map_bit p (block_no (size_of al c) f) 1 h.map

  one : (p f : ℕ) → Spare A P (size_of al c) h.map p f → OneMore p (block_no (size_of al c) f) h.map (set p f)
  one p f spare =
      one_set h.map p (block_no (size_of al c) f) (omega (arith, spare.start.few)) (omega (arith, spare.start.few, spare.there, map)) spare.clear

  -- the first block of a pool that had none live, and whose class is set to c
  begun : (p : ℕ) (b' : List ℕ) → Spare A P (size_of al c) h.map p 48 → pool A b' class p ≡ c
      → ((y : ℕ) → y ≢ p → Still A y h.books b')
      → alone_in (set p 48) p ≡ true → length (roll al A P b' (set p 48)) ≡ words al A P h + 2
  begun p b' spare its still e =
      let more = one p 48 spare in
      roll_longer al A L.low h.books b' h.map _ p _ more P spare.there
      (pool_begun al A L.low h.books b' h.map _ p _ more c (λ j l. clear more j l (ℕ_discrete j 0)) its few spare.start.number)
      (λ y d. (still y d).word _ refl)
    where
      block : block_no (size_of al c) 48 ≡ 0
      block = (first_block (size_of al c) (omega (arith, size_low L c few)) (omega (arith, size_high L c few))).1

      clear : OneMore p (block_no (size_of al c) 48) h.map (set p 48) → (j : ℕ) → j < 512 → Dec (j ≡ 0)
          → is_set h.map p j ≡ false
      clear more j l (yes z) = ap (is_set h.map p) (z ∙ sym block) ∙ spare.clear
      clear more j l (no d) = sym (more.others p j l (λ _ z. d (z ∙ block))) ∙ alone_there (set p 48) p e j (omega arith) l

  -- on a path that changes no pool's class, a block is handed out of a pool that is of class c
  handed : (q : AskPlan) (p f : ℕ) → FitsAsk A P (size_of al c) c h.books h.map q → ((y : ℕ) → NotAnew q y)
      → Spare A P (size_of al c) h.map p f → pool A h.books class p ≡ c
      → ask_answer q ≡ answer_of 0 (offset_of p f) → (after_ask al A P c q h).map ≡ set p f
      → Asked al A P h (asked al A P c h q)
  handed q p f t no_class_lem spare its answered left = record {
    refused = λ d. absurd (d (ap (λ (a : Answer). a.number) answered));
    place = λ _. omega (arith, ap (λ (a : Answer). a.offset) answered, spare.start.low);
    done = λ _ _.
        let more = one p f spare in
        let b' = (after_ask al A P c q h).books in
        ap (λ (k : List ℕ). length (roll al A P b' k)) left
        ∙ roll_longer al A L.low h.books b' h.map _ p _ more P spare.there
        (pool_longer al A L.low h.books b' h.map _ p _ more c its (same p ∙ its) few spare.start.number) (λ y _. same y);
    map = ap length left ∙ length_put h.map p _ 1;
  }
    where
      same : (y : ℕ) → pool A (after_ask al A P c q h).books class y ≡ pool A h.books class y
      same y = (ask_still al A P c range.pools_low headed h long q t y (no_class_lem y)).word _ refl

  -- on one that sets its pool anew, the pool's first
  anew : (s : Source) (p : ℕ) → FitsAsk A P (size_of al c) c h.books h.map (Anew s p)
      → Asked al A P h (asked al A P c h (Anew s p))
  unfolding ask_answer after_ask
  anew s p t = record {
    refused = λ d. absurd (d refl);
    done = λ _ carries. go carries;
    place = λ _. omega arith;
    map = ap length left ∙ length_put h.map p _ 1;
  }
    where
      after : Heap
      after = after_ask al A P c (Anew s p) h

      left : after.map ≡ set p 48
      left = ap (put_map_bit p (block_no (size_of al c) 48) 1) (listed_map al A P c h s p)

      place : offset_of p 48 / 4096 ≡ p
      place = omega arith

      go : Carries after.map (offset_of p 48) → words al A P after ≡ words al A P h + 2
      go (inl d) = absurd (d (omega arith))
      go (inr e) =
          ap (λ (k : List ℕ). length (roll al A P after.books k)) left
          ∙ begun p after.books t.1 (anew_class al A P c h s p t.1.there books)
          (λ y d. ask_still al A P c range.pools_low headed h long (Anew s p) t y d) (rw (left, place) at e)

  plan_asked : (q : AskPlan) → FitsAsk A P (size_of al c) c h.books h.map q → Asked al A P h (asked al A P c h q)
  unfolding ask_answer after_ask
  plan_asked NoRoom t = record {
    refused = λ _. refl;
    done = λ e. absurd (omega arith);
    place = λ e. absurd (omega arith);
    map = refl;
  }
  plan_asked Damaged t = record {
    refused = λ _. refl;
    done = λ e. absurd (omega arith);
    place = λ e. absurd (omega arith);
    map = refl;
  }
  plan_asked (Follow p f l) t = handed (Follow p f l) p f t (λ _. tt) t.0.spare t.0.class refl refl
  plan_asked (Ready p f m) t = handed (Ready p f m) p f t (λ _. tt) t.0.spare t.0.class refl refl
  plan_asked (Last p f) t = handed (Last p f) p f t (λ _. tt) t.0.spare t.0.class refl refl
  plan_asked (Again a p f l) t =
      handed (Again a p f l) p f t (λ _. tt) t.1 t.2 refl (ap (put_map_bit p (block_no (size_of al c) f) 1) (listed_map al A P c h (Freed a) p))
  plan_asked (Anew s p) t = anew s p t

-- ---- the steps of the calls
module _ {al : ℕ} (L : Aligned al) (A P : ℕ) (range : Range A P) where
  ask_step_lem : (h : Heap) (n : ℕ) → n ≤ 512 → length h.books ≡ books_length A P → length h.map ≡ map_length A P
      → Asked al A P h (ask_step al A P h n)
  unfolding ask_step
  ask_step_lem h n in_range_lem books map =
      let few = has_class L n in_range_lem in
      plan_asked L A P (class_of al n) h range few books map _
      (fits_ask al A P h (class_of al n) (size_low L (class_of al n) few) (omega (arith, range.pools_low)))

  module _ (h : Heap) (o : ℕ) (map : length h.map ≡ map_length A P) where
    -- every pool keeps its class on the path
    abbrev Classed : BackPlan → Type 0
    Classed q = (y : ℕ) → Still A y h.books (after_back al A P (class_at A h.books o) (o / 4096) (o % 4096) q h).books

    -- of a live block: on a path that is not refused, its bit is cleared and no pool's class changes
    taken_back_lem : LiveBlock al A P h.books h.map o → (q : BackPlan) → Classed q
        → let c = class_at A h.books o in
        (back_answer o q).number ≡ 0
        → (after_back al A P c (o / 4096) (o % 4096) q h).map
        ≡ put_map_bit (o / 4096) (block_no (size_of al c) (o % 4096)) 0 h.map
        → Given al A P h (given_back al A P c h o q)
    taken_back_lem t q still answered left = record {
      refused = λ d. absurd (d answered);
      done = λ _.
          let p = o / 4096 in
          let i = block_no (size_at al A h.books o) (o % 4096) in
          let more = one_cleared h.map p i (omega (arith, t.start.few)) (omega (arith, t.start.few, t.pool, map)) t.set in
          roll_longer al A L.low b' h.books _ h.map p i more P t.pool
          (pool_longer al A L.low b' h.books _ h.map p i more c (same p) refl t.class t.start.number) (λ y _. sym (same y))
          ∙ ap (λ (k : List ℕ). length (roll al A P b' k) + 2) (sym left);
    }
      where
        c : ℕ
        c = class_at A h.books o

        b' : List ℕ
        b' = (after_back al A P c (o / 4096) (o % 4096) q h).books

        same : (y : ℕ) → pool A b' class y ≡ pool A h.books class y
        same y = (still y).word _ refl

    plan_given : LiveBlock al A P h.books h.map o → (q : BackPlan) → Classed q
        → Given al A P h (given_back al A P (class_at A h.books o) h o q)
    unfolding back_answer after_back
    plan_given t Broken still = record { refused = λ _. refl; done = λ e. absurd (omega arith) }
    plan_given t Joins still = taken_back_lem t Joins still refl refl
    plan_given t Stays still = taken_back_lem t Stays still refl refl
    plan_given t Empties still = taken_back_lem t Empties still refl refl
    plan_given t (Moves q) still = taken_back_lem t (Moves q) still refl refl
    plan_given t Returns still = taken_back_lem t Returns still refl refl
    plan_given t Releases still = taken_back_lem t Releases still refl refl

    give_old_lem : Given al A P h (give_old al A P h o)
    unfolding give_old back_step
    give_old_lem = go (live_number al A P h.books h.map o) refl
      where
        go : (n : ℕ) → live_number al A P h.books h.map o ≡ n
            → Given al A P h (passing n (λ k. refused k h) (back_step al A P h o))
        go zero e =
            let t = live_is L A P h.books h.map o (live_zero al A P h.books h.map o e) in
            let home = (div-lt_iff_lt-mul {k = P} {x = o / 4096} {y = A} (omega (arith, range.pools_low))).1 t.pool in
            plan_given t _ (λ y. back_still al A P (class_at A h.books o) (o / 4096) (o % 4096) y
            (omega (arith, class_low L (class_at A h.books o) t.class)) home h)
        go (suc n) e = record { refused = λ _. refl; done = λ e. absurd (omega arith) }

  -- ---- a resize
  half_done_lem : (h : Heap) (new : ℕ) (g : Heap) (r : Outcome) → 48 ≤ new
      → ((new % 4096 ≡ 48 → ⊥) → words al A P g ≡ words al A P h + 2) → Given al A P g r
      → Resized al A P h (half_done al A P new r)
  half_done_lem h new g r place more t = go r.answer.number refl
    where
      go : (n : ℕ) → r.answer.number ≡ n
          → Resized al A P h (passing n (λ k. outcome (answer_of 6 new) r.heap) (done new r.heap))
      go zero e = record {
        refused = λ n. absurd (n refl);
        done = λ _ d. omega (arith, more d, t.done e);
      }
      go (suc n) e = record { refused = λ _ z. absurd (omega (arith, place, z refl)); done = λ e. absurd (omega arith) }

  move : (h : Heap) (o k : ℕ) (r : Outcome) → length h.map ≡ map_length A P → Asked al A P h r
      → Resized al A P h (moved al A P o k r)
  unfolding moved
  move h o k r map t = go r.answer.number refl
    where
      g : Heap
      g = copy o r.answer.offset k r.heap

      go : (n : ℕ) → r.answer.number ≡ n
          → Resized al A P h (passing n (λ number. r) (half_done al A P r.answer.offset (give_old al A P g o)))
      go zero e =
          half_done_lem h r.answer.offset g (give_old al A P g o) (t.place e) (λ d. t.done e (inl d)) (give_old_lem g o (t.map ∙ map))
      go (suc n) e = record { refused = λ d _. t.refused d; done = λ z. absurd (omega (arith, e)) }

  resize_step_lem : (h : Heap) (o n : ℕ) → n ≤ 512 → length h.books ≡ books_length A P → length h.map ≡ map_length A P
      → Resized al A P h (resize_step al A P h o n)
  unfolding resize_step
  resize_step_lem h o n in_range_lem books map = go (keeps (size_at al A h.books o) n)
    where
      go : (t : Bool)
          → Resized al A P h
          (if t then done o h else moved al A P o (min n (size_at al A h.books o)) (ask_step al A P h n))
      go true = record { refused = λ n. absurd (n refl); done = λ _ _. refl }
      go false = move h o _ (ask_step al A P h n) map (ask_step_lem h n in_range_lem books map)

-- ---- the calls
module _ (h : Heap) (whole : Whole h.memory h.books h.map) where
  abbrev al : ℕ
  al = alignment h

  abbrev A : ℕ
  A = arenas h

  abbrev P : ℕ
  P = pools h

  L : Aligned al
  L = aligned (edition h)

  range : Range A P
  range = ranged whole.0

  right : shape_number h ≡ 0
  right = right_shape h.memory h.books h.map whole

  asks : (n : ℕ) → Asked al A P h (ask h n)
  unfolding ask
  asks n = rw right (go (size_number n) refl)
    where
      go : (size : ℕ) → size_number n ≡ size
          → Asked al A P h (passing (in_order 0 size 0 0) (λ k. refused k h) (ask_step al A P h n))
      go zero e = ask_step_lem L A P range h n (size_zero n e).1 whole.0.books whole.0.map
      go (suc k) e = record {
        refused = λ _. refl;
        done = λ e. absurd (omega arith);
        place = λ e. absurd (omega arith);
        map = refl;
      }

  gives : (o : ℕ) → Given al A P h (give_back h o)
  unfolding give_back give_old
  gives o = rw right (go (live_number al A P h.books h.map o) (give_old_lem L A P range h o whole.0.map))
    where
      go : (n : ℕ) → Given al A P h (passing n (λ k. refused k h) (back_step al A P h o))
          → Given al A P h (passing (in_order 0 0 n 0) (λ k. refused k h) (back_step al A P h o))
      go zero t = t
      go (suc n) t = t

  resizes : (o n : ℕ) → Resized al A P h (resize h o n)
  unfolding resize
  resizes o n = rw right (go (size_number n) (live_number al A P h.books h.map o) refl)
    where
      go : (size dead : ℕ) → size_number n ≡ size
          → Resized al A P h (passing (in_order 0 size dead 0) (λ k. refused k h) (resize_step al A P h o n))
      go zero zero e = resize_step_lem L A P range h o n (size_zero n e).1 whole.0.books whole.0.map
      go zero (suc k) e = record { refused = λ _ _. refl; done = λ e. absurd (omega arith) }
      go (suc k) dead e = record { refused = λ _ _. refl; done = λ e. absurd (omega arith) }

-- the roll's words are two for each live block, where A, P and the edition are as before
half_the_words : (h g : Heap) → Kept h.books g.books
    → live_in g.books g.map ≡ words (alignment h) (arenas h) (pools h) g / 2
half_the_words h g kept =
    rw (kept.word 0 (omega arith), kept.word 1 (omega arith), kept.word 68 (omega arith))

pub ask_counts : (h : Heap) (n : ℕ) → Whole h.memory h.books h.map
    → let x = ask h n in AskCounts (live_in h.books h.map) x.answer x.heap.books x.heap.map
ask_counts h n whole =
    let t = asks h whole n in
    let now = half_the_words h (ask h n).heap (ask_keeps h n) in
    record { refused = λ d. omega (arith, now, t.refused d); done = λ e d. omega (arith, now, t.done e d) }

pub back_counts : (h : Heap) (o : ℕ) → Whole h.memory h.books h.map
    → let x = give_back h o in BackCounts (live_in h.books h.map) x.answer x.heap.books x.heap.map
back_counts h o whole =
    let t = gives h whole o in
    let now = half_the_words h (give_back h o).heap (back_keeps h o) in
    record { refused = λ d. omega (arith, now, t.refused d); done = λ e. omega (arith, now, t.done e) }

pub resize_counts : (h : Heap) (o n : ℕ) → Whole h.memory h.books h.map
    → let x = resize h o n in ResizeCounts (live_in h.books h.map) x.answer x.heap.books x.heap.map
resize_counts h o n whole =
    let t = resizes h whole o n in
    let now = half_the_words h (resize h o n).heap (resize_keeps h o n) in
    record { refused = λ d s. omega (arith, now, t.refused d s); done = λ e d. omega (arith, now, t.done e d) }

-- ---- in the code's words
-- the code's count, answer, books and map are those of the rules
pub in_code : (C : ℕ → Answer → List ℕ → List ℕ → Type 0) {live n : ℕ} {x y : Outcome} → live ≡ n → x ≡ y
    → C n y.answer y.heap.books y.heap.map → C live x.answer x.heap.books x.heap.map
in_code C e f t = rw (e, f) t
