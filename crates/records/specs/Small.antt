-- The number of a reply fits its byte, whatever the heap holds: ask, give back and resize answer none above 10.
-- Assumes nothing.
use Rattle.std.specs.Prelude.{◌&&◌, Bool, List, ℕ, zero, suc, ◌≤◌, min, leb, ltb, length, if◌then◌else◌}
use Rattle.std.proofs.Common.{arith}
use Rattle.std.proofs.Math.Bool.{true, false}
use Rattle.rules.specs.declared.AskPlan.{AskPlan}
use Rattle.rules.specs.declared.AskPlan.TheVariants.{NoRoom, Damaged, Follow, Ready, Last, Again, Anew}
use Rattle.rules.specs.declared.BackPlan.{BackPlan}
use Rattle.rules.specs.declared.BackPlan.TheVariants.{Damaged as Broken, Joins, Stays, Empties, Moves, Returns, Releases}
use Rattle.rules.specs.Books.{Heap, in_range, exact, arenas, pools, edition_word, edition, is_edition, alignment}
use Rattle.rules.specs.Blocks.{largest, size_at, live, is_block, dead_number, live_number}
use Rattle.rules.specs.Outcome.{Outcome, outcome, answer_of, done, refused, passing}
use Rattle.rules.specs.Ask.{ask_answer, ask_step}
use Rattle.rules.specs.GiveBack.{back_answer, back_step}
use Rattle.rules.specs.Resize.{keeps, copy, give_old, half_done, moved, resize_step}
use Rattle.rules.specs.Numbers.{
  range_number,
  edition_number,
  length_number,
  reach_number,
  shape_number,
  size_number,
  ◌before◌,
  in_order,
  offset_number,
  ask,
  give_back,
  resize,
}
use Rattle.books.specs.Tests.{either}

-- ---- the tests, and the answers of the paths
small : (t : Bool) (x y : ℕ) → x ≤ 10 → y ≤ 10 → (if t then x else y) ≤ 10
small t x y u v = either (λ (n : ℕ). n ≤ 10) t x y (λ _. u) (λ _. v)

before_small : (j k : ℕ) → j ≤ 10 → k ≤ 10 → (j before k) ≤ 10
before_small zero k u v = v
before_small (suc j) k u v = u

shape_small : (h : Heap) → shape_number h ≤ 10
unfolding shape_number range_number edition_number length_number reach_number
shape_small h =
    before_small (reach_number h 1) _ (small (ltb 1 (length h.books)) 0 2 (omega arith) (omega arith))
    (before_small (range_number (arenas h) (pools h)) _ (small (in_range (arenas h) (pools h)) 0 1 (omega arith) (omega arith))
    (before_small (reach_number h edition_word) _ (small (ltb edition_word (length h.books)) 0 2 (omega arith) (omega arith))
    (before_small (edition_number (edition h)) _ (small (is_edition (edition h)) 0 1 (omega arith) (omega arith))
    (small (exact (arenas h) (pools h) h) 0 2 (omega arith) (omega arith)))))

size_small : (n : ℕ) → size_number n ≤ 10
unfolding size_number
size_small n = small (leb 1 n && leb n largest) 0 3 (omega arith) (omega arith)

live_small : (al A P : ℕ) (b m : List ℕ) (o : ℕ) → live_number al A P b m o ≤ 10
unfolding live_number
live_small al A P b m o =
    small (live al A P b m o) 0 (dead_number al A P b o) (omega arith) (small (is_block al A P b o) 10 5 (omega arith) (omega arith))

order_small : (shape size offset room : ℕ) → shape ≤ 10 → size ≤ 10 → offset ≤ 10 → room ≤ 10
    → in_order shape size offset room ≤ 10
order_small shape size offset room t u v w =
    before_small shape _ t (before_small size _ u (before_small offset room v w))

ask_small : (q : AskPlan) → (ask_answer q).number ≤ 10
unfolding ask_answer
ask_small NoRoom = omega arith
ask_small Damaged = omega arith
ask_small (Follow p f l) = omega arith
ask_small (Ready p f m) = omega arith
ask_small (Last p f) = omega arith
ask_small (Again a p f l) = omega arith
ask_small (Anew s p) = omega arith

back_small : (o : ℕ) (q : BackPlan) → (back_answer o q).number ≤ 10
unfolding back_answer
back_small o Broken = omega arith
back_small o Joins = omega arith
back_small o Stays = omega arith
back_small o Empties = omega arith
back_small o (Moves q) = omega arith
back_small o Returns = omega arith
back_small o Releases = omega arith

-- ---- the calls
-- an outcome whose number is at most 10
abbrev pub Small : Outcome → Type 0
Small x = x.answer.number ≤ 10

tested : (n : ℕ) (h : Heap) (x : Outcome) → n ≤ 10 → Small x → Small (passing n (λ k. refused k h) x)
tested zero h x u t = t
tested (suc n) h x u t = u

module _ (al A P : ℕ) where
  ask_step_small : (h : Heap) (n : ℕ) → Small (ask_step al A P h n)
  unfolding ask_step
  ask_step_small h n = ask_small _

  back_step_small : (h : Heap) (o : ℕ) → Small (back_step al A P h o)
  unfolding back_step
  back_step_small h o = back_small o _

  give_old_small : (h : Heap) (o : ℕ) → Small (give_old al A P h o)
  unfolding give_old
  give_old_small h o = tested _ h _ (live_small al A P h.books h.map o) (back_step_small h o)

  half_done_small : (new : ℕ) (r : Outcome) → Small (half_done al A P new r)
  half_done_small new r = go r.answer.number
    where
      go : (n : ℕ) → Small (passing n (λ k. outcome (answer_of 6 new) r.heap) (done new r.heap))
      go zero = omega arith
      go (suc n) = omega arith

  moved_small : (o k : ℕ) (r : Outcome) → Small r → Small (moved al A P o k r)
  unfolding moved
  moved_small o k r t = go r.answer.number
    where
      back : Outcome
      back = give_old al A P (copy o r.answer.offset k r.heap) o

      go : (n : ℕ) → Small (passing n (λ number. r) (half_done al A P r.answer.offset back))
      go zero = half_done_small r.answer.offset back
      go (suc n) = t

  resize_step_small : (h : Heap) (o n : ℕ) → Small (resize_step al A P h o n)
  unfolding resize_step
  resize_step_small h o n = go (keeps (size_at al A h.books o) n)
    where
      go : (t : Bool)
          → Small (if t then done o h else moved al A P o (min n (size_at al A h.books o)) (ask_step al A P h n))
      go true = omega arith
      go false = moved_small o _ (ask_step al A P h n) (ask_step_small h n)

-- of any heap, damaged or not
module _ (h : Heap) where
  dead_small : (o : ℕ) → offset_number h o ≤ 10
  dead_small = live_small (alignment h) (arenas h) (pools h) h.books h.map

  pub ask_number : (n : ℕ) → Small (ask h n)
  unfolding ask
  ask_number n =
      tested (in_order (shape_number h) (size_number n) 0 0) h _
      (order_small (shape_number h) (size_number n) 0 0 (shape_small h) (size_small n) (omega arith) (omega arith))
      (ask_step_small (alignment h) (arenas h) (pools h) h n)

  pub back_number : (o : ℕ) → Small (give_back h o)
  unfolding give_back
  back_number o =
      tested (in_order (shape_number h) 0 (offset_number h o) 0) h _
      (order_small (shape_number h) 0 (offset_number h o) 0 (shape_small h) (omega arith) (dead_small o) (omega arith))
      (back_step_small (alignment h) (arenas h) (pools h) h o)

  pub resize_number : (o n : ℕ) → Small (resize h o n)
  unfolding resize
  resize_number o n =
      tested (in_order (shape_number h) (size_number n) (offset_number h o) 0) h _
      (order_small (shape_number h) (size_number n) (offset_number h o) 0 (shape_small h) (size_small n) (dead_small o)
      (omega arith))
      (resize_step_small (alignment h) (arenas h) (pools h) h o n)
