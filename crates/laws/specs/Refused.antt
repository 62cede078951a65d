-- Demand 1, over any heap at all: a call that is refused changes nothing, but for the half-done resize; and which
-- calls never give 6. It holds because a test that fails answers its number over the heap as it was, and so does a
-- path that ends at a broken rule.
-- Assumes nothing.
use Rattle.std.specs.Prelude.{◌≡◌, ◌≢◌, ◌⊎◌, Bool, ◌&&◌, List, ltb, eqb, ℤ, length, if◌then◌else◌}
use Rattle.std.proofs.Math.Path.{refl}
use Rattle.std.proofs.Common.{sym, ap, ◌∙◌, inr, arith}
use Rattle.std.proofs.Math.Logic.{inl}
use Rattle.std.proofs.Math.Bool.{true, false}
use Prim.Native.Nat.{ℕ, zero, suc, ◌/◌, ◌≤◌, min}
use Rattle.rules.specs.declared.Sized.{Sized}
use Rattle.rules.specs.declared.AskPlan.{AskPlan}
use Rattle.rules.specs.declared.AskPlan.TheVariants.{NoRoom, Damaged, Follow, Ready, Last, Again, Anew}
use Rattle.rules.specs.declared.BackPlan.{BackPlan}
use Rattle.rules.specs.declared.BackPlan.TheVariants.{Damaged as Broken, Joins, Stays, Empties, Moves, Returns, Releases}
use Rattle.rules.specs.Books.{Heap, in_range, exact, arenas, pools, edition_word, edition, is_edition, alignment}
use Rattle.rules.specs.Blocks.{size_at, live, is_block, live_number}
use Rattle.rules.specs.Outcome.{Outcome, outcome, answer_of, done, refused, passing}
use Rattle.rules.specs.Ask.{ask_answer, after_ask, asked, ask_step}
use Rattle.rules.specs.GiveBack.{back_answer, after_back, given_back, back_step}
use Rattle.rules.specs.Resize.{keeps, copy, give_old, half_done, moved, resize_step}
use Rattle.rules.specs.Numbers.{
  RollOutcome,
  range_number,
  edition_number,
  length_number,
  reach_number,
  fit_number,
  shape_number,
  size_number,
  room_number,
  ◌before◌,
  in_order,
  offset_number,
  offset_tests,
  block_size,
  roll_of,
  roll_outcome,
  sized_of,
  format,
  ask,
  give_back,
  resize,
  view_size,
  write,
  roll_call,
}
use Rattle.rules.specs.Compare.{
  CompareOutcome,
  differences,
  classes,
  unequal_number,
  compare_outcome,
  compare_tests,
  compare,
}
use Rattle.books.specs.Tests.{either}

-- ---- a refusal leaves the heap h as it was
abbrev pub Unchanged : Heap → Outcome → Type 0
Unchanged h x = x.answer.number ≢ 0 → x ≡ refused x.answer.number h

-- what holds of every refusal over h, and of what comes after the tests
pub tested : (F : Outcome → Type 0) (h : Heap) (k : ℕ) (x : Outcome) → ((j : ℕ) → F (refused j h)) → (k ≡ 0 → F x)
    → F (passing k (λ j. refused j h) x)
tested F h zero x f g = g refl
tested F h (suc k) x f g = f (suc k)

after_tests : (h : Heap) (k : ℕ) (x : Outcome) → Unchanged h x → Unchanged h (passing k (λ j. refused j h) x)
after_tests h k x t = tested (Unchanged h) h k x (λ j _. refl) (λ _. t)

-- what is done is no refusal
was_done : {h : Heap} {x : Outcome} → x.answer.number ≡ 0 → Unchanged h x
was_done e n = absurd (n e)

ask_path : (al A P c : ℕ) (h : Heap) (q : AskPlan) → Unchanged h (asked al A P c h q)
unfolding ask_answer after_ask
ask_path al A P c h NoRoom = λ _. refl
ask_path al A P c h Damaged = λ _. refl
ask_path al A P c h (Follow p f l) = was_done refl
ask_path al A P c h (Ready p f m) = was_done refl
ask_path al A P c h (Last p f) = was_done refl
ask_path al A P c h (Again a p f l) = was_done refl
ask_path al A P c h (Anew s p) = was_done refl

back_path : (al A P c : ℕ) (h : Heap) (o : ℕ) (q : BackPlan) → Unchanged h (given_back al A P c h o q)
unfolding back_answer after_back
back_path al A P c h o Broken = λ _. refl
back_path al A P c h o Joins = was_done refl
back_path al A P c h o Stays = was_done refl
back_path al A P c h o Empties = was_done refl
back_path al A P c h o (Moves q) = was_done refl
back_path al A P c h o Returns = was_done refl
back_path al A P c h o Releases = was_done refl

ask_step_lem : (al A P : ℕ) (h : Heap) (n : ℕ) → Unchanged h (ask_step al A P h n)
unfolding ask_step
ask_step_lem al A P h n = ask_path al A P _ h _

back_step_lem : (al A P : ℕ) (h : Heap) (o : ℕ) → Unchanged h (back_step al A P h o)
unfolding back_step
back_step_lem al A P h o = back_path al A P _ h o _

-- a give-back that is not done met 5 or 10 at its live test, or 6 on its path
abbrev pub FiveTenOrSix : ℕ → Type 0
FiveTenOrSix k = (k ≡ 5) ⊎ (k ≡ 10) ⊎ (k ≡ 6)

path_six : (o : ℕ) (q : BackPlan) → (back_answer o q).number ≢ 0 → (back_answer o q).number ≡ 6
unfolding back_answer
path_six o Broken d = refl
path_six o Joins d = absurd (d refl)
path_six o Stays d = absurd (d refl)
path_six o Empties d = absurd (d refl)
path_six o (Moves q) d = absurd (d refl)
path_six o Returns d = absurd (d refl)
path_six o Releases d = absurd (d refl)

old_meets : (al A P : ℕ) (h : Heap) (o : ℕ)
    → (give_old al A P h o).answer.number ≢ 0 → FiveTenOrSix (give_old al A P h o).answer.number
unfolding give_old back_step live_number
old_meets al A P h o = go (live al A P h.books h.map o) (is_block al A P h.books o)
  where
    Q : ℕ → Type 0
    Q k = k ≢ 0 → FiveTenOrSix k

    go : (b u : Bool)
        → Q (passing (if b then 0 else if u then 10 else 5) (λ k. refused k h) (back_step al A P h o)).answer.number
    go false false d = inl refl
    go false true d = inr (inl refl)
    go true u d = inr (inr (path_six o _ d))

pub format_refused : (h : Heap) (A P e : ℕ) → Unchanged h (format h A P e)
unfolding format
format_refused h A P e = after_tests h (fit_number h A P e) _ (was_done refl)

module _ (h : Heap) where
  pub ask_refused : (n : ℕ) → Unchanged h (ask h n)
  unfolding ask
  ask_refused n = after_tests h (in_order (shape_number h) (size_number n) 0 0) _ (ask_step_lem (alignment h) (arenas h) (pools h) h n)

  pub back_refused : (o : ℕ) → Unchanged h (give_back h o)
  unfolding give_back
  back_refused o = after_tests h (offset_tests h o) _ (back_step_lem (alignment h) (arenas h) (pools h) h o)

  pub write_refused : (o : ℕ) (text : List ℕ) → Unchanged h (write h o text)
  unfolding write
  write_refused o text = after_tests h (in_order (shape_number h) 0 (offset_number h o) (room_number (length text) (block_size h o))) _ (was_done refl)

  -- roll call leaves the lent words
  pub roll_refused : (words : List ℕ) → (roll_call h words).answer.number ≢ 0
      → roll_call h words ≡ roll_outcome (roll_call h words).answer.number 0 words
  unfolding roll_call
  roll_refused words = go (in_order (shape_number h) 0 0 (room_number (length (roll_of h)) (length words))) _
    where
      Q : RollOutcome → Type 0
      Q x = x.answer.number ≢ 0 → x ≡ roll_outcome x.answer.number 0 words

      go : (k : ℕ) (v : List ℕ)
          → Q (passing k (λ j. roll_outcome j 0 words) (roll_outcome 0 (length (roll_of h) / 2) v))
      go zero v n = absurd (n refl)
      go (suc k) v n = refl

  -- ---- the half-done resize x of o to n: 6 with the new offset, and the ask and the copy stand, because the give-back
  -- over them meets 5, 10 or 6
  abbrev al : ℕ
  al = alignment h

  abbrev A : ℕ
  A = arenas h

  abbrev P : ℕ
  P = pools h

  pub record HalfDone (o n : ℕ) (x : Outcome) : Type 0 where
    pub handed_out : (ask_step al A P h n).answer.number ≡ 0
    pub answers : x.answer ≡ answer_of 6 (ask_step al A P h n).answer.offset
    pub stands : x.heap
        ≡ copy o (ask_step al A P h n).answer.offset (min n (size_at al A h.books o)) (ask_step al A P h n).heap
    pub meets : FiveTenOrSix (give_old al A P x.heap o).answer.number

  module _ (o n : ℕ) where
    -- what the ask leaves, and the copy; and the give-back that comes after them
    abbrev asked_new : Outcome
    asked_new = ask_step al A P h n

    abbrev copied : Heap
    copied = copy o asked_new.answer.offset (min n (size_at al A h.books o)) asked_new.heap

    abbrev back : Outcome
    back = give_old al A P copied o

    back_unchanged : Unchanged copied back
    unfolding give_old
    back_unchanged = after_tests copied (live_number al A P copied.books copied.map o) _ (back_step_lem al A P copied o)

    abbrev Fair : Outcome → Type 0
    Fair x = x.answer.number ≢ 0 → (x ≡ refused x.answer.number h) ⊎ HalfDone o n x

    by_back : asked_new.answer.number ≡ 0 → (i : ℕ) → back.answer.number ≡ i
        → Fair (passing i (λ k. outcome (answer_of 6 asked_new.answer.offset) back.heap)
        (done asked_new.answer.offset back.heap))
    by_back e zero f d = absurd (d refl)
    by_back e (suc i) f d =
        let not_done : back.answer.number ≢ 0 = λ z. absurd (omega (arith, f, z)) in
        let stands = ap (λ (x : Outcome). x.heap) (back_unchanged not_done) in
        inr (record { handed_out = e; answers = refl; stands = stands; meets = rw stands (old_meets al A P copied o not_done) })

    by_ask : (j : ℕ) → asked_new.answer.number ≡ j
        → Fair (passing j (λ number. asked_new) (half_done al A P asked_new.answer.offset back))
    by_ask zero e d = by_back e back.answer.number refl d
    by_ask (suc j) e d = inl (ask_step_lem al A P h n d)

    by_size : (t : Bool) → Fair (if t then done o h else moved al A P o (min n (size_at al A h.books o)) asked_new)
    unfolding moved
    by_size true d = absurd (d refl)
    by_size false d = by_ask asked_new.answer.number refl d

    by_tests_lem : (k : ℕ) → Fair (passing k (λ j. refused j h) (resize_step al A P h o n))
    unfolding resize_step
    by_tests_lem zero d = by_size (keeps (size_at al A h.books o) n) d
    by_tests_lem (suc k) d = inl refl

    -- a resize that is refused changed nothing, or is half done
    pub resize_refused : (resize h o n).answer.number ≢ 0
        → (resize h o n ≡ refused (resize h o n).answer.number h) ⊎ HalfDone o n (resize h o n)
    unfolding resize
    resize_refused = by_tests_lem (in_order (shape_number h) (size_number n) (offset_number h o) 0)

-- compare leaves the lent list and changes
pub compare_refused : (first second : Heap) (list : List ℕ) (lent : List ℤ)
    → (compare first second list lent).answer.number ≢ 0
    → compare first second list lent ≡ compare_outcome (compare first second list lent).answer.number 0 list lent
unfolding compare
compare_refused first second list lent = go (compare_tests first second (length list) (length lent)) _ _ _
  where
    Q : CompareOutcome → Type 0
    Q x = x.answer.number ≢ 0 → x ≡ compare_outcome x.answer.number 0 list lent

    go : (k n : ℕ) (listed : List ℕ) (changed : List ℤ)
        → Q (passing k (λ j. compare_outcome j 0 list lent) (compare_outcome 0 n listed changed))
    go zero n listed changed d = absurd (d refl)
    go (suc k) n listed changed d = refl

-- ---- format, view, write, roll call and compare never give 6: none of their tests does, and they take no step
not_six : (t : Bool) (x y : ℕ) → x ≢ 6 → y ≢ 6 → (if t then x else y) ≢ 6
not_six t x y u v = either (λ (n : ℕ). n ≢ 6) t x y (λ _. u) (λ _. v)

before_six : (j k : ℕ) → j ≢ 6 → k ≢ 6 → (j before k) ≢ 6
before_six zero k u v = v
before_six (suc j) k u v = u

range_six : (A P : ℕ) → range_number A P ≢ 6
unfolding range_number
range_six A P = not_six (in_range A P) 0 1 (omega arith) (omega arith)

edition_six : (e : ℕ) → edition_number e ≢ 6
unfolding edition_number
edition_six e = not_six (is_edition e) 0 1 (omega arith) (omega arith)

length_six : (h : Heap) (A P : ℕ) → length_number h A P ≢ 6
unfolding length_number
length_six h A P = not_six (exact A P h) 0 2 (omega arith) (omega arith)

fit_six : (h : Heap) (A P e : ℕ) → fit_number h A P e ≢ 6
unfolding fit_number
fit_six h A P e = before_six (range_number A P) _ (range_six A P) (before_six (edition_number e) _ (edition_six e) (length_six h A P))

-- 1 or 2, of a heap
pub shape_few : (h : Heap) → shape_number h ≤ 2
unfolding shape_number range_number edition_number length_number reach_number
shape_few h =
    before_few (reach_number h 1) _ (of_test (ltb 1 (length h.books)) 2 (omega arith))
    (before_few (range_number (arenas h) (pools h)) _ (of_test (in_range (arenas h) (pools h)) 1 (omega arith))
    (before_few (reach_number h edition_word) _ (of_test (ltb edition_word (length h.books)) 2 (omega arith))
    (before_few (edition_number (edition h)) _ (of_test (is_edition (edition h)) 1 (omega arith))
    (of_test (exact (arenas h) (pools h) h) 2 (omega arith)))))
  where
    of_test : (t : Bool) (k : ℕ) → k ≤ 2 → (if t then 0 else k) ≤ 2
    of_test true k l = omega arith
    of_test false k l = l

    before_few : (j k : ℕ) → j ≤ 2 → k ≤ 2 → (j before k) ≤ 2
    before_few zero k a b = b
    before_few (suc j) k a b = a

shape_six : (h : Heap) → shape_number h ≢ 6
shape_six h e = absurd (omega (arith, shape_few h, e))

live_six : (al A P : ℕ) (b m : List ℕ) (o : ℕ) → live_number al A P b m o ≢ 6
unfolding live_number
live_six al A P b m o = not_six (live al A P b m o) 0 _ (omega arith) (not_six (is_block al A P b o) 10 5 (omega arith) (omega arith))

room_six : (wanted room : ℕ) → room_number wanted room ≢ 6
unfolding room_number
room_six wanted room = not_six (ltb room wanted) 7 0 (omega arith) (omega arith)

-- the number of a call that answers its tests' number, or 0
module _ {X : Type 0} (number : X → ℕ) (refusal : ℕ → X)
    (is : (k : ℕ) → number (refusal k) ≡ k) (rest : X) (done_is : number rest ≡ 0) where
  call_six : (k : ℕ) → k ≢ 6 → number (passing k refusal rest) ≢ 6
  call_six zero d = λ e. absurd (omega (arith, e, done_is))
  call_six (suc k) d = λ e. d (sym (is (suc k)) ∙ e)

pub format_six : (h : Heap) (A P e : ℕ) → (format h A P e).answer.number ≢ 6
unfolding format
format_six h A P e = call_six (λ (x : Outcome). x.answer.number) (λ k. refused k h) (λ k. refl) _ refl (fit_number h A P e) (fit_six h A P e)

module _ (h : Heap) where
  offset_six : (o room : ℕ) → room ≢ 6 → in_order (shape_number h) 0 (offset_number h o) room ≢ 6
  offset_six o room d =
      before_six (shape_number h) _ (shape_six h) (before_six (offset_number h o) room (live_six (alignment h) (arenas h) (pools h) h.books h.map o) d)

  pub view_six : (o : ℕ) → (view_size h o).number ≢ 6
  unfolding view_size
  view_six o = call_six (λ (x : Sized). x.number) (λ k. sized_of k 0) (λ k. refl) _ refl _ (offset_six o 0 (omega arith))

  pub write_six : (o : ℕ) (text : List ℕ) → (write h o text).answer.number ≢ 6
  unfolding write
  write_six o text =
      call_six (λ (x : Outcome). x.answer.number) (λ k. refused k h) (λ k. refl) _ refl _ (offset_six o _ (room_six (length text) (block_size h o)))

  pub roll_six : (words : List ℕ) → (roll_call h words).answer.number ≢ 6
  unfolding roll_call
  roll_six words =
      call_six (λ (x : RollOutcome). x.answer.number) (λ k. roll_outcome k 0 words) (λ k. refl) _ refl _
      (before_six (shape_number h) _ (shape_six h) (room_six (length (roll_of h)) (length words)))

unequal_six : (first second : Heap) → unequal_number first second ≢ 6
unfolding unequal_number
unequal_six first second =
    not_six (eqb (arenas first) (arenas second) && eqb (pools first) (pools second) && eqb (edition first) (edition second)) 0 12
    (omega arith) (omega arith)

pub compare_six : (first second : Heap) (list : List ℕ) (lent : List ℤ)
    → (compare first second list lent).answer.number ≢ 6
unfolding compare
compare_six first second list lent =
    call_six (λ (x : CompareOutcome). x.answer.number) (λ k. compare_outcome k 0 list lent) (λ k. refl) _ refl _
    (before_six (shape_number first) _ (shape_six first)
    (before_six (shape_number second) _ (shape_six second)
    (before_six (unequal_number first second) _ (unequal_six first second)
    (before_six (room_number (length (differences first second)) (length list)) _ (room_six (length (differences first second)) (length list))
    (room_six (classes first) (length lent))))))
