-- Each promise determines its call: any two outcomes that it allows, of one heap and the same arguments, are equal in
-- answer and in every byte and word; and so are the results that the calls of crate heap give, since no two results are
-- one answer (`Refusals` of crate books).
-- Assumes nothing.
use Rattle.std.specs.Prelude.{◌≡◌, List, ℕ, Result, ⊤}
use Rattle.std.proofs.Common.{sym, ap, ap₂, ◌∙◌}
use Rattle.rules.specs.declared.Answer.{Answer}
use Rattle.rules.specs.declared.Sized.{Sized}
use Rattle.rules.specs.declared.Rolled.{Rolled}
use Rattle.rules.specs.Books.{Heap}
use Rattle.rules.specs.Outcome.{Outcome, outcome}
use Rattle.rules.specs.Numbers.{RollOutcome, format, ask, give_back, resize, write}
use Rattle.rules.specs.Promises.{
  FormatPromise,
  AskPromise,
  GiveBackPromise,
  ResizePromise,
  ViewPromise,
  ViewPlace,
  ViewSizePromise,
  StandInPromise,
  StandInPlace,
  WritePromise,
  RollCallPromise,
}
use Rattle.books.specs.declared.refusal.Refusal.{Refusal}
use Rattle.books.specs.Refusals.{
  done_in,
  answer_in,
  sized_in,
  rolled_in,
  same_done,
  same_answer,
  same_sized,
  same_rolled,
}
use Rattle.steps.specs.declared.resize.ResizeRefusal.{ResizeRefusal}
use Rattle.steps.specs.Moved.{moved_in, IsMoved, same_moved}

-- two outcomes that a rule allows
one : (x : Outcome) (r s : Answer) (g k : Heap) → outcome r g ≡ x → outcome s k ≡ x → (r ≡ s) × (g ≡ k)
one x r s g k e f = let t = e ∙ sym f in (ap (λ (o : Outcome). o.answer) t, ap (λ (o : Outcome). o.heap) t)

-- h is the heap that the call finds; g and k are what two runs of it leave, r and s what they answer
module _ (h g k : Heap) where
  module _ (r s : Answer) where
    pub format_one : (A P edition : ℕ) → FormatPromise h g A P edition r → FormatPromise h k A P edition s
        → (r ≡ s) × (g ≡ k)
    format_one A P edition = one (format h A P edition) r s g k

    pub ask_one : (n : ℕ) → AskPromise h g n r → AskPromise h k n s → (r ≡ s) × (g ≡ k)
    ask_one n = one (ask h n) r s g k

    pub give_back_one : (o : ℕ) → GiveBackPromise h g o r → GiveBackPromise h k o s → (r ≡ s) × (g ≡ k)
    give_back_one o = one (give_back h o) r s g k

    pub resize_one : (o n : ℕ) → ResizePromise h g o n r → ResizePromise h k o n s → (r ≡ s) × (g ≡ k)
    resize_one o n = one (resize h o n) r s g k

    pub write_one : (o : ℕ) (text : List ℕ) → WritePromise h g o text r → WritePromise h k o text s → (r ≡ s) × (g ≡ k)
    write_one o text = one (write h o text) r s g k

  -- view's part: its bytes, and its place, `memory` being where memory lies
  pub view_one : (o : ℕ) (memory : ℕ × ℕ) (part other : List ℕ) (at to : ℕ × ℕ)
      → ViewPromise h g o part × ViewPlace h o memory at
      → ViewPromise h k o other × ViewPlace h o memory to
      → (part ≡ other) × (at ≡ to) × (g ≡ k)
  view_one o memory part other at to e f =
      let t = e.0 ∙ sym f.0 in (
        ap (λ (x : List ℕ × Heap). x.0) t,
        ap₂ (λ (x y : ℕ). (x, y)) (e.1.0 ∙ sym f.1.0) (e.1.1 ∙ sym f.1.1),
        ap (λ (x : List ℕ × Heap). x.1) t,
      )

  pub view_size_one : (o : ℕ) (r s : Sized) → ViewSizePromise h g o r → ViewSizePromise h k o s → (r ≡ s) × (g ≡ k)
  view_size_one o r s e f =
      let t = e ∙ sym f in
      (ap (λ (x : Sized × Heap). x.0) t, ap (λ (x : Sized × Heap). x.1) t)

  -- the stand-in: its bytes, the phrase that it leaves, and its place, `memory` and `lent` being where memory and the
  -- phrase lie
  pub stand_in_one : (o : ℕ) (phrase : List ℕ) (memory lent : ℕ × ℕ) (part other kept left : List ℕ) (at to : ℕ × ℕ)
      → StandInPromise h g o phrase kept part × StandInPlace h o memory lent at
      → StandInPromise h k o phrase left other × StandInPlace h o memory lent to
      → (part ≡ other) × (kept ≡ left) × (at ≡ to) × (g ≡ k)
  stand_in_one o phrase memory lent part other kept left at to e f =
      let t = e.0 ∙ sym f.0 in (
        ap (λ (x : List ℕ × (List ℕ × Heap)). x.0) t,
        ap (λ (x : List ℕ × (List ℕ × Heap)). x.1.0) t,
        e.1 ∙ sym f.1,
        ap (λ (x : List ℕ × (List ℕ × Heap)). x.1.1) t,
      )

  -- and the roll words that it leaves
  pub roll_call_one : (w u v : List ℕ) (r s : Rolled)
      → RollCallPromise h g w u r → RollCallPromise h k w v s → (r ≡ s) × (u ≡ v) × (g ≡ k)
  roll_call_one w u v r s e f =
      let t = e ∙ sym f in (
        ap (λ (x : RollOutcome × Heap). x.0.answer) t,
        ap (λ (x : RollOutcome × Heap). x.0.words) t,
        ap (λ (x : RollOutcome × Heap). x.1) t,
      )

-- ---- the results, r and s of each call
module _ (h g k : Heap) where
  pub format_result_one : (r s : Result ⊤ Refusal) (A P edition : ℕ)
      → FormatPromise h g A P edition (done_in r) → FormatPromise h k A P edition (done_in s) → (r ≡ s) × (g ≡ k)
  format_result_one r s A P edition e f =
      let t = format_one h g k (done_in r) (done_in s) A P edition e f in (same_done r s t.0, t.1)

  module _ (r s : Result ℕ Refusal) where
    both : (answer_in r ≡ answer_in s) × (g ≡ k) → (r ≡ s) × (g ≡ k)
    both t = (same_answer r s t.0, t.1)

    pub ask_result_one : (n : ℕ) → AskPromise h g n (answer_in r) → AskPromise h k n (answer_in s) → (r ≡ s) × (g ≡ k)
    ask_result_one n e f = both (ask_one h g k (answer_in r) (answer_in s) n e f)

    pub give_back_result_one : (o : ℕ)
        → GiveBackPromise h g o (answer_in r) → GiveBackPromise h k o (answer_in s) → (r ≡ s) × (g ≡ k)
    give_back_result_one o e f = both (give_back_one h g k (answer_in r) (answer_in s) o e f)

    pub write_result_one : (o : ℕ) (text : List ℕ)
        → WritePromise h g o text (answer_in r) → WritePromise h k o text (answer_in s) → (r ≡ s) × (g ≡ k)
    write_result_one o text e f = both (write_one h g k (answer_in r) (answer_in s) o text e f)

    pub view_size_result_one : (o : ℕ)
        → ViewSizePromise h g o (sized_in r) → ViewSizePromise h k o (sized_in s) → (r ≡ s) × (g ≡ k)
    view_size_result_one o e f = let t = view_size_one h g k o (sized_in r) (sized_in s) e f in (same_sized r s t.0, t.1)

    pub roll_call_result_one : (w u v : List ℕ)
        → RollCallPromise h g w u (rolled_in r) → RollCallPromise h k w v (rolled_in s) → (r ≡ s) × (u ≡ v) × (g ≡ k)
    roll_call_result_one w u v e f =
        let t = roll_call_one h g k w u v (rolled_in r) (rolled_in s) e f in (same_rolled r s t.0, t.1, t.2)

  -- resize's, of which the half-done one has the offset of a block
  pub resize_result_one : (r s : Result ℕ ResizeRefusal) (o n : ℕ)
      → ResizePromise h g o n (moved_in r) × IsMoved r → ResizePromise h k o n (moved_in s) × IsMoved s
      → (r ≡ s) × (g ≡ k)
  resize_result_one r s o n e f =
      let t = resize_one h g k (moved_in r) (moved_in s) o n e.0 f.0 in (same_moved r s e.1 f.1 t.0, t.1)
