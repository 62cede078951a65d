-- Each promise determines its call: any two answers that it allows are equal, and so is every byte and word beside
-- them.
-- Assumes nothing.
use Rattle.std.specs.Prelude.{◌≡◌, List, ℕ, ℤ}
use Rattle.std.proofs.Common.{ap}
use Rattle.rules.specs.declared.Answer.{Answer}
use Rattle.rules.specs.declared.Request.{Request}
use Rattle.rules.specs.declared.Sized.{Sized}
use Rattle.rules.specs.declared.Rolled.{Rolled}
use Rattle.rules.specs.declared.Compared.{Compared}
use Rattle.rules.specs.Books.{Heap}
use Rattle.rules.specs.Promises.{
  FormatPromise,
  AskPromise,
  AskAllPromise,
  GiveBackPromise,
  ResizePromise,
  ViewSizePromise,
  WritePromise,
  RollCallPromise,
  AuditNumberPromise,
  ComparePromise,
}
use Rattle.heap.specs.Unique as H
use Rattle.batch.specs.Unique as B
use Rattle.audit.specs.Unique as A
use Rattle.compare.specs.Unique as C
use Rattle.heskavern.specs.declared.HeskavernAnswer.{HeskavernAnswer}
use Rattle.heskavern.specs.Answers.{answer_in, sized_in, rolled_in, compared_in}

-- h is the heap that the call finds; g and k are what two runs of it leave, r and s what they answer
module _ (h g k : Heap) (r s : HeskavernAnswer) where
  -- an answer is its number and its value
  same : answer_in r ≡ answer_in s → r ≡ s
  same = ap (λ (x : Answer). record { number = x.number; value = x.offset })

  both : (answer_in r ≡ answer_in s) × (g ≡ k) → (r ≡ s) × (g ≡ k)
  both t = (same t.0, t.1)

  pub format_one : (A P edition : ℕ)
      → FormatPromise h g A P edition (answer_in r) → FormatPromise h k A P edition (answer_in s) → (r ≡ s) × (g ≡ k)
  format_one A P edition e f = both (H.format_one h g k (answer_in r) (answer_in s) A P edition e f)

  pub ask_one : (n : ℕ)
      → AskPromise h g n (answer_in r) → AskPromise h k n (answer_in s) → (r ≡ s) × (g ≡ k)
  ask_one n e f = both (H.ask_one h g k (answer_in r) (answer_in s) n e f)

  -- and the row that it leaves
  pub ask_all_one : (row replies others : List Request)
      → AskAllPromise h g row replies (answer_in r) → AskAllPromise h k row others (answer_in s)
      → (r ≡ s) × (replies ≡ others) × (g ≡ k)
  ask_all_one row replies others e f =
      let t = B.ask_all_one h g k (answer_in r) (answer_in s) row replies others e f in
      (same t.0, t.1, t.2)

  pub give_back_one : (o : ℕ)
      → GiveBackPromise h g o (answer_in r) → GiveBackPromise h k o (answer_in s) → (r ≡ s) × (g ≡ k)
  give_back_one o e f = both (H.give_back_one h g k (answer_in r) (answer_in s) o e f)

  pub resize_one : (o n : ℕ)
      → ResizePromise h g o n (answer_in r) → ResizePromise h k o n (answer_in s) → (r ≡ s) × (g ≡ k)
  resize_one o n e f = both (H.resize_one h g k (answer_in r) (answer_in s) o n e f)

  pub view_size_one : (o : ℕ)
      → ViewSizePromise h g o (sized_in r) → ViewSizePromise h k o (sized_in s) → (r ≡ s) × (g ≡ k)
  view_size_one o e f =
      let t = H.view_size_one h g k o (sized_in r) (sized_in s) e f in
      (ap (λ (x : Sized). record { number = x.number; value = x.size }) t.0, t.1)

  pub write_one : (o : ℕ) (text : List ℕ)
      → WritePromise h g o text (answer_in r) → WritePromise h k o text (answer_in s) → (r ≡ s) × (g ≡ k)
  write_one o text e f = both (H.write_one h g k (answer_in r) (answer_in s) o text e f)

  -- and the roll words that it leaves
  pub roll_call_one : (w u v : List ℕ)
      → RollCallPromise h g w u (rolled_in r) → RollCallPromise h k w v (rolled_in s) → (r ≡ s) × (u ≡ v) × (g ≡ k)
  roll_call_one w u v e f =
      let t = H.roll_call_one h g k w u v (rolled_in r) (rolled_in s) e f in
      (ap (λ (x : Rolled). record { number = x.number; value = x.count }) t.0, t.1, t.2)

-- the audit answers a number alone
pub audit_one : (h g k : Heap) (m n : ℕ) → AuditNumberPromise h g m → AuditNumberPromise h k n → (m ≡ n) × (g ≡ k)
audit_one = A.audit_number_one

-- compare leaves both heaps, and the lent list and changes
pub compare_one : (first second f g s t : Heap) (list u v : List ℕ) (lent c d : List ℤ) (q r : HeskavernAnswer)
    → ComparePromise first f second s list u lent c (compared_in q)
    → ComparePromise first g second t list v lent d (compared_in r)
    → (q ≡ r) × (u ≡ v) × (c ≡ d) × (f ≡ g) × (s ≡ t)
compare_one first second f g s t list u v lent c d q r e h =
    let p = C.compare_one first second f g s t list u v lent c d (compared_in q) (compared_in r) e h in
    (ap (λ (x : Compared). record { number = x.number; value = x.entries }) p.0, p.1, p.2, p.3, p.4)
