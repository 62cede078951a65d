-- Each promise determines its call: any two outcomes that it allows, of one heap and row, are equal, in answer, in
-- every request or word of the row, and in every byte and word of the heap.
-- Assumes nothing.
use Rattle.std.specs.Prelude.{◌≡◌, List, ℕ, Result, ⊤}
use Rattle.std.proofs.Common.{sym, ap, ◌∙◌}
use Rattle.rules.specs.declared.Answer.{Answer}
use Rattle.rules.specs.declared.Request.{Request}
use Rattle.rules.specs.Books.{Heap}
use Rattle.rules.specs.Batch.{BatchOutcome, RowsOutcome}
use Rattle.rules.specs.Promises.{AskAllPromise, AskRowsPromise}
use Rattle.books.specs.declared.refusal.Refusal.{Refusal}
use Rattle.books.specs.Refusals.{done_in, same_done}

-- h is the heap that the call finds; g and k are what two runs of it leave, r and s what they answer
module _ (h g k : Heap) (r s : Answer) where
  pub ask_all_one : (row replies others : List Request)
      → AskAllPromise h g row replies r → AskAllPromise h k row others s
      → (r ≡ s) × (replies ≡ others) × (g ≡ k)
  ask_all_one row replies others e f =
      let t = e ∙ sym f in (
        ap (λ (x : BatchOutcome). x.answer) t,
        ap (λ (x : BatchOutcome). x.left.row) t,
        ap (λ (x : BatchOutcome). x.left.heap) t,
      )

  pub ask_rows_one : (words replies others : List ℕ)
      → AskRowsPromise h g words replies r → AskRowsPromise h k words others s
      → (r ≡ s) × (replies ≡ others) × (g ≡ k)
  ask_rows_one words replies others e f =
      let t = e ∙ sym f in (
        ap (λ (x : RowsOutcome). x.answer) t,
        ap (λ (x : RowsOutcome). x.words) t,
        ap (λ (x : RowsOutcome). x.heap) t,
      )

-- and so the results that these calls give, since no two are one answer
module _ (h g k : Heap) (r s : Result ⊤ Refusal) where
  pub ask_all_result_one : (row replies others : List Request)
      → AskAllPromise h g row replies (done_in r) → AskAllPromise h k row others (done_in s)
      → (r ≡ s) × (replies ≡ others) × (g ≡ k)
  ask_all_result_one row replies others e f =
      let t = ask_all_one h g k (done_in r) (done_in s) row replies others e f in (same_done r s t.0, t.1, t.2)

  pub ask_rows_result_one : (words replies others : List ℕ)
      → AskRowsPromise h g words replies (done_in r) → AskRowsPromise h k words others (done_in s)
      → (r ≡ s) × (replies ≡ others) × (g ≡ k)
  ask_rows_result_one words replies others e f =
      let t = ask_rows_one h g k (done_in r) (done_in s) words replies others e f in (same_done r s t.0, t.1, t.2)
