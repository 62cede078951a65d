-- What a call leaves: its answer, and every byte and word of the three buffers.
-- Assumes nothing.
use Rattle.std.specs.Prelude.{List, ℕ, zero, suc}
use Rattle.rules.specs.declared.Answer.{Answer}
use Rattle.rules.specs.Books.{Heap}

abbrev pub heap_of : List ℕ → List ℕ → List ℕ → Heap
heap_of memory books map = record { memory = memory; books = books; map = map }

abbrev pub answer_of : ℕ → ℕ → Answer
answer_of k o = record { number = k; offset = o }

pub record Outcome : Type 0 where
  pub answer : Answer
  pub heap : Heap

abbrev pub outcome : Answer → Heap → Outcome
outcome r h = record { answer = r; heap = h }

-- number 0 with offset o; number k with offset 0
abbrev pub done : ℕ → Heap → Outcome
done o h = outcome (answer_of 0 o) h

abbrev pub refused : ℕ → Heap → Outcome
refused k h = outcome (answer_of k 0) h

-- a number that lets the rest go on where it is 0, and otherwise decides
module _ {A : Type 0} where
  abbrev pub passing : ℕ → (ℕ → A) → A → A
  passing zero refusal rest = rest
  passing (suc k) refusal rest = refusal (suc k)
