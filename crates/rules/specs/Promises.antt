-- What each call promises, once for all who say it: the contracts of crates heap and heskavern, that each determines
-- its call, and the runs of crate laws. `found` is the heap as the call finds it, `left` as it leaves it, in every byte
-- and word; then its arguments and its answer.
-- Assumes nothing.
use Rattle.std.specs.Prelude.{◌≡◌, List, ℕ, ◌+◌, ℤ}
use Rattle.rules.specs.declared.Answer.{Answer}
use Rattle.rules.specs.declared.Request.{Request}
use Rattle.rules.specs.declared.Sized.{Sized}
use Rattle.rules.specs.declared.Rolled.{Rolled}
use Rattle.rules.specs.declared.Verdict.{Verdict}
use Rattle.rules.specs.declared.Compared.{Compared}
use Rattle.rules.specs.Books.{Heap}
use Rattle.rules.specs.Outcome.{outcome}
use Rattle.rules.specs.Numbers.{
  format,
  ask,
  give_back,
  resize,
  view,
  view_at,
  view_size,
  stand_in,
  stand_in_at,
  write,
  roll_outcome,
  roll_call,
}
use Rattle.rules.specs.Batch.{served, batch_outcome, ask_all, rows_outcome, ask_rows}
use Rattle.rules.specs.Audit.{audit, number_of}
use Rattle.rules.specs.Compare.{compare_outcome, compare}

-- what a call answers that is lent buffers to read alone, and the buffers
infixr 12 ◌beside◌
abbrev pub ◌beside◌ : {Answered Lent : Type 0} → Answered → Lent → Answered × Lent
answer beside lent = (answer, lent)

module _ (found left : Heap) where
  abbrev pub FormatPromise : ℕ → ℕ → ℕ → Answer → Type 0
  FormatPromise A P edition answer = outcome answer left ≡ format found A P edition

  abbrev pub AskPromise : ℕ → Answer → Type 0
  AskPromise size answer = outcome answer left ≡ ask found size

  -- a batch: the lent row as it finds and as it leaves it; over words too
  abbrev pub AskAllPromise : List Request → List Request → Answer → Type 0
  AskAllPromise row replies answer = batch_outcome answer (served left replies) ≡ ask_all found row

  abbrev pub AskRowsPromise : List ℕ → List ℕ → Answer → Type 0
  AskRowsPromise words replies answer = rows_outcome answer left replies ≡ ask_rows found words

  abbrev pub GiveBackPromise : ℕ → Answer → Type 0
  GiveBackPromise offset answer = outcome answer left ≡ give_back found offset

  abbrev pub ResizePromise : ℕ → ℕ → Answer → Type 0
  ResizePromise offset size answer = outcome answer left ≡ resize found offset size

  -- view's part, by its bytes
  abbrev pub ViewPromise : ℕ → List ℕ → Type 0
  ViewPromise offset part = part beside left ≡ view found offset beside found

  abbrev pub ViewSizePromise : ℕ → Sized → Type 0
  ViewSizePromise offset answer = answer beside left ≡ view_size found offset beside found

  -- the stand-in, by its bytes; the lent phrase as it finds and as it leaves it
  abbrev pub StandInPromise : ℕ → List ℕ → List ℕ → List ℕ → Type 0
  StandInPromise offset phrase kept part =
      part beside kept beside left ≡ stand_in found offset phrase beside phrase beside found

  abbrev pub WritePromise : ℕ → List ℕ → Answer → Type 0
  WritePromise offset text answer = outcome answer left ≡ write found offset text

  -- the lent words as it finds and as it leaves them
  abbrev pub RollCallPromise : List ℕ → List ℕ → Rolled → Type 0
  RollCallPromise words rolled answer =
      roll_outcome answer.number answer.count rolled beside left ≡ roll_call found words beside found

  -- the audit: yes, or the first broken rule; by its number, where the answer is one
  abbrev pub AuditNumberPromise : ℕ → Type 0
  AuditNumberPromise number = number beside left ≡ audit found beside found

  abbrev pub AuditPromise : Verdict → Type 0
  AuditPromise answer = AuditNumberPromise (number_of answer)

-- and by its place: the part lies where memory does, from the byte that `view_at` says. A place is a buffer and a
-- position in it
abbrev pub ViewPlace : Heap → ℕ → ℕ × ℕ → ℕ × ℕ → Type 0
ViewPlace found offset memory part = (part.0 ≡ memory.0) × (part.1 ≡ view_at found offset + memory.1)

-- and the stand-in lies where `stand_in_at` says, by where memory and the phrase are lent
abbrev pub StandInPlace : Heap → ℕ → ℕ × ℕ → ℕ × ℕ → ℕ × ℕ → Type 0
StandInPlace found offset memory lent part = part ≡ stand_in_at found offset memory lent

-- compare: both heaps as it finds and as it leaves them, and so the lent list and changes
module _ (first firstLeft second secondLeft : Heap) where
  abbrev pub ComparePromise : List ℕ → List ℕ → List ℤ → List ℤ → Compared → Type 0
  ComparePromise list listed changes changed answer =
      compare_outcome answer.number answer.entries listed changed beside firstLeft beside secondLeft
      ≡ compare first second list changes beside first beside second
