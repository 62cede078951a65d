-- The answer in the layout of C, read as that of crates heap, batch and compare.
-- Assumes nothing.
use Rattle.std.specs.Prelude.{ℕ, Result, ⊤}
use Rattle.rules.specs.declared.Answer.{Answer}
use Rattle.rules.specs.declared.Sized.{Sized}
use Rattle.rules.specs.declared.Rolled.{Rolled}
use Rattle.rules.specs.declared.Compared.{Compared}
use Rattle.rules.specs.Outcome.{answer_of}
use Rattle.rules.specs.Numbers.{rolled_of, sized_of}
use Rattle.rules.specs.Compare.{compared_of}
use Rattle.books.specs.declared.refusal.Refusal.{Refusal}
use Rattle.books.specs.Refusals.{number_in, value_in}
use Rattle.steps.specs.declared.resize.ResizeRefusal.{ResizeRefusal}
use Rattle.steps.specs.Moved.{moved_in}
use Rattle.heskavern.specs.declared.HeskavernAnswer.{HeskavernAnswer}

-- of format, ask, a batch, give back, resize and write
abbrev pub answer_in : HeskavernAnswer → Answer
answer_in r = answer_of r.number r.value

-- of view's companion
abbrev pub sized_in : HeskavernAnswer → Sized
sized_in r = sized_of r.number r.value

-- of roll call
abbrev pub rolled_in : HeskavernAnswer → Rolled
rolled_in r = rolled_of r.number r.value

-- of compare
abbrev pub compared_in : HeskavernAnswer → Compared
compared_in r = compared_of r.number r.value

-- ---- a result of those crates in the layout of C: of a call that answers a value, of one that answers none, of resize
abbrev pub laid_out : Result ℕ Refusal → HeskavernAnswer
laid_out result = record { number = number_in result; value = value_in result }

abbrev pub laid_out_done : Result ⊤ Refusal → HeskavernAnswer
laid_out_done result = record { number = number_in result; value = 0 }

abbrev pub laid_out_moved : Result ℕ ResizeRefusal → HeskavernAnswer
laid_out_moved result = record { number = (moved_in result).number; value = (moved_in result).offset }
