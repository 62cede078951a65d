-- What a resize's result says in 01's form: number 6 with the new offset is the half-done resize.
-- Assumes nothing.
use Rattle.std.specs.Prelude.{◌≡◌, ℕ, ◌≤◌, Result, Ok, Err}
use Rattle.std.proofs.Common.{ap, arith}
use Rattle.rules.specs.declared.Answer.{Answer}
use Rattle.rules.specs.Outcome.{answer_of}
use Rattle.books.specs.declared.refusal.Refusal.{Refusal}
use Rattle.books.specs.Refusals.{number_of, number_low, same_refusal}
use Rattle.steps.specs.declared.resize.ResizeRefusal.{ResizeRefusal}
use Rattle.steps.specs.declared.resize.ResizeRefusal.TheVariants.{Refused, HalfDone}

abbrev pub moved_in : Result ℕ ResizeRefusal → Answer
moved_in (Ok offset) = answer_of 0 offset
moved_in (Err (Refused refusal)) = answer_of (number_of refusal) 0
moved_in (Err (HalfDone offset)) = answer_of 6 offset

-- a half-done resize has the offset of a block, which is never 0: so its answer is no other's
abbrev pub IsMoved : Result ℕ ResizeRefusal → Type 0
IsMoved (Ok _) = Unit {0}
IsMoved (Err (Refused _)) = Unit {0}
IsMoved (Err (HalfDone offset)) = 48 ≤ offset

-- no two say the same
pub same_moved : (r s : Result ℕ ResizeRefusal) → IsMoved r → IsMoved s → moved_in r ≡ moved_in s → r ≡ s
same_moved (Ok o) (Ok p) t u e = ap Ok (ap (λ (a : Answer). a.offset) e)
same_moved (Ok o) (Err (Refused s)) t u e = absurd (omega (arith, number_low s, ap (λ (a : Answer). a.number) e))
same_moved (Ok o) (Err (HalfDone p)) t u e = absurd (omega (arith, ap (λ (a : Answer). a.number) e))
same_moved (Err (Refused r)) (Ok p) t u e = absurd (omega (arith, number_low r, ap (λ (a : Answer). a.number) e))
same_moved (Err (Refused r)) (Err (Refused s)) t u e = ap (λ (x : Refusal). Err (Refused x)) (same_refusal r s (ap (λ (a : Answer). a.number) e))
same_moved (Err (Refused r)) (Err (HalfDone p)) t u e = absurd (omega (arith, u, ap (λ (a : Answer). a.offset) e))
same_moved (Err (HalfDone o)) (Ok p) t u e = absurd (omega (arith, ap (λ (a : Answer). a.number) e))
same_moved (Err (HalfDone o)) (Err (Refused s)) t u e = absurd (omega (arith, t, ap (λ (a : Answer). a.offset) e))
same_moved (Err (HalfDone o)) (Err (HalfDone p)) t u e = ap (λ (n : ℕ). Err (HalfDone n)) (ap (λ (a : Answer). a.offset) e)
