-- The number of a refusal, and what a result says in 01's form: a number, 0 where it is done, with a value beside it,
-- 0 where it is refused.
-- Assumes nothing.
use Rattle.std.specs.Prelude.{◌≡◌, refl, ℕ, ◌≤◌, eqb, if◌then◌else◌, Result, Ok, Err, ⊤}
use Rattle.std.proofs.Common.{arith, sym, ap, ◌∙◌}
use Rattle.rules.specs.declared.Answer.{Answer}
use Rattle.rules.specs.declared.Sized.{Sized}
use Rattle.rules.specs.declared.Rolled.{Rolled}
use Rattle.rules.specs.declared.Compared.{Compared}
use Rattle.rules.specs.Outcome.{answer_of}
use Rattle.rules.specs.Numbers.{sized_of, rolled_of}
use Rattle.books.specs.declared.refusal.Refusal.{Refusal}
use Rattle.books.specs.declared.refusal.Refusal.TheVariants.{
  OutOfRange,
  NotExact,
  BadSize,
  NoRoom,
  NoBlock,
  Damaged,
  DoesNotFit,
  DeadBlock,
  UnequalShape,
}

abbrev pub number_of : Refusal → ℕ
number_of OutOfRange = 1
number_of NotExact = 2
number_of BadSize = 3
number_of NoRoom = 4
number_of NoBlock = 5
number_of Damaged = 6
number_of DoesNotFit = 7
number_of DeadBlock = 10
number_of UnequalShape = 12

-- no refusal has number 0
pub number_low : (refusal : Refusal) → 1 ≤ number_of refusal
number_low OutOfRange = omega arith
number_low NotExact = omega arith
number_low BadSize = omega arith
number_low NoRoom = omega arith
number_low NoBlock = omega arith
number_low Damaged = omega arith
number_low DoesNotFit = omega arith
number_low DeadBlock = omega arith
number_low UnequalShape = omega arith

abbrev pub number_in : {A : Type 0} → Result A Refusal → ℕ
number_in (Ok _) = 0
number_in (Err refusal) = number_of refusal

abbrev pub value_in : Result ℕ Refusal → ℕ
value_in (Ok value) = value
value_in (Err _) = 0

-- the answers of 01 and 02, each in its own form; `done_in` is that of a call that answers no value
abbrev pub answer_in : Result ℕ Refusal → Answer
answer_in result = answer_of (number_in result) (value_in result)

abbrev pub done_in : Result ⊤ Refusal → Answer
done_in result = answer_of (number_in result) 0

abbrev pub sized_in : Result ℕ Refusal → Sized
sized_in result = sized_of (number_in result) (value_in result)

abbrev pub rolled_in : Result ℕ Refusal → Rolled
rolled_in result = rolled_of (number_in result) (value_in result)

abbrev pub compared_in : Result ℕ Refusal → Compared
compared_in result = record { number = number_in result; entries = value_in result }

-- ---- a result is known by its number and its value: no two say the same
abbrev refusal_of : ℕ → Refusal
refusal_of n =
    if eqb n 1 then OutOfRange
    else if eqb n 2 then NotExact
    else if eqb n 3 then BadSize
    else if eqb n 4 then NoRoom
    else if eqb n 5 then NoBlock
    else if eqb n 6 then Damaged
    else if eqb n 7 then DoesNotFit
    else if eqb n 10 then DeadBlock
    else UnequalShape

of_number : (refusal : Refusal) → refusal_of (number_of refusal) ≡ refusal
of_number OutOfRange = refl
of_number NotExact = refl
of_number BadSize = refl
of_number NoRoom = refl
of_number NoBlock = refl
of_number Damaged = refl
of_number DoesNotFit = refl
of_number DeadBlock = refl
of_number UnequalShape = refl

pub same_refusal : (r s : Refusal) → number_of r ≡ number_of s → r ≡ s
same_refusal r s e = sym (of_number r) ∙ ap refusal_of e ∙ of_number s

same_result : (r s : Result ℕ Refusal) → number_in r ≡ number_in s → value_in r ≡ value_in s → r ≡ s
same_result (Ok v) (Ok w) n e = ap Ok e
same_result (Ok v) (Err s) n e = absurd (omega (arith, number_low s))
same_result (Err r) (Ok w) n e = absurd (omega (arith, number_low r))
same_result (Err r) (Err s) n e = ap Err (same_refusal r s n)

pub same_done : (r s : Result ⊤ Refusal) → done_in r ≡ done_in s → r ≡ s
same_done (Ok v) (Ok w) e = refl
same_done (Ok v) (Err s) e = absurd (omega (arith, number_low s, ap (λ (a : Answer). a.number) e))
same_done (Err r) (Ok w) e = absurd (omega (arith, number_low r, ap (λ (a : Answer). a.number) e))
same_done (Err r) (Err s) e = ap Err (same_refusal r s (ap (λ (a : Answer). a.number) e))

module _ (r s : Result ℕ Refusal) where
  pub same_answer : answer_in r ≡ answer_in s → r ≡ s
  same_answer e = same_result r s (ap (λ (a : Answer). a.number) e) (ap (λ (a : Answer). a.offset) e)

  pub same_sized : sized_in r ≡ sized_in s → r ≡ s
  same_sized e = same_result r s (ap (λ (a : Sized). a.number) e) (ap (λ (a : Sized). a.size) e)

  pub same_rolled : rolled_in r ≡ rolled_in s → r ≡ s
  same_rolled e = same_result r s (ap (λ (a : Rolled). a.number) e) (ap (λ (a : Rolled). a.count) e)

  pub same_compared : compared_in r ≡ compared_in s → r ≡ s
  same_compared e = same_result r s (ap (λ (a : Compared). a.number) e) (ap (λ (a : Compared). a.entries) e)
