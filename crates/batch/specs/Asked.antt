-- An ask on a heap whose shape is tested: the size's test, and then the step.
-- Assumes nothing.
use Rattle.std.specs.Prelude.{◌≡◌, refl, ℕ}
use Rattle.std.proofs.Common.{sym}
use Rattle.rules.specs.Books.{Heap, arenas, pools, alignment}
use Rattle.rules.specs.Outcome.{refused}
use Rattle.rules.specs.Ask.{ask_step}
use Rattle.rules.specs.Numbers.{shape_number, size_number, ask}
use Rattle.books.specs.declared.refusal.Refusal.{Refusal}
use Rattle.books.specs.Refusals.{number_of}
use Rattle.books.specs.Passing.{refuses, lets_pass, size_refuses, all_pass}
use Rattle.plans.specs.Kept.{Tested, shape_passes}

module _ (h : Heap) (tested : Tested h) (n : ℕ) where
  pub ask_refused : (r : Refusal) → number_of r ≡ size_number n → refused (number_of r) h ≡ ask h n
  unfolding ask
  ask_refused r e =
      refuses (λ k. refused k h) _ r _ (size_refuses r (shape_number h) (size_number n) 0 0 (sym (shape_passes h tested)) e)

  pub ask_goes : 0 ≡ size_number n → ask_step (alignment h) (arenas h) (pools h) h n ≡ ask h n
  unfolding ask
  ask_goes e = lets_pass (λ k. refused k h) _ _ _ (all_pass (sym (shape_passes h tested)) e refl refl) refl
