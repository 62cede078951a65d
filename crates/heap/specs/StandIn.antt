-- The stand-in by its tests: the phrase where they refuse, the block's own part where they pass; and view as the
-- stand-in of nothing.
-- Assumes nothing.
use Rattle.std.specs.Prelude.{◌≡◌, refl, ℕ, zero, suc, ◌+◌, ◌-◌}
use Rattle.std.proofs.Math.Path.{sym, ap}
use Rattle.std.proofs.Common.{◌∙◌}
use mathlib.Core.List.{List, []}
use Rattle.std.proofs.Math.Nat.{add-sub_cancel_left}
use Rattle.rules.specs.Books.{Heap}
use Rattle.rules.specs.Outcome.{passing}
use Rattle.rules.specs.View.{part}
use Rattle.rules.specs.Numbers.{offset_tests, block_size, sized_of, view, view_at, view_size, stand_in, stand_in_at}
use Rattle.rules.specs.Promises.{◌beside◌}
use Rattle.books.specs.Passing.{stopped, passed}

-- view's number, which its companion gives, is that of the tests
view_number : (h : Heap) (o : ℕ) → (view_size h o).number ≡ offset_tests h o
unfolding view_size
view_number h o = go (offset_tests h o)
  where
    go : (n : ℕ) → (passing n (λ k. sized_of k 0) (sized_of 0 (block_size h o))).number ≡ n
    go zero = refl
    go (suc n) = refl

-- n is the number of the tests; memory and lent are where memory and the phrase lie
module _ (h : Heap) (o n : ℕ) (tested : n ≡ offset_tests h o) where
  number_is : n ≡ (view_size h o).number
  number_is = tested ∙ sym (view_number h o)

  -- ---- where they refuse
  module _ (refused : n ≡ 0 → ⊥) where
    no_view : (view_size h o).number ≡ 0 → ⊥
    no_view z = refused (number_is ∙ z)

    pub phrase_stands_in : (phrase : List ℕ)
        → phrase beside phrase beside h ≡ stand_in h o phrase beside phrase beside h
    unfolding stand_in
    phrase_stands_in phrase = ap (λ (p : List ℕ). p beside phrase beside h) (sym (stopped (λ k. phrase) _ _ no_view))

    pub phrase_lies : (memory lent : ℕ × ℕ) → lent ≡ stand_in_at h o memory lent
    phrase_lies memory lent = sym (stopped (λ k. lent) _ _ no_view)

  -- ---- where they pass; s is the block's size
  module _ (passes : n ≡ 0) where
    viewed : (view_size h o).number ≡ 0
    viewed = sym number_is ∙ passes

    pub own_stands_in : (phrase : List ℕ) (s : ℕ) → s ≡ block_size h o
        → part o (o + s - o) h.memory beside phrase beside h ≡ stand_in h o phrase beside phrase beside h
    unfolding stand_in view
    own_stands_in phrase s e =
        ap (λ (p : List ℕ). p beside phrase beside h)
        (ap (λ (k : ℕ). part o k h.memory) (add-sub_cancel_left o s ∙ e)
        ∙ sym (passed (λ k. []) _ _ (sym tested ∙ passes))
        ∙ sym (passed (λ k. phrase) _ _ viewed))

    pub own_lies : (memory lent : ℕ × ℕ) → (memory.0, o + memory.1) ≡ stand_in_at h o memory lent
    own_lies memory lent = sym (passed (λ k. lent) _ _ viewed)

-- ---- the stand-in of nothing is view's part
pub nothing_stands_in : (h : Heap) (o : ℕ) → stand_in h o [] ≡ view h o
unfolding stand_in view
nothing_stands_in h o = rw (view_number h o) (go (offset_tests h o) (part o (block_size h o) h.memory))
  where
    go : (n : ℕ) (own : List ℕ) → passing n (λ k. []) (passing n (λ k. []) own) ≡ passing n (λ k. []) own
    go zero own = refl
    go (suc n) own = refl

-- and lies where that lies, where the empty part at memory's start is lent as the phrase
pub nothing_lies : (h : Heap) (o : ℕ) (memory : ℕ × ℕ)
    → stand_in_at h o memory (memory.0, 0 + memory.1) ≡ (memory.0, view_at h o + memory.1)
nothing_lies h o memory = rw (view_number h o) (go (offset_tests h o))
  where
    go : (n : ℕ) → ◌≡◌ {A = ℕ × ℕ} (passing n (λ k. (memory.0, 0 + memory.1)) (memory.0, o + memory.1))
        (memory.0, passing n (λ k. 0) o + memory.1)
    go zero = refl
    go (suc n) = refl
