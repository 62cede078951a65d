-- W-214, over any heap at all: the phrase stands in exactly where view would refuse; elsewhere the block's own part is
-- handed back. It holds because the stand-in goes by view's own number, and by nothing else.
-- Assumes nothing.
use Rattle.std.specs.Prelude.{◌≡◌, ◌≢◌, List, ℕ, ◌+◌}
use Rattle.std.proofs.Common.{sym, ◌∙◌}
use Rattle.rules.specs.Books.{Heap}
use Rattle.rules.specs.Numbers.{view, view_size, stand_in, stand_in_at}
use Rattle.books.specs.Passing.{stopped, passed}

-- o an offset; memory and lent are where memory and the phrase lie
module _ (h : Heap) where
  -- where view would refuse, the phrase itself; where it would not, view's bytes, in memory from the offset on
  pub stand_in_means : (o : ℕ) (phrase : List ℕ) (memory lent : ℕ × ℕ)
      → ((view_size h o).number ≢ 0
      → (stand_in h o phrase ≡ phrase) × (stand_in_at h o memory lent ≡ lent))
      × ((view_size h o).number ≡ 0
      → (stand_in h o phrase ≡ view h o) × (stand_in_at h o memory lent ≡ (memory.0, o + memory.1)))
  unfolding stand_in
  stand_in_means o phrase memory lent = (
    λ refused. (stopped (λ k. phrase) _ _ refused, stopped (λ k. lent) _ _ refused),
    λ done. (passed (λ k. phrase) _ _ done, passed (λ k. lent) _ _ done),
  )

  -- so the phrase itself is handed back only where view would refuse, unless what is lent as the phrase is the block's
  -- own part
  pub stand_in_only : (o : ℕ) (phrase : List ℕ) (memory lent : ℕ × ℕ)
      → ((phrase ≡ view h o) × (lent ≡ (memory.0, o + memory.1)) → ⊥)
      → (stand_in h o phrase ≡ phrase) × (stand_in_at h o memory lent ≡ lent) → (view_size h o).number ≢ 0
  stand_in_only o phrase memory lent other e done =
      let t = (stand_in_means o phrase memory lent).1 done in other (sym e.0 ∙ t.0, sym e.1 ∙ t.1)
