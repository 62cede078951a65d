-- The promise determines the call: any two outcomes that it allows are equal, in the answer, in every word of list and
-- changes, and in both heaps.
-- Assumes nothing.
use Rattle.std.specs.Prelude.{◌≡◌, List, ℕ, ℤ, Result}
use Rattle.std.proofs.Common.{sym, ap, ◌∙◌}
use Rattle.rules.specs.declared.Compared.{Compared}
use Rattle.rules.specs.Books.{Heap}
use Rattle.rules.specs.Compare.{CompareOutcome}
use Rattle.rules.specs.Promises.{ComparePromise}
use Rattle.books.specs.declared.refusal.Refusal.{Refusal}
use Rattle.books.specs.Refusals.{compared_in, same_compared}

-- first and second are the heaps that the call finds; f and s, and g and t, are what two runs of it leave of them, u
-- and c, and v and d, of the list and the changes, and q and r what they answer
pub compare_one : (first second f g s t : Heap) (list u v : List ℕ) (lent c d : List ℤ) (q r : Compared)
    → ComparePromise first f second s list u lent c q
    → ComparePromise first g second t list v lent d r
    → (q ≡ r) × (u ≡ v) × (c ≡ d) × (f ≡ g) × (s ≡ t)
compare_one first second f g s t list u v lent c d q r e h =
    let p = e ∙ sym h in (
      ap (λ (x : CompareOutcome × (Heap × Heap)). x.0.answer) p,
      ap (λ (x : CompareOutcome × (Heap × Heap)). x.0.listed) p,
      ap (λ (x : CompareOutcome × (Heap × Heap)). x.0.changed) p,
      ap (λ (x : CompareOutcome × (Heap × Heap)). x.1.0) p,
      ap (λ (x : CompareOutcome × (Heap × Heap)). x.1.1) p,
    )

-- and so the result, since no two are one answer
pub compare_result_one : (first second f g s t : Heap) (list u v : List ℕ) (lent c d : List ℤ) (q r : Result ℕ Refusal)
    → ComparePromise first f second s list u lent c (compared_in q)
    → ComparePromise first g second t list v lent d (compared_in r)
    → (q ≡ r) × (u ≡ v) × (c ≡ d) × (f ≡ g) × (s ≡ t)
compare_result_one first second f g s t list u v lent c d q r e h =
    let p = compare_one first second f g s t list u v lent c d (compared_in q) (compared_in r) e h in
    (same_compared q r p.0, p.1, p.2, p.3, p.4)
