-- 01, "Format": the books that it writes.
-- Assumes nothing.
use Rattle.std.specs.Prelude.{List, [], ◌∷◌, ◌++◌, ℕ, zero, suc, ◌+◌, ◌*◌, eqb, replicate, if◌then◌else◌}
use Rattle.rules.specs.Books.{no_class, link_to}

-- "every arena record 0 but for its links, all closed and on the unused list, linked both ways, in rising order":
-- the records of the k arenas from arena i on, the last of which has no next; a link to arena i - 1 is i
abbrev pub fresh_arenas : ℕ → ℕ → List ℕ
fresh_arenas i zero = []
fresh_arenas i (suc k) =
    0 ∷ 0 ∷ 0 ∷ 0 ∷ (if eqb k 0 then 0 else link_to (i + 1)) ∷ i ∷ 0 ∷ 0 ∷ fresh_arenas (suc i) k

-- "every pool record 0 but for class 65,535": k of them
abbrev pub fresh_pools : ℕ → List ℕ
fresh_pools zero = []
fresh_pools (suc k) = 0 ∷ 0 ∷ 0 ∷ 0 ∷ no_class ∷ 0 ∷ 0 ∷ 0 ∷ fresh_pools k

-- words 0 to 71: "A, P, .. with arena 0 first, every other head and spare word 0", but for the edition e in word 68
-- (02, W-211)
abbrev pub fresh_heads : ℕ → ℕ → ℕ → List ℕ
fresh_heads A P e = A ∷ P ∷ 0 ∷ link_to 0 ∷ (replicate 64 0 ++ (e ∷ 0 ∷ 0 ∷ 0 ∷ []))

-- then the records
unfoldable pub fresh_books : ℕ → ℕ → ℕ → List ℕ
fresh_books A P e = fresh_heads A P e ++ (fresh_arenas 0 A ++ fresh_pools (A * P))
