-- What format writes: each list as the parts that its loop stores, and the whole.
-- Assumes nothing.
use Rattle.std.specs.Prelude.{◌≡◌, refl, List, [], ◌∷◌, ◌++◌, ℕ, ◌+◌, ◌*◌, ◌-◌, eqb, length, if◌then◌else◌}
use Rattle.std.proofs.Common.{sym, ap, ◌∙◌, arith, length-append}
use Rattle.std.proofs.lemmas.List.Edits.{sets}
use Rattle.rules.specs.Books.{books_length, link_to, no_class}
use Rattle.rules.specs.Format.{fresh_arenas, fresh_pools, fresh_heads, fresh_books}
use Rattle.books.specs.Records.{length_arenas, length_pools}
use Rattle.loops.specs.Sets.{sets_append, sets_all}
use Rattle.loops.specs.Left.{Parts, counted}

-- the link from arena i to the next, where k arenas come after it
abbrev pub next_of : ℕ → ℕ → ℕ
next_of i k = if eqb k 0 then 0 else link_to (i + 1)

-- a record that is 0 but for its fifth and sixth words
abbrev pub record_of : ℕ → ℕ → List ℕ
record_of x y = 0 ∷ 0 ∷ 0 ∷ 0 ∷ x ∷ y ∷ 0 ∷ 0 ∷ []

-- ---- arena records and pool records, one by one
pub arena_parts : (n : ℕ)
    → Parts (fresh_arenas 0 n) n (λ i. fresh_arenas i (n - i)) (λ i. record_of (next_of i (n - (i + 1))) i)
arena_parts = counted fresh_arenas (λ i k. record_of (next_of i k) i) (λ i. refl) (λ i k. refl)

pub pool_parts : (n : ℕ) → Parts (fresh_pools n) n (λ i. fresh_pools (n - i)) (λ i. record_of no_class 0)
pool_parts = counted (λ i. fresh_pools) (λ i k. record_of no_class 0) (λ i. refl) (λ i k. refl)

-- the heads, the arena records and the pool records, stored one after the other, are the books
pub fresh_whole : (b : List ℕ) (A P e : ℕ) → length b ≡ books_length A P
    → sets (sets (sets b 0 (fresh_heads A P e)) 72 (fresh_arenas 0 A)) (72 + 8 * A) (fresh_pools (A * P))
    ≡ fresh_books A P e
unfolding fresh_books
fresh_whole b A P e h =
    let heads = fresh_heads A P e in
    let records = fresh_arenas 0 A ++ fresh_pools (A * P) in
    ap (λ (k : ℕ). sets (sets (sets b 0 heads) 72 (fresh_arenas 0 A)) (72 + k) (fresh_pools (A * P))) (sym (length_arenas 0 A))
    ∙ sym (sets_append (sets b 0 heads) 72 (fresh_arenas 0 A) (fresh_pools (A * P)))
    ∙ sym (sets_append b 0 heads records)
    ∙ sets_all b (heads ++ records)
    (omega (arith, length-append (fresh_arenas 0 A) (fresh_pools (A * P)), length_arenas 0 A, length_pools (A * P)))
