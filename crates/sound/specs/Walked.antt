-- W-203's walk, by which an arena moves back in the usable list: on a heap that holds a plain heap it is the plain
-- heap's walk over what follows the arena; and where it ends, the arenas rising.
-- Assumes nothing.
use Rattle.std.specs.Prelude.{◌≡◌, refl, ◌≢◌, true, leb, length, if◌then◌else◌}
use Rattle.std.proofs.Math.Path.{ap}
use Rattle.std.proofs.Common.{◌∙◌}
use Rattle.std.proofs.Math.Logic.{Ne-symm as flip}
use mathlib.Core.List.{List, [], ◌∷◌, ◌++◌}
use Prim.Native.Nat.{ℕ, zero, suc, ◌+◌, ◌-◌, ◌≤◌, ◌<◌}
use Rattle.std.proofs.Math.Decide.{dec_le}
use native.Mathlib.Omega.{arith}
use Rattle.std.proofs.Math.Dec.{ltb, eqb-suc-zero}
use borrow.Author.Tests.{eq-eqb, ne_eqb, le-leb, lt-ltb, le-ltb}
use Rattle.rules.specs.declared.BackPlan.{BackPlan}
use Rattle.rules.specs.declared.BackPlan.TheVariants.{Empties, Moves}
use Rattle.rules.specs.Books.{Heap, at, usable_head, arena_next, arena_previous, arena_word, arena}
use Rattle.rules.specs.GiveBack.{free_now, goes_in, walk}
use Rattle.books.specs.Sizes.{Aligned}
use Rattle.sequences.specs.Sequences.{
  All,
  Once,
  Split,
  further,
  Seg,
  all_map,
  all_two,
  all_parts,
  all_at,
  once_parts,
  once_short,
  seg_cut,
}
use Rattle.sequences.specs.Rising.{Rising}
use Rattle.sequences.specs.Linked.{Doubly}
use Rattle.sequences.specs.Families.{At, member_links}
use Rattle.sound.specs.Plain.{Plain, free, past}
use Rattle.sound.specs.Held.{Held, usable_word, usable_row, usable_members}

-- ---- where the plain heap's walk ends: none of xs has fewer than n free pools, or q is the last of those that have.
-- What holds in both cases holds
abbrev pub Ends : ℕ → Plain → ℕ → List ℕ → BackPlan → Type 0 → Type 0
Ends P r n xs first Q =
    (All (λ y. n ≤ free P r y) xs → past P r n xs first ≡ first → Q)
    → ((q : ℕ) (s : Split q xs) → free P r q < n → All (λ y. n ≤ free P r y) s.post
    → past P r n xs first ≡ Moves q → Q)
    → Q

pub past_ends : (P : ℕ) (r : Plain) (n : ℕ) (xs : List ℕ) (first : BackPlan) (Q : Type 0)
    → Rising (free P r) xs → Ends P r n xs first Q
past_ends P r n [] first Q R none some = none tt refl
past_ends P r n (x ∷ xs) first Q R none some =
    go (dec_le n (free P r x)) (past_ends P r n xs (Moves x) Q R.1)
  where
    go : Dec (n ≤ free P r x) → Ends P r n xs (Moves x) Q → Q
    go (yes l) k =
        none (l, all_map {R = λ y. n ≤ free P r y} (λ y (u : free P r x ≤ free P r y). omega arith) xs R.0)
        (rw (le-ltb (free P r x) n l))
    go (no l) k =
        let passed = lt-ltb (free P r x) n (omega arith) in
        k (λ t e. some x (record { pre = []; post = xs; is = refl }) (omega arith) t (rw passed e))
        (λ q s u t e. some q (further x s) u t (rw passed e))

-- ---- a usable arena a of a heap that holds the plain heap r, in its place
module _ {al A P : ℕ} {h : Heap} {r : Plain} (L : Aligned al)
    (H : Held al A P h r) (a : ℕ) (s : Split a r.usable) where
  open H use {view as U, books as K, says as F}
  open s use {pre, post}

  abbrev b : List ℕ
  b = h.books

  -- the usable list and its members
  list : Doubly (arena_word arena_next) (arena_word arena_previous) b usable_head (pre ++ a ∷ post)
  list = rw s.is at (usable_row L K F)

  members : All (At A U.base usable_head) (pre ++ a ∷ post)
  members = rw s.is at (usable_members L K F)

  own : At A U.base usable_head a
  own = all_at (At A U.base usable_head) a pre post members

  -- "than it now has", and what the others have
  own_now : free_now A b a a ≡ free P r a + 1
  own_now = rw (eq-eqb a a refl) (ap (λ (n : ℕ). n + 1) (usable_word L K F a own).2)

  once : Once (a ∷ post)
  once = (once_parts pre (a ∷ post) list.row.once).2

  others_now : All (λ y. (y < A) × (free_now A b a y ≡ free P r y)) post
  others_now =
      all_two {S = λ y. (y < A) × (free_now A b a y ≡ free P r y)}
      (λ y (d : a ≢ y) (t : At A U.base usable_head y). (t.low, rw (ne_eqb y a (flip d)) (omega (arith, (usable_word L K F y t).2))))
      post once.0 (all_parts (At A U.base usable_head) pre (a ∷ post) members).1.1

  -- it may leave
  may_leave_lem : leb (arena b arena_previous a) A ≡ true
  may_leave_lem = le-leb (arena b arena_previous a) A (member_links K.lists 2 (omega arith) a own.low own.is).1

  -- from the link k on, which leads to xs
  along : (more : ℕ) (xs : List ℕ) → length xs ≤ more → (k p last : ℕ)
      → Seg (λ y. at b (arena_word arena_next y)) (λ y. at b (arena_word arena_previous y)) k p xs
      → All (λ y. (y < A) × (free_now A b a y ≡ free P r y)) xs
      → walk A b a more k last ≡ past P r (free P r a + 1) xs (goes_in A b a last)
  unfolding walk
  along zero [] l k p last s t = rw (s, le-leb 0 A (omega arith))
  along (suc more) [] l k p last s t = rw (s, le-leb 0 A (omega arith))
  along zero (x ∷ xs) l k p last s t = absurd (omega arith)
  along (suc more) (x ∷ xs) l k p last s t =
      let link : suc x - 1 ≡ x = omega arith in
      let moves : goes_in A b a (suc x) ≡ Moves x = rw (eqb-suc-zero x, may_leave_lem, link) in
      rw (s.0, le-leb (suc x) A t.0.0, eqb-suc-zero x, link, t.0.1, own_now)
      (ap (λ (q : BackPlan). if ltb (free P r x) (free P r a + 1) then q else goes_in A b a last)
      (along more xs (omega arith) (at b (arena_word arena_next x)) (suc x) (suc x) s.1.1 t.1
      ∙ ap (past P r (free P r a + 1) xs) moves))

  -- ".. it moves back past following arenas as long as they have fewer free pools than it now has"
  pub walk_is : walk A b a A (arena b arena_next a) 0 ≡ past P r (free P r a + 1) post Empties
  walk_is =
      along A post (once_short A post (all_map {R = λ y. y < A} (λ y t. t.0) post others_now) once.1)
      (arena b arena_next a) (suc a) 0 (seg_cut _ _ (at b usable_head) 0 pre (a ∷ post) list.row.walk).1.1 others_now
