-- What becomes of an arena, one of whose pools comes free: what its path knows of the arenas' lists once it is planned,
-- whatever the books hold; and its writes.
-- Assumes nothing.
use Rattle.std.specs.Prelude.{◌≡◌, refl, ◌≢◌, true, false, List, [], Option, None, Some, leb, eqb, length, replicate}
use Rattle.std.proofs.Common.{◌∙◌, inl, leb-true}
use Prim.Native.Nat.{ℕ, zero, suc, ◌+◌, ◌-◌, ◌≤◌, ◌<◌}
use native.Mathlib.Omega.{arith}
use Rattle.std.proofs.lemmas.List.Edits.{sets}
use Rattle.std.proofs.Math.Seq.{length-sets}
use Rattle.std.proofs.lemmas.Bool.{eqb-false}
use Rattle.rules.specs.declared.BackPlan.{BackPlan}
use Rattle.rules.specs.declared.BackPlan.TheVariants.{Damaged, Joins, Stays, Empties, Moves, Returns, Releases}
use Rattle.rules.specs.Books.{at, books_length, usable_head, unused_head, free_pools, arena_next, arena_previous, arena_word, arena, none?, linked}
use Rattle.rules.specs.Lists.{next_at, previous_at, leave, join, may_leave, may_join, arena_links}
use Rattle.rules.specs.Outcome.{heap_of}
use Rattle.rules.specs.GiveBack.{passes, goes_in, walk, settling, move_after, release}
use Rattle.books.specs.declared.words.Shape.{Shape}
use Rattle.books.specs.Tests.{either, after}
use Rattle.books.specs.Lists.{Links, links, before_links, leave_keeps, length_leave_by}
use Rattle.loops.specs.Sets.{sets_other}
use Rattle.plans.specs.Range.{Range}

-- ---- an arena, a, of books of the shape
pub record ArenaIn (s : Shape) (b : List ℕ) (a : ℕ) : Type 0 where
  pub range : Range s.arenas s.pools
  pub books : length b ≡ books_length s.arenas s.pools
  pub there : a < s.arenas

-- the link to an arena, if any
abbrev pub link_in : Option ℕ → ℕ
link_in None = 0
link_in (Some n) = n + 1

-- ---- the walk by the tests that its function makes
module _ (A : ℕ) (b : List ℕ) (a : ℕ) where
  pub walk_stuck : (more next last : ℕ) → leb next A ≡ false → walk A b a more next last ≡ Damaged
  unfolding walk
  walk_stuck zero next last e = rw e
  walk_stuck (suc more) next last e = rw e

  pub walk_ends : (more next last : ℕ) → leb next A ≡ true → passes A b a next ≡ false
      → walk A b a more next last ≡ goes_in A b a last
  unfolding walk
  walk_ends zero next last e f = rw (e, f)
  walk_ends (suc more) next last e f = rw (e, f)

  pub walk_far : (more next last : ℕ) → more ≡ 0 → leb next A ≡ true → passes A b a next ≡ true
      → walk A b a more next last ≡ Damaged
  unfolding walk
  walk_far zero next last z e f = rw (e, f)
  walk_far (suc more) next last z e f = absurd (omega arith)

  pub walk_on : (more next last : ℕ) → more ≢ 0 → leb next A ≡ true → passes A b a next ≡ true
      → walk A b a more next last ≡ walk A b a (more - 1) (arena b arena_next (linked next)) next
  unfolding walk
  walk_on zero next last z e f = absurd (z refl)
  walk_on (suc more) next last z e f = let less : suc more - 1 ≡ more = omega arith in rw (e, f, less)

-- ---- what a planned path knows
-- the links that will be used lead to arenas or to none; Joins and Stays are no paths of an arena
abbrev pub FitsArena : ℕ → List ℕ → ℕ → BackPlan → Type 0
FitsArena A b a Damaged = Unit
FitsArena A b a Joins = ⊥
FitsArena A b a Stays = ⊥
FitsArena A b a Empties = Unit
FitsArena A b a (Moves q) = Links A arena_links a b × (q < A) × (at b (next_at arena_links q) ≤ A)
FitsArena A b a Returns = at b usable_head ≤ A
FitsArena A b a Releases = Links A arena_links a b × (at b unused_head ≤ A)

module _ (A : ℕ) (b : List ℕ) (a : ℕ) where
  abbrev F : BackPlan → Type 0
  F = FitsArena A b a

  -- the arena passed last is there, and the one that follows is its next
  abbrev Passed : ℕ → ℕ → Type 0
  Passed next last = last ≢ 0 → (last ≤ A) × (arena b arena_next (linked last) ≡ next)

  fits_goes_in : (next last : ℕ) → next ≤ A → arena b arena_next a ≤ A → Passed next last → F (goes_in A b a last)
  fits_goes_in next last low own passed =
      either F (none? last) _ _ (λ _. tt)
      (λ some. after F (leb (arena b arena_previous a) A) _ _ tt (λ previous.
      let t = passed (eqb-false last 0 some) in (
        record {
          next = rw (next_place a) own;
          previous = rw (previous_place a) (leb-true (arena b arena_previous a) A previous);
        },
        omega (arith, t.0, eqb-false last 0 some),
        rw (next_place (linked last), t.1) low,
      )))
    where
      next_place : (n : ℕ) → next_at arena_links n ≡ arena_word arena_next n
      next_place n = omega arith

      previous_place : (n : ℕ) → previous_at arena_links n ≡ arena_word arena_previous n
      previous_place n = omega arith

  -- own next has been tested once the first link of the walk has
  fits_walk : (more next last : ℕ) → (next ≤ A → arena b arena_next a ≤ A) → Passed next last
      → F (walk A b a more next last)
  unfolding walk
  fits_walk zero next last own passed =
      after F (leb next A) _ _ tt
      (λ low. either F (passes A b a next) _ _ (λ _. tt)
      (λ _. fits_goes_in next last (leb-true next A low) (own (leb-true next A low)) passed))
  fits_walk (suc more) next last own passed =
      after F (leb next A) _ _ tt
      (λ low. either F (passes A b a next) _ _
      (λ _. fits_walk more (arena b arena_next (linked next)) next (λ _. own (leb-true next A low)) (λ _. (leb-true next A low, refl)))
      (λ _. fits_goes_in next last (leb-true next A low) (own (leb-true next A low)) passed))

  pub fits_settling : (P : ℕ) → F (settling A b a P)
  fits_settling P =
      either F (eqb (arena b free_pools a + 1) P) _ _
      (λ _. after F (may_leave A arena_links a b) _ _ tt
      (λ leaves. after F (may_join A unused_head b) _ _ tt (λ joins. (links A arena_links a b leaves, leb-true _ A joins))))
      (λ _. either F (eqb (arena b free_pools a + 1) 1) _ _
      (λ _. after F (may_join A usable_head b) _ _ tt (λ joins. leb-true _ A joins))
      (λ _. fits_walk A (arena b arena_next a) 0 (λ low. low) (λ some. absurd (some refl))))

-- ---- the books' part of each write
abbrev pub moved_after : ℕ → ℕ → List ℕ → List ℕ
moved_after q a b = (move_after 0 0 0 0 0 0 q a (heap_of [] b [])).books

abbrev pub released : ℕ → List ℕ → List ℕ
released a b = (release 0 0 0 0 0 0 a (heap_of [] b [])).books

abbrev pub settled : ℕ → BackPlan → List ℕ → List ℕ
settled a Damaged b = b
settled a Joins b = b
settled a Stays b = b
settled a Empties b = b
settled a (Moves q) b = moved_after q a b
settled a Returns b = join arena_links usable_head a b
settled a Releases b = released a b

-- ---- what a write of a release leaves for the next
-- the books in the middle of a release: the arena has left the usable list, and its record is 0
abbrev pub zeroed : ℕ → List ℕ → List ℕ
zeroed a b = sets (leave arena_links usable_head a b) (arena_word 0 a) (replicate 8 0)

-- they keep their length and the unused head
pub zeroed_keeps : (a : ℕ) (b : List ℕ)
    → (length (zeroed a b) ≡ length b) × (at (zeroed a b) unused_head ≡ at b unused_head)
zeroed_keeps a b =
    let next = at b (next_at arena_links a) in
    let previous = at b (previous_at arena_links a) in
    let before : 3 < arena_links = omega arith in (
      length-sets (leave arena_links usable_head a b) (arena_word 0 a) (replicate 8 0) ∙ length_leave_by arena_links usable_head next previous a b,
      sets_other (leave arena_links usable_head a b) (arena_word 0 a) (replicate 8 0) unused_head (inl (omega arith))
          ∙ leave_keeps arena_links usable_head next previous a b unused_head (
            omega arith,
            (before_links arena_links 3 (previous - 1) before).0,
            (before_links arena_links 3 (next - 1) before).1,
            (before_links arena_links 3 a before).0,
            (before_links arena_links 3 a before).1,
          ),
    )
