-- W-212, over any two heaps, lists and changes at all: which number compare answers, and when; and what it gives.
-- Assumes nothing.
use Rattle.std.specs.Prelude.{◌≡◌, ◌≢◌, ◌↔◌, ◌⊎◌, Bool, true, false, ◌&&◌, ltb, eqb, ℤ, length, drop, cond, if◌then◌else◌}
use Rattle.std.proofs.Math.Path.{refl, subst}
use Rattle.std.proofs.Common.{sym, ◌∙◌, inl, inr, arith}
use mathlib.Core.List.{List, ◌++◌}
use Prim.Native.Nat.{ℕ, zero, suc, ◌+◌, ◌*◌, ◌/◌, ◌≤◌, ◌<◌}
use Rattle.std.proofs.Math.Decide.{ℕ_discrete, dec_lt}
use Rattle.std.proofs.Math.ListN.{get_or-append}
use borrow.Author.Tests.{ne_eqb, lt-ltb, le-ltb}
use Rattle.rules.specs.Books.{Heap, at, memory_length, arenas, pools, edition}
use Rattle.rules.specs.Outcome.{passing}
use Rattle.rules.specs.Numbers.{shape_number, room_number, ◌before◌}
use Rattle.rules.specs.Compare.{
  kind_at,
  differences,
  classes,
  changes,
  unequal_number,
  compare_outcome,
  compare_tests,
  compare,
}
use Rattle.books.specs.Tests.{either}
use Rattle.books.specs.Passing.{passed}
use Rattle.sequences.specs.Listing.{held_below}
use Rattle.laws.specs.Refused.{shape_few}
use Rattle.laws.specs.Beside.{Alike, difference_listed, differences_long, listed_means}

-- ---- the tests
-- 0 or 12, of two; 0 or 7, of a list
abbrev UnequalOrNot : Heap → Heap → Type 0
UnequalOrNot first second = (unequal_number first second ≡ 0) ⊎ (unequal_number first second ≡ 12)

unequal_is : (first second : Heap) → UnequalOrNot first second
unfolding unequal_number
unequal_is first second =
    either (λ (k : ℕ). (k ≡ 0) ⊎ (k ≡ 12))
    (eqb (arenas first) (arenas second) && eqb (pools first) (pools second) && eqb (edition first) (edition second)) 0 12
    (λ _. inl refl) (λ _. inr refl)

abbrev RoomOrNot : ℕ → ℕ → Type 0
RoomOrNot wanted room =
    ((room_number wanted room ≡ 0) × (wanted ≤ room)) ⊎ ((room_number wanted room ≡ 7) × (room < wanted))

room_is : (wanted room : ℕ) → RoomOrNot wanted room
unfolding room_number
room_is wanted room = go (dec_lt room wanted)
  where
    go : Dec (room < wanted) → RoomOrNot wanted room
    go (yes l) = inr (rw (lt-ltb room wanted l), l)
    go (no l) = inl (rw (le-ltb room wanted (omega arith)), omega arith)

module _ (first second : Heap) (list : List ℕ) (lent : List ℤ) where
  -- the list does not fit, or the changes do not; both do
  abbrev pub TooFew : Type 0
  TooFew = (length list < length (differences first second)) ⊎ (length lent < classes first)

  abbrev pub Fits : Type 0
  Fits = (length (differences first second) ≤ length list) × (classes first ≤ length lent)

  -- the number is that of the tests
  number_is : (compare first second list lent).answer.number ≡ compare_tests first second (length list) (length lent)
  unfolding compare
  number_is = go (compare_tests first second (length list) (length lent)) _ _ _
    where
      go : (k n : ℕ) (listed : List ℕ) (changed : List ℤ)
          → (passing k (λ j. compare_outcome j 0 list lent) (compare_outcome 0 n listed changed)).answer.number ≡ k
      go zero n listed changed = refl
      go (suc k) n listed changed = refl

  -- what each number says
  abbrev Said : ℕ → Type 0
  Said k =
      cond (eqb k 12) ((shape_number first ≡ 0) × (shape_number second ≡ 0) × (unequal_number first second ≢ 0))
      (cond (eqb k 7) (Alike first second × TooFew)
      (cond (eqb k 0) (Alike first second × Fits)
      ((k ≡ 1) ⊎ (k ≡ 2))))

  -- the tests go from the first heap to the changes
  said_of : Said (compare_tests first second (length list) (length lent))
  said_of = by_first (shape_number first) refl (shape_few first)
    where
      low : (k : ℕ) → k ≢ 0 → k ≤ 2 → Said k
      low zero d l = absurd (d refl)
      low (suc zero) d l = inl refl
      low (suc (suc zero)) d l = inr refl
      low (suc (suc (suc k))) d l = absurd (omega arith)

      wanted : ℕ
      wanted = length (differences first second)

      rooms : ℕ
      rooms = room_number wanted (length list) before room_number (classes first) (length lent)

      by_room : Alike first second → RoomOrNot wanted (length list) → RoomOrNot (classes first) (length lent)
          → Said rooms
      by_room alike (inr t) u = rw t.0 (alike, inl t.1)
      by_room alike (inl t) (inr u) = rw (t.0, u.0) (alike, inr u.1)
      by_room alike (inl t) (inl u) = rw (t.0, u.0) (alike, (t.1, u.1))

      Before : ℕ → Type 0
      Before k = Said (k before rooms)

      by_both : shape_number first ≡ 0 → shape_number second ≡ 0 → UnequalOrNot first second
          → Before (unequal_number first second)
      by_both z w (inl e) = subst Before (sym e) (by_room (z, w, e) (room_is wanted (length list)) (room_is (classes first) (length lent)))
      by_both z w (inr e) = subst Before (sym e) (z, w, λ q. absurd (omega (arith, e, q)))

      by_second : shape_number first ≡ 0 → (k : ℕ) → shape_number second ≡ k → k ≤ 2
          → Said (k before unequal_number first second before rooms)
      by_second z zero w l = by_both z w (unequal_is first second)
      by_second z (suc k) w l = low (suc k) (omega arith) l

      by_first : (k : ℕ) → shape_number first ≡ k → k ≤ 2
          → Said (k before shape_number second before unequal_number first second before rooms)
      by_first zero z l = by_second z (shape_number second) refl (shape_few second)
      by_first (suc k) z l = low (suc k) (omega arith) l

  -- what compare answers: 12, exactly if the tests of 1 and 2 pass both heaps and A, P or the edition is not equal; 7,
  -- exactly if none of those refuses, and the list does not fit, or the changes do not; 0, exactly if all fits
  pub compare_means : let k = (compare first second list lent).answer.number in
      (k ≡ 12 ↔ (shape_number first ≡ 0) × (shape_number second ≡ 0) × (unequal_number first second ≢ 0))
      × (k ≡ 7 ↔ Alike first second × TooFew)
      × (k ≡ 0 ↔ Alike first second × Fits)
  unfolding room_number
  compare_means = (
    (λ e. subst Said (sym number_is ∙ e) said_of, λ t. number_is ∙ rw (t.0, t.1, twelve t.2 (unequal_is first second))),
    (λ e. subst Said (sym number_is ∙ e) said_of, λ t. number_is ∙ rw (t.0.0, t.0.1, t.0.2) (few t.1)),
    (
      λ e. subst Said (sym number_is ∙ e) said_of,
      λ t. number_is
          ∙ rw (
            t.0.0,
            t.0.1,
            t.0.2,
            le-ltb (length list) (length (differences first second)) t.1.0,
            le-ltb (length lent) (classes first) t.1.1,
          ),
    ),
  )
    where
      twelve : unequal_number first second ≢ 0 → UnequalOrNot first second → unequal_number first second ≡ 12
      twelve d (inl e) = absurd (d e)
      twelve d (inr e) = e

      few : TooFew
          → room_number (length (differences first second)) (length list) before room_number (classes first)
          (length lent)
          ≡ 7
      few (inl l) = rw (lt-ltb (length list) (length (differences first second)) l)
      few (inr l) = rw (lt-ltb (length lent) (classes first) l) (go (ltb (length list) (length (differences first second))))
        where
          go : (t : Bool) → (if t then 7 else 0) before 7 ≡ 7
          go true = refl
          go false = refl

  -- and no other number than these, 1 and 2
  pub compare_numbers : let k = (compare first second list lent).answer.number in
      (k ≡ 0) ⊎ (k ≡ 1) ⊎ (k ≡ 2) ⊎ (k ≡ 12) ⊎ (k ≡ 7)
  compare_numbers =
      let n = compare_tests first second (length list) (length lent) in
      rw number_is (go n (ℕ_discrete n 12) (ℕ_discrete n 7) (ℕ_discrete n 0) said_of)
    where
      One : ℕ → Type 0
      One k = (k ≡ 0) ⊎ (k ≡ 1) ⊎ (k ≡ 2) ⊎ (k ≡ 12) ⊎ (k ≡ 7)

      low : (k : ℕ) → (k ≡ 1) ⊎ (k ≡ 2) → One k
      low k (inl e) = inr (inl e)
      low k (inr e) = inr (inr (inl e))

      go : (k : ℕ) → Dec (k ≡ 12) → Dec (k ≡ 7) → Dec (k ≡ 0) → Said k → One k
      go k (yes e) b c s = inr (inr (inr (inl e)))
      go k (no a) (yes e) c s = inr (inr (inr (inr e)))
      go k (no a) (no b) (yes e) s = inl e
      go k (no a) (no b) (no c) s = low k (rw (ne_eqb k 12 a, ne_eqb k 7 b, ne_eqb k 0 c) at s)

  -- done, it gives the list and the changes, and leaves what is past them
  pub compare_gives : (compare first second list lent).answer.number ≡ 0
      → compare first second list lent
      ≡ compare_outcome 0 (length (differences first second) / 2)
      (differences first second ++ drop (length (differences first second)) list)
      (changes first second ++ drop (classes first) lent)
  unfolding compare
  compare_gives z = passed (λ j. compare_outcome j 0 list lent) _ (compare_tests first second (length list) (length lent)) (sym number_is ∙ z)

  -- so the list has each offset that differs in its place, with its kind, and its entries are as many as differ
  pub compare_lists : (compare first second list lent).answer.number ≡ 0
      → let x = compare first second list lent in
      (x.answer.entries ≡ held_below (kind_at first second) (memory_length (arenas first) (pools first)))
      × ((o : ℕ) → kind_at first second o ≢ 0
      → let place = 2 * held_below (kind_at first second) o in
      (at x.listed place ≡ o) × (at x.listed (place + 1) ≡ kind_at first second o))
  compare_lists z =
      let D = differences first second in
      let equal = (compare_means.2.0 z).0.2 in
      rw (compare_gives z) (
        omega (arith, differences_long first second),
        λ o some.
            let t = difference_listed first second equal o some in
            let low = ((listed_means first second equal o _).1 (some, refl)).0 in
            let rest = drop (length D) list in
            let place = 2 * held_below (kind_at first second) o in (
              get_or-append D rest 0 place low ∙ t.0,
              get_or-append D rest 0 (place + 1) (omega (arith, low, differences_long first second)) ∙ t.1,
            ),
      )
