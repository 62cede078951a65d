-- The order of the tests: where compare stops, and what it leaves where it passes them all.
-- Assumes nothing.
use Rattle.std.specs.Prelude.{◌≡◌, refl, Bool, ◌&&◌, nat_eq, if◌then◌else◌, List, ◌++◌, ℕ, zero, suc, ◌+◌, ◌/◌, ◌≤◌, ◌<◌, ℤ, length, drop}
use Rattle.std.proofs.Common.{sym, ap, ap₂, ◌∙◌, arith}
use Rattle.std.proofs.Math.Bool.{and_assoc}
use Rattle.std.proofs.lemmas.List.Edits.{sets, sets-eq}
use Rattle.rules.specs.Books.{Heap}
use Rattle.rules.specs.Numbers.{shape_number, room_number, ◌before◌}
use Rattle.rules.specs.Compare.{differences, changes_from, changes, classes, unequal_number, compare_outcome, compare_tests, compare}
use Rattle.books.specs.declared.words.Shape.{Shape}
use Rattle.books.specs.Known.{shape_of}
use Rattle.books.specs.declared.refusal.Refusal.{Refusal}
use Rattle.books.specs.Passing.{refuses, passed, lets_pass, too_little, enough}
use Rattle.books.specs.Refusals.{number_of}

-- ---- the tests, one after the other; first those of both shapes
abbrev pub pair_number : Heap → Heap → ℕ
pair_number one two = shape_number one before shape_number two before unequal_number one two

-- where each heap has its shape, they go by whether the two are one
abbrev same : Shape → Shape → Bool
same s s' = nat_eq s.arenas s'.arenas && (nat_eq s.pools s'.pools && nat_eq s.edition s'.edition)

pub by_shapes : (one two : Heap) (s s' : Shape) → 0 ≡ shape_number one → 0 ≡ shape_number two
    → s ≡ shape_of one.books → s' ≡ shape_of two.books
    → pair_number one two ≡ (if same s s' then 0 else 12)
unfolding unequal_number
by_shapes one two s s' a b e f =
    let t = shape_of one.books in
    let t' = shape_of two.books in
    rw (← a, ← b, e, f) (ap by_test (and_assoc (nat_eq t.arenas t'.arenas) (nat_eq t.pools t'.pools) (nat_eq t.edition t'.edition)))
  where
    by_test : Bool → ℕ
    by_test u = if u then 0 else 12

before_more : (a b c rest : ℕ) → ((a before b before c) before rest) ≡ (a before b before c before rest)
before_more zero zero c rest = refl
before_more zero (suc b) c rest = refl
before_more (suc a) b c rest = refl

module _ (one two : Heap) (list : List ℕ) (lent : List ℤ) where
  -- those of the room
  abbrev rooms : ℕ
  rooms = room_number (length (differences one two)) (length list) before room_number (classes one) (length lent)

  in_turn : (pair_number one two before rooms) ≡ compare_tests one two (length list) (length lent)
  in_turn = before_more (shape_number one) (shape_number two) (unequal_number one two) rooms

  stops : (r : Refusal) → number_of r ≡ (pair_number one two before rooms)
      → compare_outcome (number_of r) 0 list lent ≡ compare one two list lent
  unfolding compare
  stops r e = refuses (λ k. compare_outcome k 0 list lent) _ r _ (e ∙ in_turn)

  pub pair_stops : (r : Refusal) → number_of r ≡ pair_number one two
      → compare_outcome (number_of r) 0 list lent ≡ compare one two list lent
  pair_stops r e = stops r (refuses (λ n. n) rooms r (pair_number one two) e)

  module _ (p : 0 ≡ pair_number one two) where
    room_stops : (r : Refusal) → number_of r ≡ rooms
        → compare_outcome (number_of r) 0 list lent ≡ compare one two list lent
    room_stops r e = stops r (e ∙ sym (passed (λ n. n) rooms (pair_number one two) (sym p)))

    pub list_stops : (r : Refusal) → number_of r ≡ 7 → length list < length (differences one two)
        → compare_outcome (number_of r) 0 list lent ≡ compare one two list lent
    list_stops r e l =
        room_stops r (refuses (λ n. n) _ r _ (e ∙ sym (too_little (length (differences one two)) (length list) l)))

    module _ (d : length (differences one two) ≤ length list) where
      pub changes_stop : (r : Refusal) → number_of r ≡ 7 → length lent < classes one
          → compare_outcome (number_of r) 0 list lent ≡ compare one two list lent
      changes_stop r e l =
          room_stops r (rw (enough (length (differences one two)) (length list) d) (e ∙ sym (too_little (classes one) (length lent) l)))

      pub goes_through : classes one ≤ length lent
          → compare_outcome 0 (length (differences one two) / 2)
          (differences one two ++ drop (length (differences one two)) list)
          (changes one two ++ drop (classes one) lent)
          ≡ compare one two list lent
      unfolding compare
      goes_through l =
          let room : rooms ≡ 0 = rw (enough (length (differences one two)) (length list) d) (enough (classes one) (length lent) l) in
          lets_pass (λ k. compare_outcome k 0 list lent) _ _ (compare_tests one two (length list) (length lent))
          (sym room ∙ sym (passed (λ n. n) rooms (pair_number one two) (sym p)) ∙ in_turn) refl

-- ---- what is stored at the front of the changes, and what stays
length_changes : (first second : Heap) (c n : ℕ) → length (changes_from first second c n) ≡ n
unfolding changes_from
length_changes first second c zero = refl
length_changes first second c (suc n) = ap suc (length_changes first second (suc c) n)

pub changes_stored : (first second : Heap) (lent : List ℤ) → classes first ≤ length lent
    → sets lent 0 (changes first second) ≡ changes first second ++ drop (classes first) lent
changes_stored first second lent h =
    let long = length_changes first second 0 (classes first) in
    let e : 0 + length (changes first second) ≡ classes first = omega (arith, long) in
    sets-eq (changes first second) lent 0 (omega (arith, long)) ∙ ap (λ (k : ℕ). changes first second ++ drop k lent) e

-- ---- outcomes that are done, with the same in each place
pub same_outcome : {m n : ℕ} {l k : List ℕ} {c d : List ℤ} → m ≡ n → l ≡ k → c ≡ d
    → compare_outcome 0 m l c ≡ compare_outcome 0 n k d
same_outcome {m} {n} {l} {k} {c} {d} x y z =
    ap (λ (i : ℕ). compare_outcome 0 i l c) x ∙ ap₂ (λ (i : List ℕ) (j : List ℤ). compare_outcome 0 n i j) y z
