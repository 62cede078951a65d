-- Rule 6's lists, by the heads that the survey has found: each list holds the records of its head.
-- Assumes nothing.
use Rattle.std.specs.Prelude.{◌≡◌, Bool, true, false, ◌&&◌, List, ℕ, ◌+◌, ◌*◌, ◌≤◌, eqb, length}
use Rattle.std.proofs.Common.{sym, ap, ◌∙◌, arith}
use Rattle.std.proofs.Math.Bool.{and_assoc}
use Rattle.rules.specs.Say.{all_below, how_many}
use Rattle.rules.specs.Books.{at, usable_head, unused_head, class_head, freed_head, arena_next, arena_previous, arena_word, pool_next, pool_previous, pool_word}
use Rattle.rules.specs.Lists.{next_at, previous_at, arena_links, pool_links}
use Rattle.rules.specs.Audit.{holds, freed_member, freed_list, usable_member, unused_member, arena_list, class_member, class_list}
use Rattle.books.specs.Sizes.{aligned}
use Rattle.audit.specs.declared.lent.Lent.{Lent}
use Rattle.audit.specs.Turns.{all_same, holds_same}
use Rattle.audit.specs.Survey.{Filled, alignment_in, Surveyed, arena_home_of, home_is, arena_home_is}

-- what the walk of a list stands on: the heads of the lists of some records, and how many of them each is to have
pub record Tallied (base : ℕ) (b homes tallies : List ℕ) : Type 0 where
  pub few : length homes ≤ 1024
  pub books : base + 8 * length homes ≤ length b + 6
  pub tallied : Filled (λ h. how_many (λ y. eqb (at homes y) h) (length homes)) 256 tallies

-- the list with this head holds the records whose head it is
abbrev pub list_holds : ℕ → List ℕ → List ℕ → Bool → ℕ → Bool
list_holds base b homes doubly head =
    holds (next_at base) (previous_at base) (λ y. eqb (at homes y) head) (length homes) b doubly head

module _ {heap : Lent} {counts homes : List ℕ} (S : Surveyed heap counts homes) where
  abbrev A : ℕ
  A = heap.shape.arenas

  abbrev P : ℕ
  P = heap.shape.pools

  abbrev al : ℕ
  al = alignment_in heap

  abbrev b : List ℕ
  b = heap.books.now

  abbrev map : List ℕ
  map = heap.map.now

  pub freed_are : all_below (λ a. list_holds (pool_links A) b homes false (arena_word freed_head a)) A
      ≡ all_below (freed_list A P b map) A
  freed_are =
      rw S.homes_long (all_same (freed_list A P b map) _ A (λ a l. holds_same (pool_word A pool_next) (pool_word A pool_previous) _ _
      (freed_member P b map a) (λ y. eqb (at homes y) (arena_word freed_head a)) (A * P) b false (λ y. omega arith) (λ y. omega arith)
      (λ y u. ap (λ (h : ℕ). eqb h (arena_word freed_head a)) (S.homed y u) ∙ sym ((home_is (aligned heap.shape.edition) A P b map y).freed a))
      (arena_word freed_head a)))

  pub classes_are : all_below (λ c. list_holds (pool_links A) b homes true (class_head c)) 64
      ≡ all_below (class_list al A P b map) 64
  classes_are =
      rw S.homes_long (all_same (class_list al A P b map) _ 64 (λ c l. holds_same (pool_word A pool_next) (pool_word A pool_previous) _ _
      (class_member al A P b map c) (λ y. eqb (at homes y) (class_head c)) (A * P) b true (λ y. omega arith) (λ y. omega arith)
      (λ y u. ap (λ (h : ℕ). eqb h (class_head c)) (S.homed y u) ∙ sym ((home_is (aligned heap.shape.edition) A P b map y).listed c l))
      (class_head c)))

-- and so of the arenas' two lists
module _ (A : ℕ) (b homes : List ℕ) (long : length homes ≡ A) (F : Filled (arena_home_of b) (length homes) homes) where
  arena_list_lem : (member : ℕ → Bool) (head : ℕ) → ((a : ℕ) → member a ≡ eqb (arena_home_of b a) head)
      → list_holds arena_links b homes true head ≡ arena_list A b member head
  arena_list_lem member head same =
      rw long (holds_same (arena_word arena_next) (arena_word arena_previous) _ _ member (λ y. eqb (at homes y) head) A b true
      (λ y. omega arith) (λ y. omega arith) (λ y u. ap (λ (h : ℕ). eqb h head) (F y (omega arith)) ∙ sym (same y)) head)

  pub usable_is : list_holds arena_links b homes true usable_head ≡ arena_list A b (usable_member b) usable_head
  usable_is = arena_list_lem (usable_member b) usable_head (λ a. (arena_home_is b a).usable)

  pub unused_is : list_holds arena_links b homes true unused_head ≡ arena_list A b (unused_member b) unused_head
  unused_is = arena_list_lem (unused_member b) unused_head (λ a. (arena_home_is b a).unused)

-- the parts of rule 6, as the code has them: the arenas' two lists are tested together
pub all_parts : (f' u n : Bool) {f l c p a c' p' a' : Bool} → f ≡ f' → l ≡ (u && n) → c ≡ c' → p ≡ p' → a ≡ a'
    → (f && l && c && p && a) ≡ (f' && u && n && c' && p' && a')
all_parts f' u n e₁ e₂ e₃ e₄ e₅ = rw (e₁, e₂, e₃, e₄, e₅, and_assoc f' u n)
