-- `compare::compare` meets its contract: the tests in order, each of which stops it as the definition says, and then
-- the walk and the changes, which store what the definition lists.
use Rattle.std.proofs.Common.{◌≡◌, ℕ, ◌/◌, ◌≤◌, length, leb-true, leb-false, zero-add, refl, sym, ap, ◌∙◌, arith}
use Rattle.std.proofs.lemmas.List.Edits.{sets}
use Rattle.std.proofs.lemmas.Result.{err_from_is_err_and}
use Rattle.rules.specs.Outcome.{heap_of}
use Rattle.rules.specs.Compare.{differences, classes, CompareOutcome, compare_outcome, compare}
use Rattle.rules.specs.Promises.{◌beside◌}
use Rattle.books.specs.declared.refusal.Refusal.TheVariants.{DoesNotFit}
use Rattle.loops.specs.Sets.{sets_front}
use Rattle.compare.specs.Changes.{classes_are}
use Rattle.compare.specs.Most.{list_most}
use Rattle.compare.specs.Order.{pair_number, pair_stops, list_stops, changes_stop, goes_through, changes_stored, same_outcome}
use Rattle.compare.specs.Pools.{first, second, all_listed}
use Rattle.compare.proofs.compare.Goals.{In_ok-heaps, Else-changes-classes, Else-not-has_room}
use Rattle.compare.proofs.compare.Goals as goal

pub returns-in_err-heaps : goal.returns-in_err-heaps
returns-in_err-heaps c =
    let a = c.args in
    let one = heap_of a.memory.now a.books.now a.map.now in
    let two = heap_of a.memory2.now a.books2.now a.map2.now in
    let p = err_from_is_err_and c.from_residual.result c.from_residual.ensures.1 in
    rw (p.1, p.2)
    (ap (λ (x : CompareOutcome). x beside one beside two)
    (pair_stops one two a.list.now a.changes.now c.in_err-heaps.field-0.0 c.in_err-heaps.ensures.number))

-- ---- past the tests of the shapes, by the heaps as they are lent to be read
module _ (c : In_ok-heaps) where
  passes : let h = c.in_ok-heaps.heaps in 0 ≡ pair_number (first h) (second h)
  passes = rw (c.in_ok-heaps.ensures.heaps.0, c.in_ok-heaps.ensures.heaps.1) c.in_ok-heaps.ensures.number

  told : (x : CompareOutcome)
      → let a = c.args in
      let h = c.in_ok-heaps.heaps in
      let one = heap_of a.memory.now a.books.now a.map.now in
      let two = heap_of a.memory2.now a.books2.now a.map2.now in
      x ≡ compare (first h) (second h) a.list.now a.changes.now
      → (x beside one beside two) ≡ (compare one two a.list.now a.changes.now beside one beside two)
  told x e =
      let h = c.in_ok-heaps.heaps in
      rw (c.in_ok-heaps.ensures.heaps.0, c.in_ok-heaps.ensures.heaps.1) at
      (ap (λ (y : CompareOutcome). y beside first h beside second h) e)

pub returns-then-not-has_room : goal.returns-then-not-has_room
returns-then-not-has_room c =
    let tested = (goal.at.returns-then-not-has_room c).In_ok-heaps in
    let h = c.in_ok-heaps.heaps in
    let a = c.args in
    let short = leb-false _ (length a.list.now) (sym c.has_room.ensures ∙ c.if-not-has_room.true) in
    told tested (compare_outcome 7 0 a.list.now a.changes.now)
    (list_stops (first h) (second h) a.list.now a.changes.now (passes tested) DoesNotFit refl (omega (arith, short, ap length (all_listed h))))

-- the list has room
fits : (c : Else-not-has_room) → let h = c.in_ok-heaps.heaps in length (differences (first h) (second h)) ≤ length c.args.list.now
fits c =
    let h = c.in_ok-heaps.heaps in
    let long = leb-true _ (length c.args.list.now) (sym c.has_room.ensures ∙ c.if-not-has_room.false) in
    omega (arith, long, ap length (all_listed h))

pub returns-then-changes-classes : goal.returns-then-changes-classes
returns-then-changes-classes c =
    let tested = (goal.at.returns-then-changes-classes c).In_ok-heaps in
    let h = c.in_ok-heaps.heaps in
    let a = c.args in
    told tested (compare_outcome 7 0 a.list.now a.changes.now)
    (changes_stop (first h) (second h) a.list.now a.changes.now (passes tested) (fits (goal.at.returns-then-changes-classes c).Else-not-has_room)
    DoesNotFit refl (omega (arith, c.if-changes-classes.true, c.classes.ensures.0, classes_are h)))

-- the changes have
changes_fit : (c : Else-changes-classes) → classes (first c.in_ok-heaps.heaps) ≤ length c.args.changes.now
changes_fit c = omega (arith, c.if-changes-classes.false, c.classes.ensures.0, classes_are c.in_ok-heaps.heaps)

pub overflow_cast-result : goal.overflow_cast-result
overflow_cast-result c =
    let h = c.in_ok-heaps.heaps in
    omega (arith, c.walk_pools-words.ensures.place, list_most h, h.first.shaped.all)

pub returns : goal.returns
returns c =
    let tested = (goal.at.returns c).In_ok-heaps in
    let room = fits (goal.at.returns c).Else-not-has_room in
    let places = changes_fit (goal.at.returns c).Else-changes-classes in
    let h = c.in_ok-heaps.heaps in
    let a = c.args in
    let N = c.walk_pools-words.ensures in
    let D = differences (first h) (second h) in
    let entries = ap (λ (n : ℕ). n / 2) (N.place ∙ zero-add _ ∙ ap length (all_listed h)) in
    let listed = N.stored (omega (arith, room, ap length (all_listed h))) ∙ ap (sets a.list.now 0) (all_listed h) ∙ sets_front a.list.now D room in
    let changed = c.put_all.ensures ∙ changes_stored (first h) (second h) a.changes.now places in
    told tested (compare_outcome 0 (c.walk_pools-words.result / 2) c.walk_pools-words.new.list c.put_all.new.changes)
    (same_outcome entries listed changed ∙ goes_through (first h) (second h) a.list.now a.changes.now (passes tested) room places)
