-- `heap::roll_call` meets its contract: it knows the room before it writes,
-- so that nothing is written where the room is too small.
use Rattle.std.proofs.Common.{◌≡◌, List, ℕ, ◌*◌, ◌/◌, ◌≤◌, refl, sym, ap, ap₂, ◌∙◌, arith, zero-add, leb, leb-true, leb-false, length}
use Rattle.std.proofs.lemmas.List.Edits.{sets}
use Rattle.std.proofs.lemmas.Result.{err_from_is_err_and}
use Rattle.rules.specs.Books.{alignment_of}
use Rattle.rules.specs.Outcome.{heap_of}
use Rattle.rules.specs.View.{roll_pools}
use Rattle.rules.specs.Numbers.{RollOutcome, shape_number, room_number, roll_of, roll_outcome, roll_call}
use Rattle.rules.specs.Promises.{◌beside◌}
use Rattle.loops.specs.Roll.{length_roll}
use Rattle.loops.specs.Sets.{sets_front}
use Rattle.books.specs.declared.words.Shape.{Shape}
use Rattle.books.specs.declared.refusal.Refusal.TheVariants.{DoesNotFit}
use Rattle.books.specs.Sizes.{aligned}
use Rattle.books.specs.Passing.{refuses, lets_pass, shape_refuses, room_refuses, all_pass, too_little, enough}
use Rattle.heap.proofs.roll_call.Goals.{After-has_room, In_ok-shape, Else-not-has_room}
use Rattle.heap.proofs.roll_call.Goals as goal

pub returns-in_err-shape : goal.returns-in_err-shape
unfolding roll_call
returns-in_err-shape c =
    let a = c.args in
    let h = heap_of a.memory.now a.books.now a.map.now in
    let r = c.in_err-shape.field-0.0 in
    let p = err_from_is_err_and c.from_residual.result c.from_residual.ensures.1 in
    let room = room_number (length (roll_of h)) (length a.roll.now) in
    rw (p.1, p.2)
    (ap (λ (o : RollOutcome). o beside h)
    (refuses (λ k. roll_outcome k 0 a.roll.now) _ r _ (shape_refuses r (shape_number h) 0 0 room c.in_err-shape.ensures.number)))

pub overflow_mul-all : goal.overflow_mul-all
overflow_mul-all c = omega (arith, c.in_ok-shape.ensures.shape.shaped.all)

-- the shape is what was read, so the pools' roll is the heap's
the_roll : (c : In_ok-shape)
    → let a = c.args in
    let s = c.in_ok-shape.shape in
    roll_pools (alignment_of s.edition) s.arenas a.books.now a.map.now 0 (s.arenas * s.pools)
    ≡ roll_of (heap_of a.memory.now a.books.now a.map.now)
the_roll c =
    let a = c.args in
    ap (λ (s : Shape). roll_pools (alignment_of s.edition) s.arenas a.books.now a.map.now 0 (s.arenas * s.pools))
    c.in_ok-shape.ensures.shape.read

pub has_room-requires : goal.has_room-requires
has_room-requires c =
    let s = c.in_ok-shape.ensures.shape.shaped in
    record { few = s.all; books = s.books; map = s.map }

-- the test's answer says whether that roll fits
answered : (c : After-has_room)
    → let a = c.args in
    let all = roll_of (heap_of a.memory.now a.books.now a.map.now) in
    c.has_room.result ≡ leb (length all) (length a.roll.now)
answered c =
    let a = c.args in
    c.has_room.ensures ∙ ap (λ (l : List ℕ). leb (length l) (length a.roll.now)) (the_roll (goal.at.After-has_room c).In_ok-shape)

pub returns-then-not-has_room : goal.returns-then-not-has_room
unfolding roll_call
returns-then-not-has_room c =
    let a = c.args in
    let h = heap_of a.memory.now a.books.now a.map.now in
    let wanted = length (roll_of h) in
    let short = leb-false wanted (length a.roll.now) (sym (answered (goal.at.returns-then-not-has_room c).After-has_room) ∙ c.if-not-has_room.true) in
    ap (λ (o : RollOutcome). o beside h)
    (refuses (λ k. roll_outcome k 0 a.roll.now) _ DoesNotFit _
    (room_refuses DoesNotFit (shape_number h) 0 0 (room_number wanted (length a.roll.now)) c.in_ok-shape.ensures.number refl refl
    (sym (too_little wanted (length a.roll.now) short))))

-- past the test, the roll fits
fits : (c : Else-not-has_room)
    → let a = c.args in
    length (roll_of (heap_of a.memory.now a.books.now a.map.now)) ≤ length a.roll.now
fits c =
    let a = c.args in
    let all = roll_of (heap_of a.memory.now a.books.now a.map.now) in
    leb-true (length all) (length a.roll.now) (sym (answered (goal.at.Else-not-has_room c).After-has_room) ∙ c.if-not-has_room.false)

pub put_roll-words-requires : goal.put_roll-words-requires
put_roll-words-requires c =
    let at-shape = (goal.at.put_roll-words-requires c).In_ok-shape in
    let s = c.in_ok-shape.ensures.shape.shaped in
    let enough-room = fits (goal.at.put_roll-words-requires c).Else-not-has_room in
    (record { few = s.all; books = s.books; map = s.map }, omega (arith, enough-room, ap length (the_roll at-shape)))

pub overflow_cast-result : goal.overflow_cast-result
overflow_cast-result c =
    let a = c.args in
    let s = c.in_ok-shape.shape in
    omega (
      arith,
      c.in_ok-shape.ensures.shape.shaped.all,
      c.put_roll-words.ensures.place,
      length_roll (alignment_of s.edition) s.arenas a.books.now a.map.now (aligned s.edition).low 0 (s.arenas * s.pools),
    )

pub returns : goal.returns
unfolding roll_call
returns c =
    let at-shape = (goal.at.returns c).In_ok-shape in
    let enough-room = fits (goal.at.returns c).Else-not-has_room in
    let a = c.args in
    let h = heap_of a.memory.now a.books.now a.map.now in
    let all = roll_of h in
    let stored = c.put_roll-words.ensures in
    ap (λ (o : RollOutcome). o beside h)
    (lets_pass (λ k. roll_outcome k 0 a.roll.now) _ _ _
    (all_pass c.in_ok-shape.ensures.number refl refl (sym (enough (length all) (length a.roll.now) enough-room)))
    (ap₂ (λ (n : ℕ) (w : List ℕ). roll_outcome 0 (n / 2) w) (stored.place ∙ zero-add _ ∙ ap length (the_roll at-shape))
    (stored.same ∙ ap (sets a.roll.now 0) (the_roll at-shape) ∙ sets_front a.roll.now all enough-room)))
