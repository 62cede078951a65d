-- `records::replay_records` tests the shape and the room, and then answers record by record:
-- at turn i the replies from record i on are left.
use mathlib.Core.Path.{refl, sym, ap, ap₂, ◌≡◌, ◌∙◌}
use Prim.Native.Nat.{ℕ, ◌+◌, ◌*◌, ◌<◌, min}
use Rattle.std.proofs.Common.{rules}
use native.Mathlib.Omega.{arith}
use lib.ListN.{drop, length}
use lib.Seq.{sets}
use Rattle.std.proofs.lemmas.List.{length-drop, drop-drop}
use Rattle.std.proofs.lemmas.Result.{err_from_is_err_and}
use Rattle.std.specs.Iterator.Adapters.{enumerate_source, enumerate_count}
use Rattle.std.specs.Slice.Iter.{chunks_rest}
use Rattle.rules.specs.Outcome.{heap_of}
use Rattle.rules.specs.Replay.{Replied, replay_record}
use Rattle.books.specs.Refusals.{number_of}
use Rattle.records.specs.Replies.{Whole, tested_whole, counted, still_whole, not_zero}
use Rattle.records.specs.Pieces.{begin, turn, stored, record_sent, record_at, cut, no_heap, no_room_lem, all_done}
use Rattle.records.proofs.replay_records.Goals.{In_ok-test_shape, In-Some}
use Rattle.records.proofs.replay_records.Goals as goal

pub returns-in_err-test_shape : goal.returns-in_err-test_shape
returns-in_err-test_shape c =
    let a = c.args in
    let refusal = c.in_err-test_shape.field-0.0 in
    let p = err_from_is_err_and c.from_residual.result c.from_residual.ensures.1 in
    rw (p.1, p.2) (no_heap (heap_of a.memory.now a.books.now a.map.now) a.input.now a.output.now (number_of refusal)
    c.in_err-test_shape.ensures.number (not_zero refusal))

pub returns-then-output-records : goal.returns-then-output-records
returns-then-output-records c =
    let a = c.args in
    no_room_lem (heap_of a.memory.now a.books.now a.map.now) a.input.now a.output.now
    (sym c.in_ok-test_shape.ensures.number) (omega arith)

-- the heap is whole where its shape is tested
whole : (c : In_ok-test_shape) → Whole c.args.memory.now c.args.books.now c.args.map.now
whole c = let a = c.args in tested_whole a.memory.now a.books.now a.map.now c.in_ok-test_shape.ensures.shape

pub live_blocks-live-requires : goal.live_blocks-live-requires
live_blocks-live-requires c =
    let a = c.args in
    counted a.memory.now a.books.now a.map.now (whole (goal.at.live_blocks-live-requires c).In_ok-test_shape)

pub loop-i-init : goal.loop-i-init
loop-i-init c =
    let source = ap enumerate_source c.into_iter-i-iterator.ensures.into_iter_gives ∙ c.enumerate-i-items.ensures.source in
    let none = ap enumerate_count c.into_iter-i-iterator.ensures.into_iter_gives ∙ c.enumerate-i-items.ensures.count in (
      search rules,
      tt,
      search rules,
      rw (source, none) c.chunks.ensures.rest,
      omega (arith, none),
      omega arith,
      rw none begin,
      whole (goal.at.loop-i-init c).In_ok-test_shape,
      refl,
      refl,
      refl,
      c.live_blocks-live.ensures,
    )

pub answer-reply-requires : goal.answer-reply-requires
answer-reply-requires c = let p = c.loop-i.invariant in (p.7, p.11)

-- record i comes off the front of what is left of the input
taken : (c : In-Some)
    → let i = c.in-Some.i in
    (c.in-Some.bytes.now ≡ record_at i c.args.input.now)
    × (chunks_rest (enumerate_source c.next.new.self) ≡ drop 16 (drop (16 * i) c.args.input.now))
    × (i < c.div_ceil-records.result)
taken c =
    let p = c.loop-i.invariant in
    let input = c.args.input.now in
    let steps = c.in-Some.ensures.steps in
    let rest = p.3 ∙ ap (λ (j : ℕ). drop (16 * j) input) (sym steps.1) in
    let parts = cut (drop (16 * c.in-Some.i) input) c.in-Some.bytes.now (chunks_rest (enumerate_source c.next.new.self))
    (sym rest ∙ steps.0.1.0) (steps.0.1.1 ∙ ap₂ min p.2 (ap length rest)) in
    (parts.0, parts.1, omega (arith, p.5, steps.0.1.2, ap length rest, length-drop (16 * c.in-Some.i) input))

pub put-requires : goal.put-requires
put-requires c = omega (arith, (taken (goal.at.put-requires c).In-Some).2, c.loop-i.invariant.6.long)

pub loop-i-preserved : goal.loop-i-preserved
loop-i-preserved c =
    let a = c.args in
    let p = c.loop-i in
    let x = c.answer-reply in
    let i = c.in-Some.i in
    let steps = c.in-Some.ensures.steps in
    let now = taken (goal.at.loop-i-preserved c).In-Some in
    let next : enumerate_count c.next.new.self ≡ i + 1 = steps.2 ∙ ap (λ (j : ℕ). j + 1) (sym steps.1) in
    let there : 16 * (i + 1) ≡ 16 * i + 16 = omega arith in
    let e = x.ensures.0 ∙ ap (replay_record (heap_of p.memory p.books p.map)) now.0 in
    let t = record_sent (heap_of p.memory p.books p.map) (record_at i a.input.now) in (
      search rules,
      tt,
      steps.0.0 ∙ p.invariant.2,
      rw (next, there) (now.1 ∙ drop-drop 16 (16 * i) a.input.now),
      rw next (omega (arith, now.2)),
      p.invariant.5,
      rw next (turn i now.2 (rw steps.1 p.invariant.6) (c.put.ensures ∙ ap (λ (y : Replied). sets p.output (16 * i) y.reply) e)
          (ap (λ (y : Replied). y.heap) e)),
      still_whole p.memory p.books p.map x.new.memory x.new.books x.new.map _ p.invariant.7 t.kept (ap (λ (y : Replied). y.heap) e)
          x.auto.memory x.auto.books x.auto.map,
      x.auto.memory ∙ p.invariant.8,
      x.auto.books ∙ p.invariant.9,
      x.auto.map ∙ p.invariant.10,
      x.ensures.1,
    )

pub returns : goal.returns
returns c =
    let a = c.args in
    let p = c.loop-i in
    let i = enumerate_count p.i-iterator in
    let none = sym (ap length p.invariant.3) ∙ c.in-None.ensures.steps.0.1.0 in
    let e : i ≡ c.div_ceil-records.result = omega (arith, p.invariant.4, p.invariant.5, none, length-drop (16 * i) a.input.now) in
    let s = stored i e p.invariant.6 in
    rw p.invariant.5 (all_done (heap_of a.memory.now a.books.now a.map.now) a.input.now a.output.now
    (sym c.in_ok-test_shape.ensures.number) (omega (arith, p.invariant.5))
    p.output (heap_of p.memory p.books p.map) (rw p.invariant.5 at s.0) (rw p.invariant.5 at s.1))
