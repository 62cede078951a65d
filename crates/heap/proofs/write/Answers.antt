-- `heap::write` meets its contract: it tests, the room last, and then copies the text into the live block.
use Rattle.std.proofs.Common.{◌≡◌, List, ℕ, length, sym, ap, ◌∙◌, arith}
use Rattle.std.proofs.lemmas.Result.{err_from_is_err_and}
use Rattle.rules.specs.Numbers.{shape_number, offset_number, room_number, block_size, in_order, write}
use Rattle.rules.specs.Outcome.{heap_of, done, refused}
use Rattle.books.specs.declared.refusal.Refusal.TheVariants.{DoesNotFit}
use Rattle.books.specs.Passing.{refuses, lets_pass, passed, too_little, enough}
use Rattle.heap.specs.Order.{room_after}
use Rattle.heap.proofs.write.Goals.{In_ok-block}
use Rattle.heap.proofs.write.Goals as goal

pub returns-in_err-block : goal.returns-in_err-block
unfolding write
returns-in_err-block c =
    let a = c.args in
    let h = heap_of a.memory.now a.books.now a.map.now in
    let r = c.in_err-block.field-0.0 in
    let room = room_number (length a.text.now) (block_size h a.offset) in
    let p = err_from_is_err_and c.from_residual.result c.from_residual.ensures.1 in
    rw (p.1, p.2)
    (refuses (λ k. refused k h) _ r _
    (refuses (λ n. n) room r _ c.in_err-block.ensures.number ∙ sym (room_after (shape_number h) (offset_number h a.offset) room)))

-- past the tests of the offset the room decides
room_decides : (c : In_ok-block)
    → let a = c.args in
    let h = heap_of a.memory.now a.books.now a.map.now in
    let room = room_number (length a.text.now) (block_size h a.offset) in
    room ≡ in_order (shape_number h) 0 (offset_number h a.offset) room
room_decides c =
    let a = c.args in
    let h = heap_of a.memory.now a.books.now a.map.now in
    sym (passed (λ n. n) _ _ (sym c.in_ok-block.ensures.number))
    ∙ sym (room_after (shape_number h) (offset_number h a.offset) (room_number (length a.text.now) (block_size h a.offset)))

pub returns-then-block-text : goal.returns-then-block-text
unfolding write
returns-then-block-text c =
    let a = c.args in
    let h = heap_of a.memory.now a.books.now a.map.now in
    refuses (λ k. refused k h) _ DoesNotFit _
    (sym (too_little (length a.text.now) (block_size h a.offset) (omega (arith, c.in_ok-block.ensures.block.found.size)))
    ∙ room_decides (goal.at.returns-then-block-text c).In_ok-block)

pub store-requires : goal.store-requires
store-requires c =
    let t = c.in_ok-block.ensures.block in omega (arith, t.shaped.memory, t.found.live.ends, t.found.size)

pub overflow_cast-result : goal.overflow_cast-result
overflow_cast-result c =
    let t = c.in_ok-block.ensures.block in omega (arith, t.shaped.memory, t.shaped.all, t.found.live.inside)

pub returns : goal.returns
unfolding write
returns c =
    let a = c.args in
    let h = heap_of a.memory.now a.books.now a.map.now in
    lets_pass (λ k. refused k h) _ _ _
    (sym (enough (length a.text.now) (block_size h a.offset) (omega (arith, c.in_ok-block.ensures.block.found.size)))
    ∙ room_decides (goal.at.returns c).In_ok-block)
    (ap (λ (x : List ℕ). done a.offset (heap_of x a.books.now a.map.now)) c.store.ensures)
