-- `heap::resize` meets its contract: it tests the shape and the size, then the offset, and then takes the step.
use Rattle.std.proofs.Common.{◌≡◌, refl, ap, ◌∙◌}
use Rattle.std.proofs.lemmas.Result.{err_from_is_err_and}
use Rattle.rules.specs.Books.{alignment_of}
use Rattle.rules.specs.Blocks.{live_number}
use Rattle.rules.specs.Numbers.{shape_number, size_number, offset_number, resize}
use Rattle.rules.specs.Outcome.{heap_of, refused}
use Rattle.rules.specs.Resize.{resize_step}
use Rattle.books.specs.declared.words.Shape.{Shape}
use Rattle.books.specs.Passing.{refuses, lets_pass, shape_refuses, size_refuses, offset_refuses, all_pass}
use Rattle.heap.proofs.resize.Goals.{In_ok-shape}
use Rattle.heap.proofs.resize.Goals as goal

-- the offset's number, by the shape that the books hold
offset_is : (c : In_ok-shape)
    → let a = c.args in
    let s = c.in_ok-shape.shape in
    live_number (alignment_of s.edition) s.arenas s.pools a.books.now a.map.now a.offset
    ≡ offset_number (heap_of a.memory.now a.books.now a.map.now) a.offset
offset_is c =
    let a = c.args in
    ap (λ (s : Shape). live_number (alignment_of s.edition) s.arenas s.pools a.books.now a.map.now a.offset)
    c.in_ok-shape.ensures.shape.read

pub returns-in_err-shape-clause-what : goal.returns-in_err-shape-clause-what
unfolding resize
returns-in_err-shape-clause-what c =
    let a = c.args in
    let h = heap_of a.memory.now a.books.now a.map.now in
    let r = c.in_err-shape.field-0.0 in
    let p = err_from_is_err_and c.from_residual.result c.from_residual.ensures.1 in
    rw (p.1, p.2)
    (refuses (λ k. refused k h) _ r _
    (shape_refuses r (shape_number h) (size_number a.size) (offset_number h a.offset) 0 c.in_err-shape.ensures.number))

pub returns-in_err-test_size-clause-what : goal.returns-in_err-test_size-clause-what
unfolding resize
returns-in_err-test_size-clause-what c =
    let a = c.args in
    let h = heap_of a.memory.now a.books.now a.map.now in
    let r = c.in_err-test_size.field-0.0 in
    let p = err_from_is_err_and c.from_residual-in_err-test_size.result c.from_residual-in_err-test_size.ensures.1 in
    rw (p.1, p.2)
    (refuses (λ k. refused k h) _ r _
    (size_refuses r (shape_number h) (size_number a.size) (offset_number h a.offset) 0 c.in_ok-shape.ensures.number
    c.in_err-test_size.ensures.number))

pub returns-in_err-live_block-clause-what : goal.returns-in_err-live_block-clause-what
unfolding resize
returns-in_err-live_block-clause-what c =
    let a = c.args in
    let h = heap_of a.memory.now a.books.now a.map.now in
    let r = c.in_err-live_block.field-0.0 in
    let p = err_from_is_err_and c.from_residual-in_err-live_block.result c.from_residual-in_err-live_block.ensures.1 in
    rw (p.1, p.2)
    (refuses (λ k. refused k h) _ r _
    (offset_refuses r (shape_number h) (size_number a.size) (offset_number h a.offset) 0 c.in_ok-shape.ensures.number
    c.in_ok-test_size.ensures.number
    (c.in_err-live_block.ensures.number ∙ offset_is (goal.at.returns-in_err-live_block-clause-what c).In_ok-shape)))

pub resize_step-requires : goal.resize_step-requires
resize_step-requires c =
    let t = c.in_ok-shape.ensures.shape in
    let n = c.in_ok-test_size.ensures.size in
    (t.shaped, c.in_ok-live_block.ensures.block.live, n.0, n.1, t.edition)

pub returns-clause-what : goal.returns-clause-what
unfolding resize
returns-clause-what c =
    let a = c.args in
    let h = heap_of a.memory.now a.books.now a.map.now in
    lets_pass (λ k. refused k h) _ _ _
    (all_pass c.in_ok-shape.ensures.number c.in_ok-test_size.ensures.number
    (c.in_ok-live_block.ensures.number ∙ offset_is (goal.at.returns-clause-what c).In_ok-shape) refl)
    (c.resize_step.ensures.what
    ∙ ap (λ (s : Shape). resize_step (alignment_of s.edition) s.arenas s.pools h a.offset a.size) c.in_ok-shape.ensures.shape.read)
