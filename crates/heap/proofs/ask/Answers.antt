-- `heap::ask` meets its contract: it tests the shape and the size, and then takes the step.
use Rattle.std.proofs.Common.{refl, ap, ◌∙◌}
use Rattle.std.proofs.lemmas.Result.{err_from_is_err_and}
use Rattle.rules.specs.Books.{alignment_of}
use Rattle.rules.specs.Ask.{ask_step}
use Rattle.rules.specs.Numbers.{shape_number, size_number, ask}
use Rattle.rules.specs.Outcome.{heap_of, refused}
use Rattle.books.specs.declared.words.Shape.{Shape}
use Rattle.books.specs.Passing.{refuses, lets_pass, shape_refuses, size_refuses, all_pass}
use Rattle.heap.proofs.ask.Goals as goal

pub returns-in_err-shape : goal.returns-in_err-shape
unfolding ask
returns-in_err-shape c =
    let a = c.args in
    let h = heap_of a.memory.now a.books.now a.map.now in
    let r = c.in_err-shape.field-0.0 in
    let p = err_from_is_err_and c.from_residual.result c.from_residual.ensures.1 in
    rw (p.1, p.2)
    (refuses (λ k. refused k h) _ r _ (shape_refuses r (shape_number h) (size_number a.size) 0 0 c.in_err-shape.ensures.number))

pub returns-in_err-test_size : goal.returns-in_err-test_size
unfolding ask
returns-in_err-test_size c =
    let a = c.args in
    let h = heap_of a.memory.now a.books.now a.map.now in
    let r = c.in_err-test_size.field-0.0 in
    let p = err_from_is_err_and c.from_residual-in_err-test_size.result c.from_residual-in_err-test_size.ensures.1 in
    rw (p.1, p.2)
    (refuses (λ k. refused k h) _ r _
    (size_refuses r (shape_number h) (size_number a.size) 0 0 c.in_ok-shape.ensures.number c.in_err-test_size.ensures.number))

pub ask_step-requires : goal.ask_step-requires
ask_step-requires c =
    let t = c.in_ok-shape.ensures.shape in
    let n = c.in_ok-test_size.ensures.size in
    (t.shaped, n.0, n.1, t.edition)

pub returns : goal.returns
unfolding ask
returns c =
    let a = c.args in
    let h = heap_of a.memory.now a.books.now a.map.now in
    lets_pass (λ k. refused k h) _ _ _ (all_pass c.in_ok-shape.ensures.number c.in_ok-test_size.ensures.number refl refl)
    (c.ask_step.ensures
    ∙ ap (λ (s : Shape). ask_step (alignment_of s.edition) s.arenas s.pools h a.size) c.in_ok-shape.ensures.shape.read)
