-- `heap::give_back` meets its contract: it tests the shape, and gives back by what the books and the map then show.
use Rattle.std.proofs.Common.{◌≡◌, refl, ap, ◌∙◌, arith}
use Rattle.std.proofs.lemmas.Result.{err_from_is_err_and}
use Rattle.rules.specs.Books.{alignment_of}
use Rattle.rules.specs.Numbers.{shape_number, offset_number, give_back}
use Rattle.rules.specs.Outcome.{heap_of, refused}
use Rattle.rules.specs.Resize.{give_old}
use Rattle.books.specs.declared.words.Shape.{Shape}
use Rattle.books.specs.Passing.{refuses, lets_pass, shape_refuses}
use Rattle.heap.specs.Order.{shape_first}
use Rattle.heap.proofs.give_back.Goals.{In_ok-shape}
use Rattle.heap.proofs.give_back.Goals as goal

pub returns-in_err-shape : goal.returns-in_err-shape
unfolding give_back
returns-in_err-shape c =
    let a = c.args in
    let h = heap_of a.memory.now a.books.now a.map.now in
    let r = c.in_err-shape.field-0.0 in
    let p = err_from_is_err_and c.from_residual.result c.from_residual.ensures.1 in
    rw (p.1, p.2)
    (refuses (λ k. refused k h) _ r _ (shape_refuses r (shape_number h) 0 (offset_number h a.offset) 0 c.in_err-shape.ensures.number))

pub give_old-requires : goal.give_old-requires
give_old-requires c = c.in_ok-shape.ensures.shape.shaped

-- past the shape's tests, what the rest answers is what the call does
goes_on : (c : In_ok-shape)
    → let a = c.args in
    let h = heap_of a.memory.now a.books.now a.map.now in
    let s = c.in_ok-shape.shape in
    give_old (alignment_of s.edition) s.arenas s.pools h a.offset ≡ give_back h a.offset
unfolding give_back give_old
goes_on c =
    let a = c.args in
    let h = heap_of a.memory.now a.books.now a.map.now in
    ap (λ (s : Shape). give_old (alignment_of s.edition) s.arenas s.pools h a.offset) c.in_ok-shape.ensures.shape.read
    ∙ lets_pass (λ k. refused k h) _ _ _ c.in_ok-shape.ensures.number refl
    ∙ shape_first (shape_number h) (offset_number h a.offset) (λ k. refused k h) _

pub returns-in_err-give_old : goal.returns-in_err-give_old
returns-in_err-give_old c =
    let p = err_from_is_err_and c.from_residual-in_err-give_old.result c.from_residual-in_err-give_old.ensures.1 in
    rw (p.1, p.2) (c.in_err-give_old.ensures.number ∙ goes_on (goal.at.returns-in_err-give_old c).In_ok-shape)

pub overflow_cast-result : goal.overflow_cast-result
overflow_cast-result c =
    omega (arith, c.in_ok-give_old.ensures.inside, c.in_ok-shape.ensures.shape.shaped.all)

pub returns : goal.returns
returns c = c.in_ok-give_old.ensures.number ∙ goes_on (goal.at.returns c).In_ok-shape
