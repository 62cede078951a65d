-- `heap::format` meets its contract: it tests the shape and then writes all books and map.
use Rattle.std.proofs.Common.{List, ℕ, replicate, ap, ap₂, ◌∙◌}
use Rattle.std.proofs.lemmas.Result.{err_from_is_err_and}
use Rattle.rules.specs.Numbers.{format}
use Rattle.rules.specs.Outcome.{heap_of, done, refused}
use Rattle.books.specs.Passing.{refuses, lets_pass}
use Rattle.heap.proofs.format.Goals as goal

pub returns-in_err-test_fit : goal.returns-in_err-test_fit
unfolding format
returns-in_err-test_fit c =
    let a = c.args in
    let p = err_from_is_err_and c.from_residual.result c.from_residual.ensures.1 in
    rw (p.1, p.2)
    (refuses (λ k. refused k (heap_of a.memory.now a.books.now a.map.now)) _ c.in_err-test_fit.field-0.0 _ c.in_err-test_fit.ensures.number)

pub fresh_books-requires : goal.fresh_books-requires
fresh_books-requires c =
    let s = c.in_ok-test_fit.ensures.fits in
    (s.0.arenas_high, s.0.pools_high, s.1, s.0.books)

pub returns : goal.returns
unfolding format
returns c =
    let a = c.args in
    let s = c.in_ok-test_fit.ensures.fits.0 in
    lets_pass (λ k. refused k (heap_of a.memory.now a.books.now a.map.now)) _ _ _ c.in_ok-test_fit.ensures.number
    (ap₂ (λ (x y : List ℕ). done 0 (heap_of a.memory.now x y)) c.fresh_books.ensures
    (c.fill.ensures.after (λ y e. e) ∙ ap (λ (n : ℕ). replicate n 0) s.map))
