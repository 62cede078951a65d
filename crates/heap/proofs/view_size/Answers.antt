-- `heap::view_size` meets its contract: it refuses with the number of the tests, or answers the size of the live block.
use Rattle.std.proofs.Common.{ap, arith}
use Rattle.std.proofs.lemmas.Result.{err_from_is_err_and}
use Rattle.rules.specs.declared.Sized.{Sized}
use Rattle.rules.specs.Numbers.{sized_of, view_size}
use Rattle.rules.specs.Outcome.{heap_of}
use Rattle.rules.specs.Promises.{◌beside◌}
use Rattle.books.specs.Passing.{refuses, lets_pass}
use Rattle.heap.proofs.view_size.Goals as goal

pub returns-in_err-live : goal.returns-in_err-live
unfolding view_size
returns-in_err-live c =
    let a = c.args in
    let p = err_from_is_err_and c.from_residual.result c.from_residual.ensures.1 in
    rw (p.1, p.2)
    (ap (λ (s : Sized). s beside heap_of a.memory.now a.books.now a.map.now)
    (refuses (λ k. sized_of k 0) _ c.in_err-live.field-0.0 _ c.in_err-live.ensures.number))

pub overflow_cast-result : goal.overflow_cast-result
overflow_cast-result c =
    let t = c.in_ok-live.ensures.block in omega (arith, t.found.size, t.found.live.ends, t.shaped.all)

pub returns : goal.returns
unfolding view_size
returns c =
    let a = c.args in
    ap (λ (s : Sized). s beside heap_of a.memory.now a.books.now a.map.now)
    (lets_pass (λ k. sized_of k 0) _ _ _ c.in_ok-live.ensures.number (ap (sized_of 0) c.in_ok-live.ensures.block.found.size))
