-- `steps::give_back::give_old` meets its contract: it tests whether the offset is live and then takes the step, in
-- that order.
use Rattle.std.proofs.lemmas.Result.{err_from_is_err_and}
use Rattle.rules.specs.Outcome.{heap_of, refused}
use Rattle.rules.specs.Resize.{give_old}
use Rattle.books.specs.Passing.{refuses, lets_pass}
use Rattle.steps.proofs.give_back.give_old.Goals as goal

pub returns-in_err-block-clause-number : goal.returns-in_err-block-clause-number
unfolding give_old
returns-in_err-block-clause-number c =
    let a = c.args in
    let p = err_from_is_err_and c.from_residual.result c.from_residual.ensures.1 in
    rw (p.1, p.2)
    (refuses (λ k. refused k (heap_of a.memory.now a.books.now a.map.now)) _ c.in_err-block.field-0.0 _ c.in_err-block.ensures.number)

pub returns-clause-number : goal.returns-clause-number
unfolding give_old
returns-clause-number c =
    let a = c.args in
    lets_pass (λ k. refused k (heap_of a.memory.now a.books.now a.map.now)) _ _ _ c.in_ok-block.ensures.number c.back_step.ensures
