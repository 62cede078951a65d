-- `batch::ask_tested` meets its contract: the shape being tested, the ask is the size's test and the step; and it
-- leaves the shape as it was.
use Rattle.std.proofs.Common.{◌≡◌, sym, ap, ◌∙◌, subst}
use Rattle.std.proofs.lemmas.Result.{err_from_is_err_and}
use Rattle.rules.specs.Books.{alignment_of}
use Rattle.rules.specs.Outcome.{Outcome, heap_of, outcome}
use Rattle.rules.specs.Ask.{ask_step}
use Rattle.rules.specs.Numbers.{ask}
use Rattle.books.specs.declared.words.Shape.{Shape}
use Rattle.books.specs.Refusals.{answer_in}
use Rattle.plans.specs.Kept.{Kept, ask_kept, tested_kept}
use Rattle.batch.specs.Asked.{ask_refused, ask_goes}
use Rattle.batch.proofs.ask_tested.Goals.{After-ask_step}
use Rattle.batch.proofs.ask_tested.Goals as goal

pub returns-in_err-test_size-clause-asks : goal.returns-in_err-test_size-clause-asks
returns-in_err-test_size-clause-asks c =
    let a = c.args in
    let p = err_from_is_err_and c.from_residual.result c.from_residual.ensures.1 in
    rw (p.1, p.2)
    (ask_refused (heap_of a.memory.now a.books.now a.map.now) c.requires a.size c.in_err-test_size.field-0.0 c.in_err-test_size.ensures.number)

-- what the step answers and leaves is what the ask does
asks : (c : After-ask_step)
    → let a = c.args in
    let x = c.ask_step in
    outcome (answer_in x.result) (heap_of x.new.memory x.new.books x.new.map)
    ≡ ask (heap_of a.memory.now a.books.now a.map.now) a.size
asks c =
    let a = c.args in
    let h = heap_of a.memory.now a.books.now a.map.now in
    c.ask_step.ensures
    ∙ ap (λ (s : Shape). ask_step (alignment_of s.edition) s.arenas s.pools h a.size) c.shape_of-shape.ensures
    ∙ ask_goes h c.requires a.size c.in_ok-test_size.ensures.number

pub returns-clause-asks : goal.returns-clause-asks
returns-clause-asks c = asks (goal.at.returns-clause-asks c).After-ask_step

pub returns-clause-tested : goal.returns-clause-tested
returns-clause-tested c =
    let a = c.args in
    let h = heap_of a.memory.now a.books.now a.map.now in
    tested_kept
    (subst (Kept h) (ap (λ (o : Outcome). o.heap) (sym (asks (goal.at.returns-clause-tested c).After-ask_step))) (ask_kept h a.size))
    c.requires
