-- `batch::test_batch` meets its contract: it makes the tests of the shape and of the entries in their order.
use Rattle.std.proofs.Common.{refl, sym, arith}
use Rattle.std.proofs.lemmas.Result.{err_from_is_err_and}
use Rattle.rules.specs.Numbers.{shape_number, room_number}
use Rattle.rules.specs.Outcome.{heap_of}
use Rattle.books.specs.declared.refusal.Refusal.TheVariants.{DoesNotFit}
use Rattle.books.specs.Passing.{shape_refuses, room_refuses, all_pass, too_little, enough}
use Rattle.batch.proofs.test_batch.Goals as goal

pub returns-in_err-test_shape-clause-number : goal.returns-in_err-test_shape-clause-number
returns-in_err-test_shape-clause-number c =
    let a = c.args in
    let p = err_from_is_err_and c.from_residual.result c.from_residual.ensures.1 in
    rw (p.1, p.2)
    (shape_refuses c.in_err-test_shape.field-0.0 (shape_number (heap_of a.memory.now a.books.now a.map.now)) 0 0
    (room_number a.entries 4096) c.in_err-test_shape.ensures.number)

pub returns-then-entries-gt-MOST_ENTRIES-clause-number : goal.returns-then-entries-gt-MOST_ENTRIES-clause-number
returns-then-entries-gt-MOST_ENTRIES-clause-number c =
    let a = c.args in
    room_refuses DoesNotFit (shape_number (heap_of a.memory.now a.books.now a.map.now)) 0 0 (room_number a.entries 4096)
    c.in_ok-test_shape.ensures.number refl refl (sym (too_little a.entries 4096 (omega (arith, c.if-entries-gt-MOST_ENTRIES.true))))

pub returns-clause-number : goal.returns-clause-number
returns-clause-number c =
    all_pass c.in_ok-test_shape.ensures.number refl refl (sym (enough c.args.entries 4096 (omega (arith, c.if-entries-gt-MOST_ENTRIES.false))))
