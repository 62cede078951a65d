-- `batch::ask_all` meets its contract: each turn serves the next request of the row, and at the end none is left.
use Rattle.std.proofs.Common.{arith}
use Rattle.std.proofs.lemmas.Result.{err_from_is_err_and}
use Rattle.rules.specs.Outcome.{heap_of}
use Rattle.batch.specs.Left.{begin, turn, goes_through, all_refused}
use Rattle.batch.proofs.ask_all.Goals as goal

pub returns-in_err-test_batch : goal.returns-in_err-test_batch
returns-in_err-test_batch c =
    let a = c.args in
    let p = err_from_is_err_and c.from_residual.result c.from_residual.ensures.1 in
    rw (p.1, p.2)
    (all_refused (heap_of a.memory.now a.books.now a.map.now) a.requests.now c.in_err-test_batch.field-0.0 c.in_err-test_batch.ensures.number)

pub loop-i-init : goal.loop-i-init
loop-i-init c =
    let a = c.args in begin (heap_of a.memory.now a.books.now a.map.now) a.requests.now c.in_ok-test_batch.ensures.tested

pub loop-i-preserved : goal.loop-i-preserved
loop-i-preserved c =
    let a = c.args in
    let l = c.loop-i in
    let x = c.serve in
    turn (heap_of a.memory.now a.books.now a.map.now) a.requests.now
    (heap_of l.memory l.books l.map) l.requests l.i (heap_of x.new.memory x.new.books x.new.map) x.result
    l.invariant (omega (arith, c.loop-i-test.true, l.auto.requests)) x.ensures.heap x.ensures.places x.ensures.tested

pub returns : goal.returns
returns c =
    let a = c.args in
    let l = c.loop-i in
    goes_through (heap_of a.memory.now a.books.now a.map.now) a.requests.now
    (heap_of l.memory l.books l.map) l.requests l.i l.invariant (omega (arith, c.loop-i-test.false, l.auto.requests))
    c.in_ok-test_batch.ensures.number
