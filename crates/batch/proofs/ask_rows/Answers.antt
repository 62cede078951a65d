-- `batch::ask_rows` meets its contract: each turn serves the next request of the words, and at the end none is left.
use Rattle.std.proofs.lemmas.Result.{err_from_is_err_and}
use Rattle.rules.specs.Outcome.{heap_of}
use Rattle.batch.specs.Words.{rows_begin, rows_tested, rows_turn, rows_end, rows_refused}
use Rattle.batch.proofs.ask_rows.Goals as goal

pub returns-in_err-test_batch : goal.returns-in_err-test_batch
returns-in_err-test_batch c =
    let a = c.args in
    let p = err_from_is_err_and c.from_residual.result c.from_residual.ensures.1 in
    rw (p.1, p.2)
    (rows_refused (heap_of a.memory.now a.books.now a.map.now) a.row.now c.in_err-test_batch.field-0.0 c.in_err-test_batch.ensures.number)

pub loop-i-init : goal.loop-i-init
loop-i-init c =
    let a = c.args in rows_begin (heap_of a.memory.now a.books.now a.map.now) a.row.now c.in_ok-test_batch.ensures.tested

pub serve-served-requires : goal.serve-served-requires
serve-served-requires c =
    let a = c.args in rows_tested (heap_of a.memory.now a.books.now a.map.now) a.row.now c.loop-i.invariant

pub loop-i-preserved : goal.loop-i-preserved
loop-i-preserved c =
    let a = c.args in
    let l = c.loop-i in
    let x = c.serve-served in
    rows_turn (heap_of a.memory.now a.books.now a.map.now) a.row.now l.invariant c.loop-i-test.true
    (heap_of x.new.memory x.new.books x.new.map) x.result x.ensures.heap x.ensures.places x.ensures.tested

pub returns : goal.returns
returns c =
    let a = c.args in
    let l = c.loop-i in
    rows_end (heap_of a.memory.now a.books.now a.map.now) a.row.now l.invariant c.loop-i-test.false c.in_ok-test_batch.ensures.number
