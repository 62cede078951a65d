-- `audit::audit` meets its contract: a heap that has no shape breaks rule 1, and of any other the survey is made, and
-- the first rule that is then broken found.
use Rattle.std.proofs.Common.{◌≢◌, arith, ne_eqb}
use Rattle.rules.specs.Outcome.{heap_of}
use Rattle.rules.specs.Numbers.{shape_number}
use Rattle.rules.specs.Audit.{rule1, audit_by, number_of}
use Rattle.books.specs.Refusals.{number_low}
use Rattle.audit.proofs.audit.Goals as goal

pub returns-in_default : goal.returns-in_default
unfolding audit_by rule1 number_of
returns-in_default c =
    let h = heap_of c.args.memory.now c.args.books.now c.args.map.now in
    let d : shape_number h ≢ 0 = λ z. omega (arith, number_low c.in_default.field-0, c.in_default.ensures.number) in
    rw (ne_eqb (shape_number h) 0 d)
