-- `audit::survey::tally` counts: at each turn the records before it. A turn adds one to the head of its record, and
-- leaves the others.
use Rattle.std.proofs.Common.{◌<◌, sym, ◌∙◌, eqb, arith}
use Rattle.rules.specs.Books.{at}
use Rattle.sequences.specs.Counting.{many_le}
use Rattle.audit.specs.Turns.{none_counted}
use Rattle.audit.specs.Survey.{tallied}
use Rattle.audit.proofs.survey.tally.Goals as goal

pub loop-home-init : goal.loop-home-init
loop-home-init c = λ h l. c.requires.2 h l ∙ sym (none_counted _)

pub overflow_add-tallies : goal.overflow_add-tallies
overflow_add-tallies c =
    let h = c.from.result in
    let low : h < 256 = omega (arith, c.from.ensures, c.type_inv.homes c.loop-home.home-index) in
    omega (arith, c.loop-home.invariant h low, many_le (λ y. eqb (at c.args.homes.now y) h) c.loop-home.home-index)

pub loop-home-preserved : goal.loop-home-preserved
loop-home-preserved c =
    let low : c.from.result < 256 = omega (arith, c.from.ensures, c.type_inv.homes c.loop-home.home-index) in
    tallied c.args.homes.now c.loop-home.home-index c.from.result c.loop-home.tallies (omega arith) c.from.ensures c.loop-home.invariant
