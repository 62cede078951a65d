-- `asks::ask::ask_step` goes by the class head, as the rules do; what a new pool's path knows of its numbers follows
-- from the plan being the rules' own.
use Rattle.std.proofs.Common.{arith}
use Rattle.rules.specs.Ask.{plan_ask, ask_answer, after_ask, ask_step}
use Rattle.rules.specs.Outcome.{heap_of}
use Rattle.plans.specs.Fits.{fits_new}
use Rattle.asks.proofs.ask.ask_step.Goals as goal

pub write_new-requires : goal.write_new-requires
write_new-requires c =
    let a = c.args in
    let class = c.serving-class.result in
    let h = heap_of a.memory.now a.books.now a.map.now in
    let low = rw class.sized at class.size_low in
    (c.requires.0, rw (c.plan_new-plan.ensures, class.sized) (fits_new _ _ _ h class.number low (omega (arith, c.requires.0.pools_low))))

pub returns-in-None : goal.returns-in-None
unfolding ask_step plan_ask
returns-in-None c = grind arith

pub returns-in-Some : goal.returns-in-Some
unfolding ask_step plan_ask
returns-in-Some c = grind arith

pub returns-in-Some-2 : goal.returns-in-Some-2
unfolding ask_step plan_ask ask_answer after_ask
returns-in-Some-2 c = grind arith
