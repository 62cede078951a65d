-- `records::answer_call` goes by the op: 1 asks, 2 gives back, and 3 resizes, as in the rules.
use mathlib.Core.Path.{ap, sym, ◌∙◌}
use Rattle.rules.specs.Outcome.{heap_of}
use Rattle.records.specs.declared.Op.TheVariants.{Ask, GiveBack, Resize}
use Rattle.records.specs.Reads.{byte_of, by_op}
use Rattle.records.proofs.answer_call.Goals as goal

pub returns-in-Ask : goal.returns-in-Ask
returns-in-Ask c = λ r says.
    let a = c.args in
    let t = c.answer_ask.ensures r says in
    (t.0 ∙ sym (by_op (heap_of a.memory.now a.books.now a.map.now) r Ask (says.op ∙ ap byte_of c.in-Ask.is)), t.1)

pub returns-in-GiveBack : goal.returns-in-GiveBack
returns-in-GiveBack c = λ r says.
    let a = c.args in
    let t = c.answer_give_back.ensures r says in
    (t.0 ∙ sym (by_op (heap_of a.memory.now a.books.now a.map.now) r GiveBack (says.op ∙ ap byte_of c.in-GiveBack.is)), t.1)

pub returns-in-Resize : goal.returns-in-Resize
returns-in-Resize c = λ r says.
    let a = c.args in
    let t = c.answer_resize.ensures r says in
    (t.0 ∙ sym (by_op (heap_of a.memory.now a.books.now a.map.now) r Resize (says.op ∙ ap byte_of c.in-Resize.is)), t.1)
