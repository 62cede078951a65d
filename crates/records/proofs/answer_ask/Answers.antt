-- `records::answer_ask` asks, and replies with what the ask answered and the heap that it left.
use mathlib.Core.Path.{refl, ap, sym, ◌∙◌}
use Rattle.rules.specs.Outcome.{heap_of}
use Rattle.rules.specs.Numbers.{ask}
use Rattle.records.specs.Calls.{ask_keeps}
use Rattle.records.specs.Replies.{answered_size, counted_after, not_zero, answered_done, answered_refused}
use Rattle.records.specs.Live.{AskCounts, ask_counts, in_code}
use Rattle.records.proofs.answer_ask.Goals as goal

pub live_after_ask-requires : goal.live_after_ask-requires
live_after_ask-requires c =
    let a = c.args in
    let x = c.ask in
    let h = heap_of a.memory.now a.books.now a.map.now in (
      counted_after a.memory.now a.books.now a.map.now x.new.memory x.new.books x.new.map c.requires.0
          (ask_keeps h c.index.result) c.in-Ok.ensures x.auto.memory x.auto.books x.auto.map,
      (in_code AskCounts c.requires.1 c.in-Ok.ensures (ask_counts h c.index.result c.requires.0)).done refl,
    )

pub returns-in-Ok : goal.returns-in-Ok
returns-in-Ok c = λ r says.
    let a = c.args in
    answered_done says c.live_after_ask.ensures answered_size c.in-Ok.offset c.size_at-size.result
    (c.in-Ok.ensures ∙ ap (ask (heap_of a.memory.now a.books.now a.map.now)) (c.index.ensures.0 ∙ sym says.size))
    c.size_at-size.ensures c.done.ensures

pub returns-in-Err : goal.returns-in-Err
returns-in-Err c = λ r says.
    let a = c.args in
    let h = heap_of a.memory.now a.books.now a.map.now in
    let counts = in_code AskCounts c.requires.1 c.in-Err.ensures (ask_counts h c.index.result c.requires.0) in
    answered_refused says (counts.refused (not_zero c.in-Err.refusal)) answered_size c.in-Err.refusal 0
    (c.in-Err.ensures ∙ ap (ask h) (c.index.ensures.0 ∙ sym says.size)) c.refused.ensures
