-- `records::live_after_ask` counts one more where its block carries the count, and anew otherwise.
use native.Mathlib.Omega.{arith}
use Rattle.records.specs.Replies.{few_live}
use Rattle.records.proofs.live_after_ask.Goals as goal

pub overflow_add-result : goal.overflow_add-result
overflow_add-result c =
    let a = c.args in
    omega (
      arith,
      c.requires.1 (c.carries.ensures c.if-not-carries.false),
      few_live a.books.now a.map.now c.requires.0,
    )

pub returns : goal.returns
returns c =
    c.requires.1 (c.carries.ensures c.if-not-carries.false)
