-- `plans::ask::same_class` meets its contract: it reads the link only of a spare block, which lies in memory.
use Rattle.std.proofs.Common.{sym, ◌∙◌, arith}
use Rattle.rules.specs.Ask.{same_class}
use Rattle.books.specs.Starts.{start as begins}
use Rattle.books.specs.Tests.{both}
use Rattle.plans.proofs.ask.same_class.Goals as goal

pub link_at-requires : goal.link_at-requires
link_at-requires c =
    let s = begins c.args.class.size c.index-f.result c.args.class.size_low (both _ _ (sym c.spare.ensures ∙ c.if-spare.true)).0 in
    omega (arith, s.ends, c.args.heap.now.shaped.memory)

pub returns-then-spare : goal.returns-then-spare
unfolding same_class
returns-then-spare c = grind arith

pub returns : goal.returns
unfolding same_class
returns c = grind arith
