-- `books::numbers::not_live` makes the two tests that are left of a block's where one would start: below nextoffset,
-- and in a carved pool.
use Rattle.std.specs.Prelude.{if◌then◌else◌}
use Rattle.std.proofs.Common.{Bool, ℕ, ◌/◌, ◌*◌, ◌<◌, sym, ap, arith}
use Rattle.rules.specs.Blocks.{is_block}
use Rattle.books.specs.Known.{at_start_is}
use Rattle.books.specs.Readers.{alignment_in}
use Rattle.books.proofs.numbers.not_live.Goals.{Start}
use Rattle.books.proofs.numbers.not_live.Goals as goal

-- the offset lies in a pool
inside : (c : Start) → c.args.offset / 4096 < c.args.heap.now.shape.arenas * c.args.heap.now.shape.pools
inside c =
    let h = c.args.heap.now in
    omega (arith, (at_start_is (alignment_in h) h.shape.arenas h.shape.pools h.books.now c.args.offset c.requires).0)

-- the number, by the test of both
abbrev number : Bool → ℕ
number t = if t then 10 else 5

pub returns-then-offset-next : goal.returns-then-offset-next
unfolding is_block
returns-then-offset-next c =
    rw (c.requires, ← c.pool_word-next.ensures.0, ← c.is_carved.ensures) (sym (ap number c.if-offset-next.true))

pub returns : goal.returns
unfolding is_block
returns c = rw (c.requires, ← c.pool_word-next.ensures.0, ← c.is_carved.ensures) (sym (ap number c.if-offset-next.false))
