-- `audit::blocks::Blocks::are_divided` makes the tests of the contract in turn. Where nextoffset passes it is a block's
-- start or the last block's end, and so block v is one of the map's; and where no set bit is at v or past it, at most v
-- are set.
use Rattle.std.proofs.Common.{◌≡◌, sym, ◌∙◌, ◌≤◌, arith, eqb}
use Rattle.rules.specs.Blocks.{start_of, last_start, block_no, capacity}
use Rattle.books.specs.Tests.{both}
use Rattle.books.specs.Starts.{next_is, capacity_le}
use Rattle.audit.specs.Divided.{bits_few}
use Rattle.audit.proofs.blocks.Blocks.are_divided.Goals.{Else-not-index-self}
use Rattle.audit.proofs.blocks.Blocks.are_divided.Goals as goal

-- past the first test the offset is where block v would start
starts : (c : Else-not-index-self)
    → let o = c.index-next.result in
    let s = c.args.self.now.size in
    (o ≡ start_of s (block_no s o)) × (block_no s o ≤ capacity s) × (capacity s ≤ 506)
starts c =
    let s = c.args.self.now.size in
    let t = both (eqb c.index.result (last_start s)) c.is_next.result c.if-not-index-self.false in
    let n = next_is s _ (omega arith) (sym c.is_next.ensures ∙ t.1) in
    (n.0, n.1, capacity_le s (omega arith))

pub overflow_sub-v : goal.overflow_sub-v
overflow_sub-v c = omega (arith, starts c)

pub bits_below-requires : goal.bits_below-requires
bits_below-requires c = (omega arith, omega (arith, starts (goal.at.bits_below-requires c).Else-not-index-self))

pub overflow_sub-count : goal.overflow_sub-count
overflow_sub-count c =
    omega (
      arith,
      bits_few _ _ _ (omega (arith, starts (goal.at.overflow_sub-count c).Else-not-index-self)) (sym c.bits_below.ensures ∙ c.if-not-bits_below.false),
    )
