-- `compare::bytes::same_block`: a block is its groups of 64 bytes and then its groups of 8.
use Rattle.std.proofs.Common.{◌≡◌, ◌+◌, ◌*◌, ◌/◌, ◌%◌, ◌&&◌, sym, ap, ◌∙◌, arith}
use Rattle.rules.specs.Compare.{same_bytes}
use Rattle.compare.specs.Bytes.{run_parts}
use Rattle.compare.proofs.bytes.same_block.Goals.{After-same_groups}
use Rattle.compare.proofs.bytes.same_block.Goals as goal

-- the groups are the block
parts : (c : After-same_groups)
    → let a = c.args in
    let large = a.size / 64 * 64 in
    let same = same_bytes a.first.now a.second.now in
    same a.at large && same (a.at + large) (a.size % 64 / 8 * 8) ≡ same a.at a.size
parts c =
    let a = c.args in
    let all : a.size / 64 * 64 + a.size % 64 / 8 * 8 ≡ a.size = omega arith in
    run_parts a.first.now a.second.now a.at (a.size / 64 * 64) (a.size % 64 / 8 * 8)
    ∙ ap (same_bytes a.first.now a.second.now a.at) all

pub returns-else-same_groups : goal.returns-else-same_groups
returns-else-same_groups c =
    c.if-same_groups.false ∙ rw (sym c.same_groups.ensures ∙ c.if-same_groups.false) at (parts (goal.at.returns-else-same_groups c).After-same_groups)

pub returns-then-same_groups : goal.returns-then-same_groups
returns-then-same_groups c =
    c.same_groups-then-same_groups.ensures
    ∙ rw (sym c.same_groups.ensures ∙ c.if-same_groups.true) at (parts (goal.at.returns-then-same_groups c).After-same_groups)
