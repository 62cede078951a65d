-- `audit::blocks::Blocks::chained` walks: at each turn the answer is that of the blocks that are left to meet from the
-- link l on. A block that is met lies in its pool, so that its link can be read.
use Rattle.std.proofs.Common.{◌≡◌, sym, ◌∙◌, true, ◌-◌, ◌+◌, arith}
use Rattle.rules.specs.Books.{is_set}
use Rattle.rules.specs.Audit.{is_dead}
use Rattle.books.specs.Starts.{Start, start}
use Rattle.audit.specs.Turns.{chain_end, chain_goes, chain_fails, dead_starts}
use Rattle.audit.proofs.blocks.Blocks.chained.Goals.{Else-not-is_dead}
use Rattle.audit.proofs.blocks.Blocks.chained.Goals as goal

pub returns-then-not-is_dead : goal.returns-then-not-is_dead
returns-then-not-is_dead c =
    sym (c.loop.invariant ∙ chain_fails _ _ _ _ _ _ _ (omega arith) (sym c.is_dead.ensures ∙ c.if-not-is_dead.true))

-- a block that is met is dead
met : (c : Else-not-is_dead)
    → let s = c.args.self.now in is_dead s.size (is_set s.map.now s.pool) c.args.v c.loop.l ≡ true
met c = sym c.is_dead.ensures ∙ c.if-not-is_dead.false

-- and lies in its pool
lies : (c : Else-not-is_dead) → Start c.args.self.now.size c.loop.l
lies c = start _ _ (omega arith) (dead_starts _ _ _ _ (met c))

pub overflow_add-self : goal.overflow_add-self
overflow_add-self c = omega (arith, (lies (goal.at.overflow_add-self c).Else-not-is_dead).ends)

pub link_at-requires : goal.link_at-requires
link_at-requires c = omega (arith, (lies (goal.at.link_at-requires c).Else-not-is_dead).ends)

pub loop-preserved : goal.loop-preserved
loop-preserved c =
    let a = c.args in
    let s = a.self.now in
    let less : a.count - c.loop.counter - 1 ≡ a.count - (c.loop.counter + 1) = omega arith in
    c.loop.invariant
    ∙ chain_goes _ _ _ _ _ _ _ (omega arith) (met (goal.at.loop-preserved c).Else-not-is_dead)
    ∙ rw (less, c.index-l.ensures.0, c.link_at.ensures)

pub returns : goal.returns
returns c = sym (c.loop.invariant ∙ chain_end _ _ _ _ _ _ _ (omega arith))
