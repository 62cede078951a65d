-- `audit::blocks::Blocks::chained` walks: at each turn the answer is that of the blocks that are left to meet from the
-- link l on. A block that is met lies in its pool, so that its link can be read.
use Rattle.std.proofs.Common.{◌≡◌, ◌-◌}
use Rattle.rules.specs.Books.{is_set}
use Rattle.rules.specs.Audit.{chained}
use Rattle.audit.proofs.blocks.Blocks.chained.Given as goal

abbrev pub invariant-loop : goal.invariant-loop
invariant-loop t =
    let s = t.self in
    chained s.size s.pool s.memory.now (is_set s.map.now s.pool) t.v t.count t.first
    ≡ chained s.size s.pool s.memory.now (is_set s.map.now s.pool) t.v (t.count - t.counter) t.l
