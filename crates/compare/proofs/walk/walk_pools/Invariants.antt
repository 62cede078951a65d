-- `compare::walk::walk_pools` notes the pools in turn: at turn p those from pool p on are to be noted.
use Rattle.std.proofs.Common.{◌*◌, ◌-◌}
use Rattle.rules.specs.Say.{listing}
use Rattle.compare.specs.Noted.{Noting}
use Rattle.compare.specs.Pools.{pools_in, kind_in}
use Rattle.compare.proofs.walk.walk_pools.Given as goal

abbrev pub invariant-loop-pool : goal.invariant-loop-pool
invariant-loop-pool l =
    let kind = kind_in l.heaps in
    let all = pools_in l.heaps in
    Noting l.initial.list 0 (listing kind 0 (all * 4096)) l.list l.place (listing kind (4096 * l.pool) ((all - l.pool) * 4096))
