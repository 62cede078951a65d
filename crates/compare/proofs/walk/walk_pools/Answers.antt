-- `compare::walk::walk_pools` notes the pools in turn: at turn p those from pool p on are to be noted.
use Rattle.std.proofs.Common.{◌≡◌, ◌+◌, ◌*◌, ◌-◌, ◌^◌, ◌++◌, arith}
use Rattle.rules.specs.Say.{listing}
use Rattle.loops.specs.Left.{none_left}
use Rattle.compare.specs.Most.{list_most}
use Rattle.compare.specs.Noted.{note, finish, small}
use Rattle.compare.specs.Pools.{pools_in, kind_in, pool_parts}
use Rattle.compare.proofs.walk.walk_pools.Goals.{In-loop-pool}
use Rattle.compare.proofs.walk.walk_pools.Goals as goal

-- pool p comes first of what is left
comes : (c : In-loop-pool)
    → let kind = kind_in c.args.heaps.now in
    let n = pools_in c.args.heaps.now in
    let p = c.loop-pool.pool in
    listing kind (4096 * p) ((n - p) * 4096)
    ≡ listing kind (4096 * p) 4096 ++ listing kind (4096 * (p + 1)) ((n - (p + 1)) * 4096)
comes c =
    let h = c.args.heaps.now in
    (pool_parts (kind_in h) (pools_in h)).more c.loop-pool.pool (omega (arith, c.pools-pool-end.ensures))

pub walk_pool-place-requires : goal.walk_pool-place-requires
walk_pool-place-requires c =
    let h = c.args.heaps.now in
    let x = c.loop-pool in (
      omega (arith, c.pools-pool-end.ensures),
      small x.invariant (listing (kind_in h) (4096 * x.pool) 4096) (listing (kind_in h) (4096 * (x.pool + 1)) ((pools_in h - (x.pool + 1)) * 4096))
          (2 ^ 32) (omega (arith, list_most h, h.first.shaped.all)) (comes (goal.at.walk_pool-place-requires c).In-loop-pool),
    )

pub loop-pool-preserved : goal.loop-pool-preserved
loop-pool-preserved c =
    note c.loop-pool.invariant (comes (goal.at.loop-pool-preserved c).In-loop-pool) c.walk_pool-place.auto.list c.walk_pool-place.ensures

pub returns : goal.returns
returns c =
    let h = c.args.heaps.now in
    finish c.loop-pool.invariant (none_left (pool_parts (kind_in h) (pools_in h)) c.loop-pool.pool (omega (arith, c.pools-pool-end.ensures)))
