-- `compare::walk::walk_apart` notes the next live block of either heap: at each turn the places from some x on are to
-- be noted, and both heaps' next live blocks from there on are known.
use Rattle.std.proofs.Common.{ℕ, ◌+◌, ◌*◌, ◌-◌, ◌≤◌, unwrap_or}
use Rattle.rules.specs.Say.{listing}
use Rattle.compare.specs.Kinds.{apart_at}
use Rattle.compare.specs.Next.{NextLive, earlier}
use Rattle.compare.specs.Noted.{Noting}
use Rattle.compare.proofs.walk.walk_apart.Given as goal

abbrev pub invariant-loop-next : goal.invariant-loop-next
invariant-loop-next l =
    let map = l.heaps.first.map.now in
    let map' = l.heaps.second.map.now in
    let kind = apart_at map map' l.size l.size2 l.pool in
    (x : ℕ) × (x ≤ 4096) × NextLive l.size map l.pool x l.o × NextLive l.size2 map' l.pool x l.o2
    × Noting l.initial.list l.at (listing kind (4096 * l.pool) 4096) l.list l.place (listing kind (4096 * l.pool + x) (4096 - x))

abbrev pub decreases-loop-next : goal.decreases-loop-next
decreases-loop-next l = 4096 - unwrap_or (earlier l.o l.o2) 4096
