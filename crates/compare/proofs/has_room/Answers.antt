-- `compare::has_room` counts only where the list could be longer than the room.
use Rattle.std.proofs.Common.{le-leb, sym, arith}
use Rattle.compare.specs.Most.{list_most}
use Rattle.compare.proofs.has_room.Goals as goal

pub returns-then-pools-room : goal.returns-then-pools-room
returns-then-pools-room c =
    sym (le-leb _ c.args.room (omega (arith, list_most c.args.heaps.now, c.pools.ensures, c.if-pools-room.true)))
