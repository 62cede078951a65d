-- `compare::next::next_live`: the next set bit is that of the next live block, if the pool has a block there.
use Rattle.std.proofs.Common.{◌≡◌, ◌+◌, ◌*◌, Bool, true, false, leb-true, leb-false, arith, refl}
use lib.Dec.{leb}
use Rattle.std.specs.Bool.{then_some}
use Rattle.compare.specs.Next.{NextLive, next_here, next_none}
use Rattle.compare.proofs.next.next_live.Goals.{After-then_some}
use Rattle.compare.proofs.next.next_live.Goals as goal

pub returns-in_err-start : goal.returns-in_err-start
returns-in_err-start c =
    let a = c.args in
    rw c.from_residual.ensures (next_none a.size a.map.now a.pool a.x c.block_from.result 512 (omega arith)
    c.block_from.ensures.2 c.in_err-start.ensures (omega arith))

-- by whether the block fits the pool
found : (c : After-then_some)
    → let s = c.args.size in
    let o = 48 + c.in_ok-start.field-0 * s in
    (t : Bool) → leb (o + s) 4096 ≡ t → NextLive s c.args.map.now c.args.pool c.args.x (then_some t o)
found c true e =
    let a = c.args in
    let N = c.in_ok-start.ensures in
    next_here a.size a.map.now a.pool a.x c.block_from.result c.in_ok-start.field-0 (omega arith)
    c.block_from.ensures.2 N.2 c.block_from.ensures.1 N.0 N.3 (omega (arith, leb-true _ _ e))
found c false e =
    let a = c.args in
    next_none a.size a.map.now a.pool a.x c.block_from.result c.in_ok-start.field-0 (omega arith)
    c.block_from.ensures.2 c.in_ok-start.ensures.2 (omega (arith, leb-false _ _ e))

pub returns : goal.returns
returns c = rw c.then_some.ensures (found c _ refl)
