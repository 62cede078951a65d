-- `audit::survey::Survey::pool_keeps_6` makes the tests of `pool_keeps6`: a pool is full exactly if it stands alone.
use Rattle.std.proofs.Common.{arith}
use Rattle.rules.specs.Audit.{pool_keeps6}
use Rattle.books.specs.Sizes.{aligned}
use Rattle.audit.specs.Survey.{home_is}
use Rattle.audit.proofs.survey.Survey.pool_keeps_6.Goals as goal

pub returns : goal.returns
unfolding pool_keeps6
returns c =
    let v = c.args.self.now in
    let s = v.heap.shape in
    grind (
      arith,
      v.surveyed.homed c.args.n c.requires,
      (home_is (aligned s.edition) s.arenas s.pools v.heap.books.now v.heap.map.now c.args.n).full,
    )
