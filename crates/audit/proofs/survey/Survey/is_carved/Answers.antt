-- `audit::survey::Survey::is_carved` goes by the pool's head: only a pool not carved is away.
use Rattle.std.proofs.Common.{arith}
use Rattle.books.specs.Sizes.{aligned}
use Rattle.audit.specs.Survey.{home_is}
use Rattle.audit.proofs.survey.Survey.is_carved.Goals as goal

pub returns : goal.returns
returns c =
    let v = c.args.self.now in
    let s = v.heap.shape in
    grind (
      arith,
      v.surveyed.homed c.args.n c.requires,
      (home_is (aligned s.edition) s.arenas s.pools v.heap.books.now v.heap.map.now c.args.n).is_carved,
    )
