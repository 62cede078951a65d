-- `loops::count_pool` counts the words of its live blocks where the pool has a size, and none elsewhere.
use mathlib.Core.Path.{sym}
use Rattle.books.specs.Sizes.{aligned}
use Rattle.loops.specs.Roll.{no_size, by_size}
use Rattle.loops.proofs.count_pool.Goals as goal

pub returns-in-None : goal.returns-in-None
returns-in-None c =
    let a = c.args in
    let none = c.in-None.ensures.value in
    rw (no_size (aligned a.shape.edition) a.shape.arenas a.books.now a.map.now a.pool (sym none))

pub returns-in-Some : goal.returns-in-Some
returns-in-Some c =
    let a = c.args in
    let size = c.in-Some.ensures in
    rw (by_size (aligned a.shape.edition) a.shape.arenas a.books.now a.map.now a.pool c.in-Some.size size.value size.range.0) c.count_blocks.ensures
