-- `loops::roll_pool` stores the words of its live blocks where the pool has a size, and nothing elsewhere.
use mathlib.Core.Path.{◌≡◌, refl, sym, ap}
use native.Mathlib.Omega.{arith}
use lib.ListN.{length}
use Rattle.rules.specs.Books.{alignment_of}
use Rattle.rules.specs.Blocks.{capacity}
use Rattle.rules.specs.View.{roll_blocks, roll_pool}
use Rattle.books.specs.Sizes.{aligned}
use Rattle.loops.specs.Roll.{no_size, by_size}
use Rattle.loops.proofs.roll_pool.Goals.{In-Some}
use Rattle.loops.proofs.roll_pool.Goals as goal

pub returns-in-None : goal.returns-in-None
returns-in-None c =
    let a = c.args in
    let none = c.in-None.ensures.value in
    rw (no_size (aligned a.shape.edition) a.shape.arenas a.books.now a.map.now a.pool (sym none))
    (record { same = refl; place = omega arith })

-- where the code goes on the pool has a size
rolled : (c : In-Some)
    → let a = c.args in
    let s = c.in-Some.size in
    roll_pool (alignment_of a.shape.edition) a.shape.arenas a.books.now a.map.now a.pool
    ≡ roll_blocks a.map.now a.pool s 0 (capacity s)
rolled c =
    let a = c.args in
    let size = c.in-Some.ensures in
    by_size (aligned a.shape.edition) a.shape.arenas a.books.now a.map.now a.pool c.in-Some.size size.value size.range.0

pub roll_blocks-requires : goal.roll_blocks-requires
roll_blocks-requires c =
    let size = c.in-Some.ensures in
    omega (arith, size.range, ap length (rolled (goal.at.roll_blocks-requires c).In-Some))

pub returns-in-Some : goal.returns-in-Some
returns-in-Some c = rw (rolled (goal.at.returns-in-Some c).In-Some) c.roll_blocks.ensures
