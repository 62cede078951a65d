-- `steps::give_back::move_after` leaves and goes in: leaving writes no link that leads past the last arena.
use native.Mathlib.Omega.{arith}
use Rattle.rules.specs.Books.{usable_head}
use Rattle.rules.specs.Lists.{next_at, arena_links}
use Rattle.books.specs.Lists.{leave_low}
use Rattle.steps.proofs.give_back.move_after.Goals as goal

pub go_in_after-requires : goal.go_in_after-requires
go_in_after-requires c =
    let a = c.args in
    let fits = c.requires.1 in (
      omega arith,
      omega arith,
      omega arith,
      omega (arith, c.leave.auto.books),
      rw c.leave.ensures
          (leave_low a.shape.arenas arena_links usable_head a.a (next_at arena_links a.q) a.books.now fits.0 fits.2),
    )
