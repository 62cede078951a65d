-- `asks::ask::open_arena` joins an empty list: the usable head was 0, and leaving the unused list did not write it.
use Rattle.asks.specs.HandOut.{usable_stays}
use Rattle.asks.proofs.ask.open_arena.Goals as goal

pub returns : goal.returns
returns c =
    record { same = λ m k. simp (c.join_by.ensures, c.leave.ensures, usable_stays, c.requires.5) }
