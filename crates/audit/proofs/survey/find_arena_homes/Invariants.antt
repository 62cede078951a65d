-- `audit::survey::find_arena_homes` keeps the heads: at turn a those of the arenas before a.
use Rattle.audit.specs.Survey.{Filled, arena_home_of}
use Rattle.audit.proofs.survey.find_arena_homes.Given as goal

abbrev pub invariant-loop-a : goal.invariant-loop-a
invariant-loop-a l = Filled (arena_home_of l.books) l.a l.homes
