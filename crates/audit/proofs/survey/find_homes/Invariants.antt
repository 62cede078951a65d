-- `audit::survey::find_homes` keeps the heads: at turn n those of the pools before n.
use Rattle.rules.specs.Books.{at, alignment_of}
use Rattle.audit.specs.Survey.{Filled, home_by}
use Rattle.audit.proofs.survey.find_homes.Given as goal

abbrev pub invariant-loop-n : goal.invariant-loop-n
invariant-loop-n l =
    Filled (λ n. home_by (alignment_of l.s.edition) l.s.arenas l.s.pools l.books n (at l.counts n)) l.n l.homes
