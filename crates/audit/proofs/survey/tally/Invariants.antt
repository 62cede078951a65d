-- `audit::survey::tally` counts: at each turn the records before it. A turn adds one to the head of its record, and
-- leaves the others.
use Rattle.std.proofs.Common.{eqb}
use Rattle.rules.specs.Say.{how_many}
use Rattle.rules.specs.Books.{at}
use Rattle.audit.specs.Survey.{Filled}
use Rattle.audit.proofs.survey.tally.Given as goal

abbrev pub invariant-loop-home : goal.invariant-loop-home
invariant-loop-home l = Filled (λ h. how_many (λ y. eqb (at l.homes y) h) l.home-index) 256 l.tallies
