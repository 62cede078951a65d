-- `audit::survey::count_bits` keeps the counts: at turn n those of the pools before n.
use Rattle.rules.specs.Audit.{set_bits}
use Rattle.audit.specs.Survey.{Filled}
use Rattle.audit.proofs.survey.count_bits.Given as goal

abbrev pub invariant-loop-n : goal.invariant-loop-n
invariant-loop-n l = Filled (set_bits l.map) l.n l.counts
