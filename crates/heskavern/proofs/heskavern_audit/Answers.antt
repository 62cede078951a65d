-- `heskavern::heskavern_audit` has the number of the audit's verdict.
use mathlib.Core.Path.{ap, ◌∙◌}
use Prim.Native.Nat.{ℕ}
use Rattle.rules.specs.Outcome.{heap_of}
use Rattle.rules.specs.Promises.{◌beside◌}
use Rattle.heskavern.proofs.heskavern_audit.Goals as goal

pub returns : goal.returns
returns c =
    let a = c.args in
    ap (λ (k : ℕ). k beside heap_of a.memory.now a.books.now a.map.now) c.number_of.ensures ∙ c.audit.ensures
