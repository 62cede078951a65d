-- `asks::ask::spend` tests the free pools that it has just stored, and the arena leaves by the links that it had.
use mathlib.Core.Path.{ap, ◌∙◌}
use mathlib.Core.List.{List}
use Prim.Native.Nat.{ℕ}
use native.Mathlib.Omega.{arith}
use Rattle.rules.specs.Outcome.{heap_of}
use Rattle.asks.specs.HandOut.{spend_stays, spend_leaves}
use Rattle.asks.proofs.ask.spend.Goals as goal

pub returns-then-free-eq0 : goal.returns-then-free-eq0
returns-then-free-eq0 c al P class =
    let a = c.args in
    let left = spend_leaves a.arenas a.a a.books.now (omega arith) al P class (omega arith) in
    record { same = λ m k. ap (λ (x : List ℕ). heap_of m x k) c.leave.ensures ∙ left.same m k }

pub returns-else-free-eq0 : goal.returns-else-free-eq0
returns-else-free-eq0 c al P class =
    let a = c.args in
    spend_stays a.arenas a.a a.books.now (omega arith) al P class c.if-free-eq0.false
