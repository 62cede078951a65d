-- `audit::lists::holds` walks: at each turn the answer is that of the members that are left to meet from the link l on.
use Rattle.std.proofs.Common.{◌≡◌, ◌-◌, ◌<◌, length, eqb}
use Rattle.rules.specs.Books.{at}
use Rattle.rules.specs.Lists.{next_at, previous_at}
use Rattle.rules.specs.Audit.{meets}
use Rattle.audit.specs.Lists.{list_holds}
use Rattle.audit.proofs.lists.holds.Given as goal

abbrev pub invariant-loop : goal.invariant-loop
invariant-loop v = (list_holds v.base v.books v.homes v.doubly v.head
    ≡ meets (next_at v.base) (previous_at v.base) (λ y. eqb (at v.homes y) v.head) (length v.homes) v.books v.doubly
    (v.members - v.counter) v.l v.p)
    × (v.l < 4294967296)
