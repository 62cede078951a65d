-- `audit::lists::leads` makes the tests of `leads` in turn: a link that leads to no record has none.
use Rattle.std.proofs.Common.{sym, ap₂, ◌∙◌, ◌&&◌, ℕ, arith, eqb, length}
use Rattle.rules.specs.Books.{at}
use Rattle.rules.specs.Lists.{previous_at}
use Rattle.audit.specs.Turns.{none_led, far_led, near_led}
use Rattle.audit.proofs.lists.leads.Goals as goal

pub returns-then-l-eq0 : goal.returns-then-l-eq0
returns-then-l-eq0 c = sym (none_led _ _ _ _ _ _ c.if-l-eq0.true)

pub returns-then-homes-l : goal.returns-then-homes-l
returns-then-homes-l c = sym (far_led _ _ _ _ _ _ c.if-homes-l.true)

pub returns : goal.returns
returns c =
    let a = c.args in
    ap₂ (λ (x y : ℕ). eqb x a.head && eqb y a.p) c.from.ensures c.word.ensures.0
    ∙ sym (near_led (previous_at a.base) (λ y. eqb (at a.homes.now y) a.head) (length a.homes.now) a.books.now a.l a.p
    (omega arith) (omega arith))
