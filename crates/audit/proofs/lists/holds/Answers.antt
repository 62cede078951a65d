-- `audit::lists::holds` walks: at each turn the answer is that of the members that are left to meet from the link l on.
use Rattle.std.proofs.Common.{◌≡◌, sym, ◌∙◌, true, ◌-◌, ◌+◌, ◌≤◌, if◌then◌else◌, arith, length, eqb}
use Rattle.rules.specs.Books.{at}
use Rattle.rules.specs.Lists.{next_at, previous_at}
use Rattle.rules.specs.Audit.{leads}
use Rattle.sequences.specs.Walks.{leads_is}
use Rattle.audit.specs.Turns.{meets_end, meets_goes, meets_fails}
use Rattle.audit.proofs.lists.holds.Goals.{Else-not-leads, then-doubly, else-doubly}
use Rattle.audit.proofs.lists.holds.Goals as goal

pub returns-then-not-leads : goal.returns-then-not-leads
returns-then-not-leads c =
    sym (c.loop.invariant.0 ∙ meets_fails _ _ _ _ _ _ _ _ _ (omega arith) (sym c.leads.ensures ∙ c.if-not-leads.true))

-- a member that is met is one of the records
met : (c : Else-not-leads)
    → let a = c.args in
    leads (previous_at a.base) (λ y. eqb (at a.homes.now y) a.head) (length a.homes.now) a.books.now c.loop.l c.loop.p ≡ true
met c = sym c.leads.ensures ∙ c.if-not-leads.false

low : (c : Else-not-leads) → (1 ≤ c.loop.l) × (c.loop.l ≤ length c.args.homes.now)
low c =
    let a = c.args in
    let t = leads_is (next_at a.base) (previous_at a.base) _ _ _ _ _ (met c) in
    (omega (arith, t.0), omega (arith, t.0, t.2.0))

pub overflow_sub-l : goal.overflow_sub-l
overflow_sub-l c = omega (arith, low (goal.at.overflow_sub-l c).Else-not-leads)

pub word-l-requires-in-loop : goal.word-l-requires-in-loop
word-l-requires-in-loop c = omega (arith, low (goal.at.word-l-requires-in-loop c).Else-not-leads)

pub loop-preserved : goal.loop-preserved
loop-preserved c =
    let a = c.args in
    let x = c.loop in
    let behind : c.if-doubly.p ≡ (if a.doubly then x.l else 0) = elim c.if-doubly.branch [
      | then-doubly w ↦ rw (w.if-doubly.true, w.p-is)
      | else-doubly w ↦ rw (w.if-doubly.false, w.p-is)
    ] in
    let less : a.members - x.counter - 1 ≡ a.members - (x.counter + 1) = omega arith in (
      x.invariant.0
          ∙ meets_goes _ _ _ _ _ _ _ _ _ (omega arith) (met (goal.at.loop-preserved c).Else-not-leads)
          ∙ rw (less, c.word-l-in-loop.ensures.0, behind),
      omega (arith, c.word-l-in-loop.ensures.1),
    )

pub returns : goal.returns
returns c = sym (c.loop.invariant.0 ∙ meets_end _ _ _ _ _ _ _ _ _ (omega arith))
