-- `steps::give_back::back_last` meets its contract: its tests make the rules of the path, and none of its writes
-- changes what a later one has been tested for.
use mathlib.Core.List.{List}
use mathlib.Core.Path.{◌≡◌, sym, ap, ap₂, ◌∙◌, subst}
use Prim.Native.Nat.{ℕ, ◌/◌, ◌%◌}
use native.Mathlib.Omega.{arith}
use lib.ListN.{length}
use Rattle.rules.specs.declared.BackPlan.{BackPlan}
use Rattle.rules.specs.Books.{alignment_of, Heap, on_books}
use Rattle.rules.specs.GiveBack.{emptying, given_back}
use Rattle.rules.specs.Outcome.{heap_of, outcome, answer_of}
use Rattle.plans.specs.Range.{ranged}
use Rattle.steps.specs.Arenas.{FitsArena, fits_settling, settled}
use Rattle.steps.specs.Backs.{fits_empty, taken_back, emptied, length_taken, taken_fits, last_length, last_fits}
use Rattle.steps.specs.BackPath.{damaged, stuck, settles, emptied_settled}
use Rattle.steps.proofs.give_back.back_last.Goals.{After-empty_pool, After-settling-plan}
use Rattle.steps.proofs.give_back.back_last.Goals as goal

pub returns-then-not-may_empty : goal.returns-then-not-may_empty
returns-then-not-may_empty c =
    let a = c.args in
    let s = a.shape in
    let h = heap_of a.memory.now a.books.now a.map.now in
    let broken = stuck (alignment_of s.edition) s.arenas s.pools a.books.now a.pool.class (a.offset / 4096) c.arena_of-a.result
    a.pool c.requires.1.loaded c.arena_of-a.ensures.0 (sym c.may_empty.ensures ∙ c.if-not-may_empty.true) in
    damaged (alignment_of s.edition) s.arenas s.pools a.pool.class h a.offset
    ∙ ap (given_back (alignment_of s.edition) s.arenas s.pools a.pool.class h a.offset) (sym broken)

-- the plan is the path
path : (c : After-settling-plan)
    → let a = c.args in
    let s = a.shape in
    emptying (alignment_of s.edition) s.arenas s.pools a.books.now a.pool.class (a.offset / 4096) ≡ c.settling-plan.result
path c =
    let a = c.args in
    let s = a.shape in
    settles (alignment_of s.edition) s.arenas s.pools a.books.now a.pool.class (a.offset / 4096) c.arena_of-a.result
    a.pool c.requires.1.loaded c.arena_of-a.ensures.0 (sym c.may_empty.ensures ∙ c.if-not-may_empty.false)
    ∙ sym c.settling-plan.ensures

pub returns-in-Damaged : goal.returns-in-Damaged
returns-in-Damaged c =
    let a = c.args in
    let s = a.shape in
    let h = heap_of a.memory.now a.books.now a.map.now in
    damaged (alignment_of s.edition) s.arenas s.pools a.pool.class h a.offset
    ∙ ap (given_back (alignment_of s.edition) s.arenas s.pools a.pool.class h a.offset) (sym (path (goal.at.returns-in-Damaged c).After-settling-plan
    ∙ c.in-Damaged.is))

pub empty_pool-requires : goal.empty_pool-requires
empty_pool-requires c =
    let a = c.args in
    let s = a.shape in
    let p = a.offset / 4096 in
    let f = a.offset % 4096 in
    let e = ap (λ (h : Heap). h.books) c.take_back.ensures in
    let fits = fits_empty s.arenas s.pools c.arena_of-a.result p a.pool a.books.now
    c.requires.1.loaded c.arena_of-a.ensures.0 (sym c.may_empty.ensures ∙ c.if-not-may_empty.false) in (
      record {
        range = ranged c.requires.0;
        books = omega (arith, ap length e, length_taken s.arenas p f a.books.now, c.requires.0.books);
        there = c.arena_of-a.ensures.1;
      },
      c.arena_of-a.ensures.0,
      c.requires.1.there,
      c.requires.1.class,
      rw e
          (taken_fits s.arenas s.pools a.pool.class p f a.books.now a.pool
          (omega (arith, c.arena_of-a.ensures.0, c.arena_of-a.ensures.1)) fits),
    )

-- the books after the pool is emptied
last_books : (c : After-empty_pool)
    → let a = c.args in
    let s = a.shape in
    c.empty_pool.new.books
    ≡ emptied s.arenas s.pools a.pool.class (a.offset / 4096) (taken_back s.arenas (a.offset / 4096) (a.offset % 4096) a.books.now)
last_books c =
    let a = c.args in
    let s = a.shape in
    c.empty_pool.ensures
    ∙ ap (emptied s.arenas s.pools a.pool.class (a.offset / 4096)) (ap (λ (h : Heap). h.books) c.take_back.ensures)

-- what the plan knows of the books before
fits : (c : After-settling-plan)
    → let a = c.args in
    FitsArena a.shape.arenas a.books.now (a.offset / 4096 / a.shape.pools) c.settling-plan.result
fits c =
    let a = c.args in
    let s = a.shape in
    subst (λ (x : ℕ). FitsArena s.arenas a.books.now x c.settling-plan.result) c.arena_of-a.ensures.0
    (subst (λ (x : BackPlan). FitsArena s.arenas a.books.now c.arena_of-a.result x) (sym c.settling-plan.ensures)
    (fits_settling s.arenas a.books.now c.arena_of-a.result s.pools))

pub settle-requires : goal.settle-requires
settle-requires c =
    let a = c.args in
    let s = a.shape in
    let p = a.offset / 4096 in
    let f = a.offset % 4096 in
    let home = c.arena_of-a.ensures.0 in
    let e = last_books (goal.at.settle-requires c).After-empty_pool in
    let plan = c.settling-plan.result in
    let last = emptied s.arenas s.pools a.pool.class p (taken_back s.arenas p f a.books.now) in
    let kept = last_fits s.arenas s.pools a.pool.class p f a.books.now c.requires.1.class
    (omega (arith, home, c.arena_of-a.ensures.1)) plan (fits (goal.at.settle-requires c).After-settling-plan) in (
      record {
        range = ranged c.requires.0;
        books = omega (arith, ap length e, last_length s.arenas s.pools a.pool.class p f a.books.now, c.requires.0.books);
        there = c.arena_of-a.ensures.1;
      },
      subst (λ (x : List ℕ). FitsArena s.arenas x c.arena_of-a.result plan) (sym e)
          (subst (λ (n : ℕ). FitsArena s.arenas last n plan) (sym home) kept),
    )

pub returns : goal.returns
returns c =
    let at-settling = (goal.at.returns c).After-settling-plan in
    let a = c.args in
    let s = a.shape in
    let p = a.offset / 4096 in
    let h = heap_of a.memory.now a.books.now a.map.now in
    let plan = c.settling-plan.result in
    ap (λ (x : List ℕ). outcome (answer_of 0 a.offset) (heap_of c.take_back.new.memory x c.take_back.new.map))
    (c.settle.ensures ∙ ap₂ (λ (n : ℕ) (x : List ℕ). settled n plan x) c.arena_of-a.ensures.0 c.empty_pool.ensures)
    ∙ ap (λ (x : Heap). outcome (answer_of 0 a.offset)
    (on_books (λ b. settled (p / s.pools) plan (emptied s.arenas s.pools a.pool.class p b)) x)) c.take_back.ensures
    ∙ sym (emptied_settled (alignment_of s.edition) s.arenas s.pools a.pool.class h a.offset plan (fits at-settling)
    c.in_default.not-Damaged)
    ∙ ap (given_back (alignment_of s.edition) s.arenas s.pools a.pool.class h a.offset) (sym (path at-settling))
