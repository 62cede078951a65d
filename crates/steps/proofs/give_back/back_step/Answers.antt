-- `steps::give_back::back_step` meets its contract: each of its tests is the next rule of the path, and the writes at
-- its end are the path's. A live offset has a class, a start and a pool.
use mathlib.Core.List.{List}
use mathlib.Core.Path.{◌≡◌, sym, ap, ap₂, ◌∙◌}
use mathlib.Core.Bool.{true}
use Prim.Native.Nat.{ℕ, ◌+◌, ◌*◌, ◌/◌, ◌%◌, ◌≤◌}
use native.Mathlib.Omega.{arith}
use lib.ListN.{length}
use borrow.Author.Tests.{leb-true}
use Rattle.rules.specs.declared.BackPlan.{BackPlan}
use Rattle.rules.specs.Books.{alignment_of, Heap, at, on_books, class_head}
use Rattle.rules.specs.Lists as L
use Rattle.rules.specs.GiveBack.{plan_back, given_back, back_step, after_back, back_answer}
use Rattle.rules.specs.Outcome.{Outcome, heap_of, outcome, answer_of}
use Rattle.books.specs.Sizes.{aligned}
use Rattle.books.specs.declared.pool.Pool.{Pool}
use Rattle.books.specs.Records.{may_give}
use Rattle.steps.specs.Backs.{Counted, counted, length_taken, taken_before}
use Rattle.steps.specs.BackPath.{step_is, damaged, miscounted, listless, joins, no_start, falls_empty, stays}
use Rattle.steps.proofs.give_back.back_step.Goals.{After-load_pool-pool, Else-not-may_give}
use Rattle.steps.proofs.give_back.back_step.Goals as goal

-- the heap before, and the path of a block of the class that its pool's record says
abbrev before : After-load_pool-pool → Heap
before c = heap_of c.args.memory.now c.args.books.now c.args.map.now

abbrev path : After-load_pool-pool → BackPlan
path c =
    let s = c.args.shape in
    plan_back (alignment_of s.edition) s.arenas s.pools c.args.books.now c.load_pool-pool.result.class (c.args.offset / 4096)

-- a step that leaves what its path says
step : (c : After-load_pool-pool) (x : Outcome) (plan : BackPlan) → path c ≡ plan
    → let a = c.args in
    let s = a.shape in
    x ≡ given_back (alignment_of s.edition) s.arenas s.pools c.load_pool-pool.result.class (before c) a.offset plan
    → x ≡ back_step (alignment_of s.edition) s.arenas s.pools (before c) a.offset
step c x plan =
    let s = c.args.shape in
    step_is (alignment_of s.edition) s.arenas s.pools c.load_pool-pool.result.class (before c) c.args.offset x plan
    (ap (λ (q : Pool). q.class) c.load_pool-pool.ensures)

-- one that a broken rule ends
broken : (c : After-load_pool-pool) → path c ≡ BackPlan.Damaged
    → let s = c.args.shape in
    outcome (answer_of 6 0) (before c) ≡ back_step (alignment_of s.edition) s.arenas s.pools (before c) c.args.offset
broken c e =
    let s = c.args.shape in
    step c _ BackPlan.Damaged e
    (damaged (alignment_of s.edition) s.arenas s.pools c.load_pool-pool.result.class (before c) c.args.offset)

pub returns-then-not-may_give : goal.returns-then-not-may_give
returns-then-not-may_give c =
    let a = c.args in
    let s = a.shape in
    let q = c.load_pool-pool.result in
    broken (goal.at.returns-then-not-may_give c).After-load_pool-pool
    (miscounted (alignment_of s.edition) s.arenas s.pools a.books.now q.class (a.offset / 4096) q c.load_pool-pool.ensures
    (sym c.may_give.ensures ∙ c.if-not-may_give.true))

-- the pool's count has passed
gives : (c : Else-not-may_give) → may_give c.load_pool-pool.result ≡ true
gives c = sym c.may_give.ensures ∙ c.if-not-may_give.false

-- the block, once its pool's count has passed
block : (c : Else-not-may_give)
    → let a = c.args in
    let s = a.shape in
    Counted (alignment_of s.edition) s.arenas s.pools a.offset a.block c.load_pool-pool.result a.books.now
block c =
    let a = c.args in
    let s = a.shape in
    counted (aligned s.edition) s.arenas s.pools a.offset a.block c.load_pool-pool.result a.books.now a.map.now
    c.load_pool-pool.ensures c.requires.1 (gives c)

pub may_join-requires : goal.may_join-requires
may_join-requires c =
    omega (arith, (block (goal.at.may_join-requires c).Else-not-may_give).class, c.index-head.ensures.0, c.requires.0.books)

pub returns-then-not-may_join : goal.returns-then-not-may_join
returns-then-not-may_join c =
    let a = c.args in
    let s = a.shape in
    let q = c.load_pool-pool.result in
    broken (goal.at.returns-then-not-may_join c).After-load_pool-pool
    (listless (alignment_of s.edition) s.arenas s.pools a.books.now q.class (a.offset / 4096) q c.load_pool-pool.ensures
    (gives (goal.at.returns-then-not-may_join c).Else-not-may_give) c.if-pool-eq0.true
    (rw c.index-head.ensures.0 at (sym c.may_join.ensures ∙ c.if-not-may_join.true)))

pub take_back-requires : goal.take_back-requires
take_back-requires c = (c.requires.0, block (goal.at.take_back-requires c).Else-not-may_give)

pub join-requires : goal.join-requires
join-requires c =
    let a = c.args in
    let s = a.shape in
    let p = a.offset / 4096 in
    let f = a.offset % 4096 in
    let b = block (goal.at.join-requires c).Else-not-may_give in
    let e = ap (λ (h : Heap). h.books) c.take_back.ensures in
    let long = length_taken s.arenas p f a.books.now in
    let head : at a.books.now (class_head c.index-head.result) ≤ s.arenas * s.pools = leb-true _ _
    (sym c.may_join.ensures ∙ c.if-not-may_join.false) in
    let kept = taken_before s.arenas s.pools c.index-head.result p f a.books.now (class_head c.index-head.result)
    (omega (arith, b.class, c.index-head.ensures.0)) in (
      b.there,
      c.requires.0.all,
      omega (arith, ap length e, long, c.requires.0.books, c.pool_links.ensures),
      omega (arith, ap length e, long, c.requires.0.books, b.class, c.index-head.ensures.0),
      rw (e, kept) head,
    )

pub returns-then-pool-eq0 : goal.returns-then-pool-eq0
unfolding after_back back_answer
returns-then-pool-eq0 c =
    let a = c.args in
    let s = a.shape in
    let p = a.offset / 4096 in
    let q = c.load_pool-pool.result in
    step (goal.at.returns-then-pool-eq0 c).After-load_pool-pool _ _
    (joins (alignment_of s.edition) s.arenas s.pools a.books.now q.class p q c.load_pool-pool.ensures
    (gives (goal.at.returns-then-pool-eq0 c).Else-not-may_give) c.if-pool-eq0.true
    (rw c.index-head.ensures.0 at (sym c.may_join.ensures ∙ c.if-not-may_join.false)))
    (ap (λ (x : List ℕ). outcome (answer_of 0 a.offset) (heap_of c.take_back.new.memory x c.take_back.new.map))
    (c.join.ensures
    ∙ ap₂ (λ (x y : ℕ). L.join x (4 + y) p c.take_back.new.books) c.pool_links.ensures c.index-head.ensures.0)
    ∙ ap (λ (x : Heap). outcome (answer_of 0 a.offset) (on_books (L.join (L.pool_links s.arenas) (class_head q.class) p) x))
    c.take_back.ensures)

pub is_start-requires : goal.is_start-requires
is_start-requires c =
    let b = block (goal.at.is_start-requires c).Else-not-may_give in
    (omega (arith, b.size, b.low), omega (arith, b.size, b.high))

pub returns-then-not-is_start : goal.returns-then-not-is_start
returns-then-not-is_start c =
    let a = c.args in
    let s = a.shape in
    let q = c.load_pool-pool.result in
    broken (goal.at.returns-then-not-is_start c).After-load_pool-pool
    (no_start (alignment_of s.edition) s.arenas s.pools a.books.now q.class (a.offset / 4096) q c.load_pool-pool.ensures
    a.block.size c.index.result (block (goal.at.returns-then-not-is_start c).Else-not-may_give).size c.index.ensures.0
    c.if-pool-eq0.false (sym c.is_start.ensures ∙ c.if-not-is_start.true))

pub back_last-requires : goal.back_last-requires
back_last-requires c = (c.requires.0, block (goal.at.back_last-requires c).Else-not-may_give)

pub returns-then-pool-eq1 : goal.returns-then-pool-eq1
returns-then-pool-eq1 c =
    let given = (goal.at.returns-then-pool-eq1 c).Else-not-may_give in
    let a = c.args in
    let s = a.shape in
    let q = c.load_pool-pool.result in
    step (goal.at.returns-then-pool-eq1 c).After-load_pool-pool _ _
    (falls_empty (alignment_of s.edition) s.arenas s.pools a.books.now q.class (a.offset / 4096) q c.load_pool-pool.ensures
    a.block.size c.index.result (block given).size c.index.ensures.0
    (gives given) c.if-pool-eq0.false (sym c.is_start.ensures ∙ c.if-not-is_start.false) c.if-pool-eq1.true)
    c.back_last.ensures

pub take_back-requires-2 : goal.take_back-requires-2
take_back-requires-2 c = (c.requires.0, block (goal.at.take_back-requires-2 c).Else-not-may_give)

pub returns : goal.returns
unfolding after_back back_answer
returns c =
    let given = (goal.at.returns c).Else-not-may_give in
    let a = c.args in
    let s = a.shape in
    let q = c.load_pool-pool.result in
    step (goal.at.returns c).After-load_pool-pool _ _
    (stays (alignment_of s.edition) s.arenas s.pools a.books.now q.class (a.offset / 4096) q c.load_pool-pool.ensures
    a.block.size c.index.result (block given).size c.index.ensures.0
    (gives given) c.if-pool-eq0.false (sym c.is_start.ensures ∙ c.if-not-is_start.false) c.if-pool-eq1.false)
    (ap (λ (x : Heap). outcome (answer_of 0 a.offset) x) c.take_back-2.ensures)
