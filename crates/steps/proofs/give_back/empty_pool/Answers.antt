-- `steps::give_back::empty_pool` meets its contract: the pool leaves the class list by its record's links, which are
-- those that the books hold, and then joins the freed pools; leaving keeps the arena's words.
use mathlib.Core.Path.{◌≡◌, sym, ap, ap₂, ◌∙◌}
use Prim.Native.Nat.{ℕ, ◌+◌}
use native.Mathlib.Omega.{arith}
use lib.ListN.{length}
use Rattle.rules.specs.Books.{arena, free_pools}
use Rattle.rules.specs.Lists as L
use Rattle.books.specs.Lists.{pool_leaves_lem}
use Rattle.steps.specs.Backs.{left_keeps}
use Rattle.steps.proofs.give_back.empty_pool.Goals.{After-leave_by}
use Rattle.steps.proofs.give_back.empty_pool.Goals as goal

-- the books after leaving are the rules'
left : (c : After-leave_by)
    → let a = c.args in
    c.leave_by.new.books ≡ L.leave (L.pool_links a.shape.arenas) (4 + a.pool.class) a.p a.books.now
left c =
    let a = c.args in
    c.leave_by.ensures
    ∙ ap₂ (λ (x y : ℕ). L.leave_by x (4 + y) a.pool.next a.pool.previous a.p a.books.now)
    c.pool_links.ensures c.index.ensures.0
    ∙ sym (pool_leaves_lem a.shape.arenas (4 + a.pool.class) a.pool.next a.pool.previous a.p a.books.now
    c.requires.4.next c.requires.4.previous)

pub free_pool-requires : goal.free_pool-requires
free_pool-requires c =
    let a = c.args in
    let e = left (goal.at.free_pool-requires c).After-leave_by in
    let k = left_keeps a.shape.arenas a.pool.class a.p a.a a.books.now (omega arith) (omega arith) in
    let free = ap (λ (x : ℕ). arena a.books.now free_pools x) c.requires.1 in
    (omega arith, omega arith, omega arith, omega (arith, ap length e), rw e (omega (arith, k.1, c.requires.4.free, free)))
