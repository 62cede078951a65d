-- The path of a give-back by the tests that its functions make, of which the rules' definitions are a chain.
-- Assumes nothing.
use Rattle.std.specs.Prelude.{◌≡◌, refl, ◌≢◌, Bool, true, false, ◌&&◌, ◌||◌, List, ℕ, ◌*◌, ◌-◌, ◌/◌, ◌%◌, leb, eqb, if◌then◌else◌}
use Rattle.std.proofs.Common.{sym, ap, ◌∙◌, eq-eqb, ne_eqb}
use Rattle.rules.specs.declared.BackPlan.{BackPlan}
use Rattle.rules.specs.declared.BackPlan.TheVariants.{Damaged, Joins, Stays, Empties, Moves, Returns, Releases}
use Rattle.rules.specs.Say.{◌▷◌}
use Rattle.rules.specs.Books.{Heap, on_books, class_head, free_pools, freed_head, arena, none?}
use Rattle.rules.specs.Blocks.{size_of, is_start, class_at}
use Rattle.rules.specs.Lists.{may_join}
use Rattle.rules.specs.Outcome.{Outcome, outcome, answer_of}
use Rattle.rules.specs.GiveBack.{
  ◌⇛◌,
  settling,
  emptying,
  plan_back,
  take_back,
  empty,
  back_answer,
  after_back,
  given_back,
  back_step,
}
use Rattle.books.specs.declared.pool.Pool.{Pool}
use Rattle.books.specs.Lists.{pool_may_leave}
use Rattle.books.specs.Records.{pool_at, may_give, links_lead}
use Rattle.steps.specs.Arenas.{FitsArena, settled}
use Rattle.steps.specs.Backs.{may_empty}

-- a give-back whose class and path are known, and so what it leaves
pub step_is : (al A P c : ℕ) (h : Heap) (o : ℕ) (x : Outcome) (q : BackPlan) → c ≡ class_at A h.books o
    → plan_back al A P h.books c (o / 4096) ≡ q
    → x ≡ given_back al A P c h o q → x ≡ back_step al A P h o
unfolding back_step
step_is al A P c h o x q e f g =
    g ∙ ap (given_back al A P c h o) (sym f) ∙ ap (λ (d : ℕ). given_back al A P d h o (plan_back al A P h.books d (o / 4096))) e

-- one that ends at a broken rule is refused, and changes nothing
pub damaged : (al A P c : ℕ) (h : Heap) (o : ℕ) → outcome (answer_of 6 0) h ≡ given_back al A P c h o Damaged
unfolding back_answer after_back
damaged al A P c h o = refl

-- a rule before one that is broken
before_broken : (x : Bool) → (x ⇛ Damaged) ≡ Damaged
before_broken true = refl
before_broken false = refl

-- ---- the path of a block of class c, of pool p, whose record is q
module _ (al A P : ℕ) (b : List ℕ) (c p : ℕ) (q : Pool) (loaded : q ≡ pool_at A b p) where
  -- blocks of the class have size s, and `free` is the pool's freeblock
  module _ (s free : ℕ) (size : s ≡ size_of al c) (block : free ≡ q.freeblock) where
    plan_is : plan_back al A P b c p ≡ ((none? q.freeblock || is_start s free)
        ⇛ may_give q
        ⇛ (if none? q.freeblock then may_join (A * P) (class_head c) b ⇛ Joins
        else if eqb q.count 1 then emptying al A P b c p else Stays))
    unfolding plan_back
    plan_is = rw (block, loaded, size)

    pub no_start : (q.freeblock ≡ 0 → ⊥) → is_start s free ≡ false → plan_back al A P b c p ≡ Damaged
    no_start f u = rw (plan_is, ne_eqb q.freeblock 0 f, u)

    pub falls_empty : may_give q ≡ true → (q.freeblock ≡ 0 → ⊥) → is_start s free ≡ true → q.count ≡ 1
        → plan_back al A P b c p ≡ emptying al A P b c p
    falls_empty t f u e = rw (plan_is, t, ne_eqb q.freeblock 0 f, u, eq-eqb q.count 1 e)

    pub stays : may_give q ≡ true → (q.freeblock ≡ 0 → ⊥) → is_start s free ≡ true → (q.count ≡ 1 → ⊥)
        → plan_back al A P b c p ≡ Stays
    stays t f u e = rw (plan_is, t, ne_eqb q.freeblock 0 f, u, ne_eqb q.count 1 e)

  pub miscounted : may_give q ≡ false → plan_back al A P b c p ≡ Damaged
  miscounted t = rw (plan_is (size_of al c) q.freeblock refl refl, t) (before_broken (none? q.freeblock || is_start (size_of al c) q.freeblock))

  pub listless : may_give q ≡ true → q.freeblock ≡ 0 → may_join (A * P) (class_head c) b ≡ false
      → plan_back al A P b c p ≡ Damaged
  listless t z u = rw (plan_is (size_of al c) q.freeblock refl refl, t, eq-eqb q.freeblock 0 z, u)

  pub joins : may_give q ≡ true → q.freeblock ≡ 0 → may_join (A * P) (class_head c) b ≡ true
      → plan_back al A P b c p ≡ Joins
  joins t z u = rw (plan_is (size_of al c) q.freeblock refl refl, t, eq-eqb q.freeblock 0 z, u)

-- ---- and of the last block of its pool, of arena a
-- the rules of the pool's return, made one test
one_test : (x y z : Bool) (rest : BackPlan) → (x ⇛ y ⇛ z ⇛ rest) ≡ (x && y && z ⇛ rest)
one_test true true z rest = refl
one_test true false z rest = refl
one_test false y z rest = refl

module _ (al A P : ℕ) (b : List ℕ) (c p a : ℕ) (q : Pool) (loaded : q ≡ pool_at A b p) (home : a ≡ p / P) where
  emptying_is : emptying al A P b c p ≡ (may_empty A P a q b ⇛ settling A b a P)
  unfolding emptying
  emptying_is =
      rw (home, loaded, pool_may_leave (A * P) A p b)
      (one_test (links_lead (pool_at A b p) (A * P)) (leb (arena b freed_head (p / P)) (A * P)) (leb (arena b free_pools (p / P)) (P - 1))
      (settling A b (p / P) P))

  pub stuck : may_empty A P a q b ≡ false → emptying al A P b c p ≡ Damaged
  stuck t = rw (emptying_is, t)

  pub settles : may_empty A P a q b ≡ true → emptying al A P b c p ≡ settling A b a P
  settles t = rw (emptying_is, t)

-- what a give-back leaves that empties its pool: the block is taken back, the pool goes to its arena, and the arena
-- is settled
pub emptied_settled : (al A P c : ℕ) (h : Heap) (o : ℕ) (plan : BackPlan)
    → FitsArena A h.books (o / 4096 / P) plan → plan ≢ Damaged
    → given_back al A P c h o plan
    ≡ outcome (answer_of 0 o) (h ▷ take_back al A P c (o / 4096) (o % 4096) ▷ empty al A P c (o / 4096) (o % 4096)
    ▷ on_books (settled (o / 4096 / P) plan))
unfolding back_answer after_back
emptied_settled al A P c h o Damaged t d = absurd (d refl)
emptied_settled al A P c h o Joins t d = absurd t
emptied_settled al A P c h o Stays t d = absurd t
emptied_settled al A P c h o Empties t d = refl
emptied_settled al A P c h o (Moves q) t d = refl
emptied_settled al A P c h o Returns t d = refl
emptied_settled al A P c h o Releases t d = refl
