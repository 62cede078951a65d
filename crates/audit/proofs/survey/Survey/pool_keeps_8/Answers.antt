-- `audit::survey::Survey::pool_keeps_8` goes by cases as `pool_keeps8` does: a pool that is not carved, one of no class
-- with no set bit, one of a number that is no class, and one whose blocks are divided.
use Rattle.std.proofs.Common.{◌≡◌, sym, ap, ap₂, ◌∙◌, ◌&&◌, ℕ, false, ◌≤◌, arith, eqb, eqb-true}
use Rattle.rules.specs.Books.{class, no_class, pool}
use Rattle.rules.specs.Blocks.{size_of}
use Rattle.rules.specs.Audit.{set_bits}
use Rattle.books.specs.declared.pool.Pool.{Pool}
use Rattle.books.specs.Sizes.{aligned, class_size, no_class_lem, a_class}
use Rattle.books.specs.Tests.{both}
use Rattle.audit.specs.Survey.{alignment_in}
use Rattle.audit.specs.Divided.{else_zero, keeps_away, keeps_unset, keeps_no_class, keeps_divided}
use Rattle.audit.proofs.survey.Survey.pool_keeps_8.Goals.{After-size_of-size}
use Rattle.audit.proofs.survey.Survey.pool_keeps_8.Goals as goal

pub returns-then-not-is_carved : goal.returns-then-not-is_carved
returns-then-not-is_carved c = sym (keeps_away _ _ _ _ _ _ _ (sym c.is_carved.ensures ∙ c.if-not-is_carved.true))

pub returns-then-live-pool : goal.returns-then-live-pool
returns-then-live-pool c =
    let h = c.args.self.now.heap in
    let al = alignment_in h in
    let k = pool h.shape.arenas h.books.now class c.args.n in
    let live : c.from-live.result ≡ set_bits h.map.now c.args.n = c.from-live.ensures ∙ c.args.self.now.surveyed.counted c.args.n c.requires.0 in
    let is : c.load_pool-pool.result.class ≡ k = ap (λ (p : Pool). p.class) c.load_pool-pool.ensures in
    let in_carved = (sym c.is_carved.ensures ∙ c.if-not-is_carved.false) in
    let t = both (eqb c.from-live.result 0) (eqb c.load_pool-pool.result.class no_class) c.if-live-pool.true in
    c.else_zero.ensures ∙ ap else_zero c.load_pool-pool.ensures
    ∙ sym (keeps_unset al h.shape.arenas h.shape.pools h.memory.now h.books.now h.map.now c.args.n in_carved
    (sym live ∙ eqb-true c.from-live.result 0 t.0) (sym is ∙ eqb-true c.load_pool-pool.result.class no_class t.1))

-- past the second test the pool has a class or live blocks, and the size is by its class
sized : (c : After-size_of-size)
    → let h = c.args.self.now.heap in
    let k = pool h.shape.arenas h.books.now class c.args.n in
    ((eqb (set_bits h.map.now c.args.n) 0 && eqb k no_class) ≡ false) × (c.size_of-size.result ≡ size_of (alignment_in h) k)
sized c =
    let h = c.args.self.now.heap in
    let live = c.from-live.ensures ∙ c.args.self.now.surveyed.counted c.args.n c.requires.0 in
    let is : c.load_pool-pool.result.class ≡ pool h.shape.arenas h.books.now class c.args.n = ap (λ (p : Pool). p.class) c.load_pool-pool.ensures in (
      sym (ap₂ (λ (x y : ℕ). eqb x 0 && eqb y no_class) live is) ∙ c.if-live-pool.false,
      c.size_of-size.ensures.0 ∙ ap (size_of (alignment_in h)) (c.index.ensures.0 ∙ is),
    )

pub returns-then-size-gt-LARGEST : goal.returns-then-size-gt-LARGEST
returns-then-size-gt-LARGEST c =
    let h = c.args.self.now.heap in
    let t = sized (goal.at.returns-then-size-gt-LARGEST c).After-size_of-size in
    sym (keeps_no_class (alignment_in h) h.shape.arenas h.shape.pools h.memory.now h.books.now h.map.now c.args.n
    (sym c.is_carved.ensures ∙ c.if-not-is_carved.false) t.0
    (no_class_lem (aligned h.shape.edition) _ (omega (arith, t.1, c.if-size-gt-LARGEST.true))))

pub returns : goal.returns
returns c =
    let h = c.args.self.now.heap in
    let k = pool h.shape.arenas h.books.now class c.args.n in
    let t = sized (goal.at.returns c).After-size_of-size in
    let low : size_of (alignment_in h) k ≤ 512 = omega (arith, t.1, c.if-size-gt-LARGEST.false) in
    c.are_divided.ensures
    ∙ rw (c.load_pool-pool.ensures, t.1, c.from-live.ensures, c.args.self.now.surveyed.counted c.args.n c.requires.0)
    (sym (keeps_divided (alignment_in h) h.shape.arenas h.shape.pools h.memory.now h.books.now h.map.now c.args.n
    (sym c.is_carved.ensures ∙ c.if-not-is_carved.false) t.0 (a_class (aligned h.shape.edition) k low) ((class_size (aligned h.shape.edition) k).1 low)))
