-- `compare::changes::tally` counts the pools in turn: at turn p the counts are those of the pools before pool p.
use Rattle.std.proofs.Common.{ℕ, ◌/◌, ap, ap₂, ◌∙◌, arith}
use Rattle.books.specs.Sizes.{aligned, class_low}
use Rattle.compare.specs.Changes.{added, has_class, one_more, still_small}
use Rattle.compare.proofs.changes.tally.Goals as goal

pub add-requires : goal.add-requires
add-requires c d =
    let h = c.args.heap.now in
    let x = c.loop-pool in
    let L = aligned h.shape.edition in
    let words = ap (λ (n : ℕ). n / 2) c.count_pool-words.ensures in
    let e = c.pool_word-class.ensures.0 in
    let k = has_class L h.shape.arenas h.books.now h.map.now x.pool x.counts x.invariant.1 (λ z. d (words ∙ z)) in (
      omega (arith, e, class_low L _ k),
      rw (e, words) (still_small L h.shape.arenas h.books.now h.map.now x.pool x.counts x.invariant.1 (λ z. d (words ∙ z)) x.invariant.0
          (omega (arith, h.shaped.all))),
    )

pub loop-pool-preserved : goal.loop-pool-preserved
loop-pool-preserved c =
    let h = c.args.heap.now in
    let x = c.loop-pool in
    let words = ap (λ (n : ℕ). n / 2) c.count_pool-words.ensures in
    let e = c.add.ensures ∙ ap₂ (λ (k n : ℕ). added k n x.counts) c.pool_word-class.ensures.0 words in
    (rw e (one_more (aligned h.shape.edition) h.shape.arenas h.books.now h.map.now x.pool x.counts x.invariant.1 x.invariant.0), c.add.array_long)
