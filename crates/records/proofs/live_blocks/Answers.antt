-- `records::live_blocks` counts the words of the roll, two for each live block.
use mathlib.Core.Path.{sym, ap, ◌∙◌, subst}
use Prim.Native.Nat.{ℕ, ◌*◌, ◌/◌}
use native.Mathlib.Omega.{arith}
use lib.ListN.{length}
use Rattle.rules.specs.Books.{alignment_of}
use Rattle.rules.specs.View.{roll_pools}
use Rattle.books.specs.declared.words.Shape.{Shape}
use Rattle.books.specs.Sizes.{aligned}
use Rattle.loops.specs.Roll.{Pools, length_roll}
use Rattle.records.proofs.live_blocks.Goals.{After-shape_of-shape}
use Rattle.records.proofs.live_blocks.Goals as goal

pub shape_of-shape-requires : goal.shape_of-shape-requires
shape_of-shape-requires c = omega (arith, c.requires.books)

-- what is known of the shape that was read
counted : (c : After-shape_of-shape)
    → let s = c.shape_of-shape.result in
    Pools s.arenas (s.arenas * s.pools) c.args.books.now c.args.map.now
counted c =
    let a = c.args in
    subst (λ (s : Shape). Pools s.arenas (s.arenas * s.pools) a.books.now a.map.now) (sym c.shape_of-shape.ensures) c.requires

pub overflow_mul-all : goal.overflow_mul-all
overflow_mul-all c = omega (arith, (counted (goal.at.overflow_mul-all c).After-shape_of-shape).few)

pub count_words-requires : goal.count_words-requires
count_words-requires c = counted (goal.at.count_words-requires c).After-shape_of-shape

pub overflow_cast-result : goal.overflow_cast-result
overflow_cast-result c =
    let a = c.args in
    let s = c.shape_of-shape.result in
    omega (
      arith,
      (counted (goal.at.overflow_cast-result c).After-shape_of-shape).few,
      c.count_words.ensures,
      length_roll (alignment_of s.edition) s.arenas a.books.now a.map.now (aligned s.edition).low 0 (s.arenas * s.pools),
    )

pub returns : goal.returns
returns c =
    let a = c.args in
    ap (λ (n : ℕ). n / 2) (c.count_words.ensures
    ∙ ap (λ (s : Shape). length (roll_pools (alignment_of s.edition) s.arenas a.books.now a.map.now 0 (s.arenas * s.pools)))
    c.shape_of-shape.ensures)
