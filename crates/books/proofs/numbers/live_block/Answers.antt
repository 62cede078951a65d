-- `books::numbers::live_block` makes the four tests of a live offset in turn, and the map bit is the last: where one of
-- the others fails there is no block, and where the bit is not set `not_live` decides.
use Rattle.std.proofs.Common.{◌≡◌, true, ℕ, ◌%◌, sym, ap, ◌∙◌, arith, leb, ltb, lt-ltb, le-ltb}
use Rattle.rules.specs.Books.{memory_length}
use Rattle.rules.specs.Blocks.{last_class, block_no, class_at, size_at, at_start, live, is_block, live_number}
use Rattle.books.specs.Sizes.{aligned, no_class_lem, a_class}
use Rattle.books.specs.Known.{live_is}
use Rattle.books.specs.Readers.{alignment_in}
use Rattle.books.proofs.numbers.live_block.Goals.{After-is_set, Else-heap-offset, Else-size-gt-LARGEST, Then-is_set}
use Rattle.books.proofs.numbers.live_block.Goals as goal

pub returns-then-heap-offset-clause-number : goal.returns-then-heap-offset-clause-number
unfolding live_number live is_block
returns-then-heap-offset-clause-number c =
    let h = c.args.heap.now in
    simp (le-ltb c.args.offset (memory_length h.shape.arenas h.shape.pools) (omega (arith, c.if-heap-offset.true, h.shaped.memory)))

-- past the first test the offset lies in memory
inside : (c : Else-heap-offset)
    → let h = c.args.heap.now in ltb c.args.offset (memory_length h.shape.arenas h.shape.pools) ≡ true
inside c =
    let h = c.args.heap.now in
    lt-ltb c.args.offset (memory_length h.shape.arenas h.shape.pools) (omega (arith, c.if-heap-offset.false, h.shaped.memory))

pub returns-then-size-gt-LARGEST-clause-number : goal.returns-then-size-gt-LARGEST-clause-number
unfolding live_number live is_block
returns-then-size-gt-LARGEST-clause-number c =
    let h = c.args.heap.now in
    let size = c.size_at-size.ensures.0 in
    let large = no_class_lem (aligned h.shape.edition) (class_at h.shape.arenas h.books.now c.args.offset)
    (omega (arith, size, c.if-size-gt-LARGEST.true)) in
    simp (inside (goal.at.returns-then-size-gt-LARGEST-clause-number c).Else-heap-offset, large)

-- past the second its pool has a class
classed : (c : Else-size-gt-LARGEST)
    → let h = c.args.heap.now in
    leb (class_at h.shape.arenas h.books.now c.args.offset) (last_class (alignment_in h)) ≡ true
classed c =
    let h = c.args.heap.now in
    a_class (aligned h.shape.edition) (class_at h.shape.arenas h.books.now c.args.offset)
    (omega (arith, c.size_at-size.ensures.0, c.if-size-gt-LARGEST.false))

pub returns-then-not-is_start-clause-number : goal.returns-then-not-is_start-clause-number
unfolding live_number live is_block
returns-then-not-is_start-clause-number c =
    simp (
      inside (goal.at.returns-then-not-is_start-clause-number c).Else-heap-offset,
      classed (goal.at.returns-then-not-is_start-clause-number c).Else-size-gt-LARGEST,
      ← c.size_at-size.ensures.0,
      sym c.is_start.ensures ∙ c.if-not-is_start.true,
    )

pub block_no-number-requires : goal.block_no-number-requires
block_no-number-requires c =
    (c.size_at-size.ensures.1, omega (arith, c.if-size-gt-LARGEST.false), sym c.is_start.ensures ∙ c.if-not-is_start.false)

-- the tests before it are passed: a block may start there
starts : (c : After-is_set)
    → let h = c.args.heap.now in
    at_start (alignment_in h) h.shape.arenas h.shape.pools h.books.now c.args.offset ≡ true
starts c =
    simp (
      inside (goal.at.After-is_set c).Else-heap-offset,
      classed (goal.at.After-is_set c).Else-size-gt-LARGEST,
      ← c.size_at-size.ensures.0,
      sym c.is_start.ensures ∙ c.if-not-is_start.false,
    )

-- and which
block_is : (c : After-is_set)
    → let h = c.args.heap.now in
    c.block_no-number.result ≡ block_no (size_at (alignment_in h) h.shape.arenas h.books.now c.args.offset) (c.args.offset % 4096)
block_is c =
    c.block_no-number.ensures.0 ∙ ap (λ (s : ℕ). block_no s (c.args.offset % 4096)) c.size_at-size.ensures.0

-- it is live
is_live : (c : Then-is_set)
    → let h = c.args.heap.now in
    live (alignment_in h) h.shape.arenas h.shape.pools h.books.now h.map.now c.args.offset ≡ true
unfolding live
is_live c =
    let at-bit = (goal.at.Then-is_set c).After-is_set in
    rw (starts at-bit, ← block_is at-bit, ← c.is_set.ensures) c.if-is_set.true

pub returns-then-is_set-clause-number : goal.returns-then-is_set-clause-number
unfolding live_number
returns-then-is_set-clause-number c = rw (is_live (goal.at.returns-then-is_set-clause-number c).Then-is_set)

pub returns-then-is_set-clause-block : goal.returns-then-is_set-clause-block
returns-then-is_set-clause-block c = record {
  live = live_is (aligned c.args.heap.now.shape.edition) _ _ _ _ _ (is_live (goal.at.returns-then-is_set-clause-block c).Then-is_set);
  number = block_is (goal.at.returns-then-is_set-clause-block c).After-is_set;
  size = c.size_at-size.ensures.0;
}

pub not_live-requires : goal.not_live-requires
not_live-requires c = starts (goal.at.not_live-requires c).After-is_set

pub returns-clause-number : goal.returns-clause-number
unfolding live_number live
returns-clause-number c =
    let at-bit = (goal.at.returns-clause-number c).After-is_set in
    rw (starts at-bit, ← block_is at-bit, ← c.is_set.ensures, c.if-is_set.false) c.not_live.ensures
