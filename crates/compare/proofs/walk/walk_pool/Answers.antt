-- `compare::walk::walk_pool`: by the sizes that the pool has in the heaps, its offsets are the blocks of one size, or
-- those of two, or none is live.
use Rattle.std.proofs.Common.{◌≡◌, ◌+◌, ◌*◌, Option, Some, Bool, ℕ, true, false, if◌then◌else◌, unwrap_or, sym, ap, ◌∙◌, arith}
use Rattle.rules.specs.Say.{listing}
use Rattle.rules.specs.Books.{alignment_of}
use Rattle.rules.specs.Blocks.{capacity}
use Rattle.books.specs.declared.words.Shape.{Shape}
use Rattle.books.specs.Sizes.{aligned}
use Rattle.sequences.specs.Listing.{listing_none, at_steps}
use Rattle.loops.specs.Roll.{pool_size}
use Rattle.compare.specs.Kinds.{together_at, apart_at}
use Rattle.compare.specs.Noted.{unnoted, finish}
use Rattle.compare.specs.Pools.{kind_in, size_first, size_second, Found, found, neither_kind, pool_together, pool_apart}
use Rattle.compare.proofs.walk.walk_pool.Goals.{After-pool_size-two, In-Some-None, In-None-Some, Then-size-size2, In-Some-Some-2}
use Rattle.compare.proofs.walk.walk_pool.Goals as goal

-- what the heaps' answers say of the pool's sizes
module _ (c : After-pool_size-two) where
  abbrev first : ℕ
  first = size_first c.args.heaps.now c.args.pool c.requires.0

  abbrev second : ℕ
  second = size_second c.args.heaps.now c.args.pool c.requires.0

  second_is : unwrap_or c.pool_size-two.result 0 ≡ second
  second_is =
      let h = c.args.heaps.now in
      c.pool_size-two.ensures.value
      ∙ ap (λ (s : Shape). pool_size (alignment_of s.edition) s.arenas h.second.books.now h.second.map.now c.args.pool) h.one_shape

  first_found : (n : ℕ) → c.pool_size-one.result ≡ Some n → Found first n
  first_found n e =
      let h = c.args.heaps.now in
      found (aligned h.first.shape.edition) h.first.shape.arenas h.first.books.now h.first.map.now c.args.pool n
      c.pool_size-one.result e c.pool_size-one.ensures.value c.pool_size-one.ensures.range

  second_found : (n : ℕ) → c.pool_size-two.result ≡ Some n → Found second n
  second_found n e =
      let h = c.args.heaps.now in
      found (aligned h.first.shape.edition) h.first.shape.arenas h.second.books.now h.second.map.now c.args.pool n
      c.pool_size-two.result e second_is c.pool_size-two.ensures.range

  -- the pool's offsets, where those who have blocks there have the size n
  one_size : {size : ℕ} (n : ℕ) (t t' : Bool) → Found size n → first ≡ (if t then n else 0) → second ≡ (if t' then n else 0)
      → let h = c.args.heaps.now in
      let p = c.args.pool in
      listing (kind_in h) (4096 * p) 4096
      ≡ at_steps (together_at h.first.memory.now h.second.memory.now h.first.map.now h.second.map.now t t' p n) (4096 * p + 48) n (capacity n)
  one_size n t t' F e f =
      pool_together c.args.heaps.now c.args.pool c.requires.0 n (λ z. omega (arith, F.low, z)) t t' e f F.low F.high

pub returns-in-None-None : goal.returns-in-None-None
returns-in-None-None c =
    let at_second = (goal.at.returns-in-None-None c).After-pool_size-two in
    let a = c.args in
    let one = sym c.pool_size-one.ensures.value ∙ ap (λ (o : Option ℕ). unwrap_or o 0) c.in-None-None.is-0 in
    let two = sym (second_is at_second) ∙ ap (λ (o : Option ℕ). unwrap_or o 0) c.in-None-None.is-1 in
    finish (unnoted a.list.now a.at (listing (kind_in a.heaps.now) (4096 * a.pool) 4096))
    (listing_none (kind_in a.heaps.now) (4096 * a.pool) 4096 (λ x l. neither_kind a.heaps.now a.pool c.requires.0 one two x l))

-- only the first heap has blocks there
first_alone : (c : In-Some-None)
    → let h = c.args.heaps.now in
    let p = c.args.pool in
    let n = c.in-Some-None.size in
    Found (first (goal.at.In-Some-None c).After-pool_size-two) n
    × (listing (kind_in h) (4096 * p) 4096
    ≡ at_steps (together_at h.first.memory.now h.second.memory.now h.first.map.now h.second.map.now true false p n) (4096 * p + 48) n (capacity n))
first_alone c =
    let at_second = (goal.at.In-Some-None c).After-pool_size-two in
    let F = first_found at_second c.in-Some-None.size c.in-Some-None.is-0 in
    let none = sym (second_is at_second) ∙ ap (λ (o : Option ℕ). unwrap_or o 0) c.in-Some-None.is-1 in
    (F, one_size at_second c.in-Some-None.size true false F (sym F.is) none)

pub walk_blocks-requires-in-Some-None : goal.walk_blocks-requires-in-Some-None
walk_blocks-requires-in-Some-None c =
    let t = first_alone (goal.at.walk_blocks-requires-in-Some-None c).In-Some-None in
    (c.requires.0, t.0.low, t.0.high, t.0.eights, rw t.1 at c.requires.1)

pub returns-in-Some-None : goal.returns-in-Some-None
returns-in-Some-None c =
    rw (first_alone (goal.at.returns-in-Some-None c).In-Some-None).1 c.walk_blocks-in-Some-None.ensures

-- only the second has
second_alone : (c : In-None-Some)
    → let h = c.args.heaps.now in
    let p = c.args.pool in
    let n = c.in-None-Some.size in
    Found (second (goal.at.In-None-Some c).After-pool_size-two) n
    × (listing (kind_in h) (4096 * p) 4096
    ≡ at_steps (together_at h.first.memory.now h.second.memory.now h.first.map.now h.second.map.now false true p n) (4096 * p + 48) n (capacity n))
second_alone c =
    let at_second = (goal.at.In-None-Some c).After-pool_size-two in
    let S = second_found at_second c.in-None-Some.size c.in-None-Some.is-1 in
    let none = sym c.pool_size-one.ensures.value ∙ ap (λ (o : Option ℕ). unwrap_or o 0) c.in-None-Some.is-0 in
    (S, one_size at_second c.in-None-Some.size false true S none (sym S.is))

pub walk_blocks-requires : goal.walk_blocks-requires
walk_blocks-requires c =
    let t = second_alone (goal.at.walk_blocks-requires c).In-None-Some in
    (c.requires.0, t.0.low, t.0.high, t.0.eights, rw t.1 at c.requires.1)

pub returns-in-None-Some : goal.returns-in-None-Some
returns-in-None-Some c = rw (second_alone (goal.at.returns-in-None-Some c).In-None-Some).1 c.walk_blocks.ensures

-- both have, of one size
both_alike : (c : Then-size-size2)
    → let h = c.args.heaps.now in
    let p = c.args.pool in
    let n = c.in-Some-Some.size in
    Found (first (goal.at.Then-size-size2 c).After-pool_size-two) n
    × (listing (kind_in h) (4096 * p) 4096
    ≡ at_steps (together_at h.first.memory.now h.second.memory.now h.first.map.now h.second.map.now true true p n) (4096 * p + 48) n (capacity n))
both_alike c =
    let at_second = (goal.at.Then-size-size2 c).After-pool_size-two in
    let F = first_found at_second c.in-Some-Some.size c.in-Some-Some.is-0 in
    let S = second_found at_second c.in-Some-Some.size2 c.in-Some-Some.is-1 in
    (F, one_size at_second c.in-Some-Some.size true true F (sym F.is) (sym S.is ∙ sym c.if-size-size2.true))

pub walk_blocks-requires-in-Some-Some : goal.walk_blocks-requires-in-Some-Some
walk_blocks-requires-in-Some-Some c =
    let t = both_alike (goal.at.walk_blocks-requires-in-Some-Some c).Then-size-size2 in
    (c.requires.0, t.0.low, t.0.high, t.0.eights, rw t.1 at c.requires.1)

pub returns-in-Some-Some : goal.returns-in-Some-Some
returns-in-Some-Some c = rw (both_alike (goal.at.returns-in-Some-Some c).Then-size-size2).1 c.walk_blocks-in-Some-Some.ensures

-- both have, of two sizes
both_apart : (c : In-Some-Some-2)
    → let h = c.args.heaps.now in
    let at_second = (goal.at.In-Some-Some-2 c).After-pool_size-two in
    let n = c.in-Some-Some.size in
    let n' = c.in-Some-Some.size2 in
    Found (first at_second) n × Found (second at_second) n'
    × (listing (kind_in h) (4096 * c.args.pool) 4096
    ≡ listing (apart_at h.first.map.now h.second.map.now n n' c.args.pool) (4096 * c.args.pool) 4096)
both_apart c =
    let at_second = (goal.at.In-Some-Some-2 c).After-pool_size-two in
    let F = first_found at_second c.in-Some-Some.size c.in-Some-Some.is-0 in
    let S = second_found at_second c.in-Some-Some.size2 c.in-Some-Some.is-1 in (
      F,
      S,
      pool_apart c.args.heaps.now c.args.pool c.requires.0 c.in-Some-Some.size c.in-Some-Some.size2 F.is S.is
          (λ z. omega (arith, F.low, z)) (λ z. omega (arith, S.low, z)) c.if-size-size2.false,
    )

pub walk_apart-requires : goal.walk_apart-requires
walk_apart-requires c =
    let t = both_apart (goal.at.walk_apart-requires c).In-Some-Some-2 in
    (c.requires.0, t.0.low, t.0.high, t.1.low, t.1.high, rw t.2 at c.requires.1)

pub returns-in-Some-Some-2 : goal.returns-in-Some-Some-2
returns-in-Some-Some-2 c = rw (both_apart (goal.at.returns-in-Some-Some-2 c).In-Some-Some-2).2 c.walk_apart.ensures
