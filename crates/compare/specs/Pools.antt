-- A pool in both heaps: the size of its blocks in each, and so the kind of each of its offsets.
-- Assumes nothing.
use Rattle.std.specs.Prelude.{ℤ, Option, Some, unwrap_or, IfSome, ◌≡◌, Bool, ◌&&◌, List, ◌++◌, ◌⊎◌}
use Rattle.std.specs.Prelude.{ℕ, ◌+◌, ◌*◌, ◌-◌, ◌/◌, ◌%◌, ◌≤◌, ◌<◌, leb, length, if◌then◌else◌}
use Rattle.std.proofs.Math.Path.{refl}
use Rattle.std.proofs.Common.{sym, ap, ◌∙◌, subst, inl, inr}
use Rattle.std.proofs.Math.Bool.{true, false}
use Rattle.std.proofs.Math.Nat.{suc-mul, mul-le-mul_right, div-mul-le_self}
use native.Mathlib.Omega.{arith}
use borrow.Author.Tests.{eq-eqb, ne_eqb, lt-ltb, leb-true}
use Rattle.rules.specs.Say.{listing}
use Rattle.rules.specs.Books.{Heap, memory_length, is_set, alignment_of, class, pool}
use Rattle.rules.specs.Blocks.{size_of, last_class, start_of, is_start, block_no, capacity, size_at, live}
use Rattle.rules.specs.Numbers.{block_size}
use Rattle.rules.specs.Compare.{is_live, kind_at, differences, changes}
use Rattle.books.specs.declared.words.Shape.{Shape}
use Rattle.books.specs.Known.{Shaped, shape_of}
use Rattle.books.specs.Readers.{heap_in}
use Rattle.books.specs.Starts.{start, start_is}
use Rattle.books.specs.Sizes.{Aligned, aligned, size_low}
use Rattle.bits.specs.Map.{none_set, not_set}
use Rattle.sequences.specs.Listing.{listing_alike, listing_add, at_steps, steps_same, pool_is, starts_only}
use Rattle.loops.specs.Left.{Parts}
use Rattle.loops.specs.Roll.{pool_size, unsized, sized, size_fits}
use Rattle.compare.specs.declared.pair.Pair.{Pair}
use Rattle.compare.specs.Kinds.{live_in, together, together_at, apart, apart_at}

-- ---- where a block of a pool is live, by the size that the pool has
module _ {al : ℕ} (L : Aligned al) (A P : ℕ) (b map : List ℕ) (p x : ℕ) (l : p < A * P) (h : x < 4096) where
  pub at_pool : live al A P b map (4096 * p + x)
      ≡ leb (pool A b class p) (last_class al) && live_in (size_of al (pool A b class p)) map p x
  unfolding live live_in
  at_pool =
      let s = size_of al (pool A b class p) in
      let d : (4096 * p + x) / 4096 ≡ p = omega arith in
      let e : (4096 * p + x) % 4096 ≡ x = omega arith in
      rw (d, e, lt-ltb (4096 * p + x) (memory_length A P) (omega arith))
      (grouped (leb (pool A b class p) (last_class al)) (is_start s x) (is_set map p (block_no s x)))
    where
      grouped : (t u v : Bool) → t && u && v ≡ t && (u && v)
      grouped true u v = refl
      grouped false u v = refl

  -- a pool without a size has none
  pub none_live : pool_size al A b map p ≡ 0 → live al A P b map (4096 * p + x) ≡ false
  unfolding live_in
  none_live z = at_pool ∙ go (unsized L A b map p z)
    where
      -- a start is the place of a block whose bit is not set
      off : none_set map p ≡ true → (s : ℕ) → 8 ≤ s → (t : Bool) → is_start s x ≡ t
          → t && is_set map p (block_no s x) ≡ false
      off e s low true q = not_set map p e (block_no s x) (omega (arith, (start s x low q).few))
      off e s low false q = refl

      go : (none_set map p ≡ true) ⊎ (leb (pool A b class p) (last_class al) ≡ false)
          → leb (pool A b class p) (last_class al) && live_in (size_of al (pool A b class p)) map p x ≡ false
      go (inl e) = class_on (leb (pool A b class p) (last_class al)) refl
        where
          class_on : (t : Bool) → leb (pool A b class p) (last_class al) ≡ t
              → t && live_in (size_of al (pool A b class p)) map p x ≡ false
          class_on true q =
              off e (size_of al (pool A b class p)) (size_low L (pool A b class p) (leb-true _ _ q)) (is_start (size_of al (pool A b class p)) x) refl
          class_on false q = refl
      go (inr e) = rw e

  -- one with a size has those of that size
  pub some_live : (s : ℕ) → s ≡ pool_size al A b map p → (s ≡ 0 → ⊥)
      → (live al A P b map (4096 * p + x) ≡ live_in s map p x) × (size_at al A b (4096 * p + x) ≡ s)
  some_live s e d =
      let t = sized L A b map p (λ z. d (e ∙ z)) in
      let q : (4096 * p + x) / 4096 ≡ p = omega arith in
      let is = e ∙ t.1 in
      (at_pool ∙ rw (t.0, ← is), ap (λ (n : ℕ). size_of al (pool A b class n)) q ∙ sym is)

-- what is known of the size that a pool's blocks are found to have
pub record Found (size n : ℕ) : Type 0 where
  pub is : n ≡ size
  pub low : 8 ≤ n
  pub high : n ≤ 512
  pub eights : n % 8 ≡ 0

pub found : {al : ℕ} → Aligned al → (A : ℕ) (b m : List ℕ) (p n : ℕ) (answer : Option ℕ) → answer ≡ Some n
    → unwrap_or answer 0 ≡ pool_size al A b m p → IfSome answer (λ s. (8 ≤ s) × (s ≤ 512))
    → Found (pool_size al A b m p) n
found L A b m p n answer e value range =
    let r = subst (λ (o : Option ℕ). IfSome o (λ s. (8 ≤ s) × (s ≤ 512))) e range in
    let is = sym (ap (λ (o : Option ℕ). unwrap_or o 0) e) ∙ value in
    let t = size_fits L A b m p (λ z. omega (arith, r.0, is)) in
    record { is = is; low = r.0; high = r.1; eights = ap (λ (k : ℕ). k % 8) is ∙ t.2 }

-- ---- both heaps are of the first's shape
module _ (h : Pair) where
  abbrev pub shape : Shape
  shape = h.first.shape

  -- how many pools each has
  abbrev pub pools_in : ℕ
  pools_in = shape.arenas * shape.pools

  abbrev pub first : Heap
  first = heap_in h.first

  abbrev pub second : Heap
  second = heap_in h.second

  -- the change of each class
  abbrev pub changes_in : List ℤ
  changes_in = changes first second

  -- the kind of each offset
  abbrev pub kind_in : ℕ → ℕ
  kind_in = kind_at first second

  pub all_listed : listing kind_in 0 (pools_in * 4096) ≡ differences first second
  all_listed = sym (ap (λ (s : Shape). listing kind_in 0 (s.arenas * s.pools * 4096)) h.first_read)

  pub second_is : shape_of second.books ≡ shape
  second_is = h.second_read ∙ h.one_shape

  pub second_shaped : Shaped shape.arenas shape.pools (length second.memory) (length second.books) (length second.map)
  second_shaped =
      subst (λ (s : Shape). Shaped s.arenas s.pools (length second.memory) (length second.books) (length second.map))
      h.one_shape h.second.shaped

module _ (h : Pair) (p : ℕ) (l : p < pools_in h) where
  abbrev al : ℕ
  al = alignment_of (shape h).edition

  -- the pool lies in both
  pub inside : (8 * p + 8 ≤ length (first h).map) × (8 * p + 8 ≤ length (second h).map) × (p < 1024)
      × (4096 * p + 4096 ≤ length (first h).memory) × (4096 * p + 4096 ≤ length (second h).memory)
  inside =
      let F = h.first.shaped in
      let S = second_shaped h in
      (omega (arith, F.map), omega (arith, S.map), omega (arith, F.all), omega (arith, F.memory), omega (arith, S.memory))

  -- the size of the pool's blocks in each
  abbrev pub size_first : ℕ
  size_first = pool_size al (shape h).arenas (first h).books (first h).map p

  abbrev pub size_second : ℕ
  size_second = pool_size al (shape h).arenas (second h).books (second h).map p

  -- where an offset of the pool is live, of one heap
  module _ (g : Heap) (is : shape_of g.books ≡ shape h) (x : ℕ) (u : x < 4096) where
    one_none : pool_size al (shape h).arenas g.books g.map p ≡ 0 → is_live g (4096 * p + x) ≡ false
    one_none z = ap (λ (t : Shape). live (alignment_of t.edition) t.arenas t.pools g.books g.map (4096 * p + x)) is
        ∙ none_live (aligned (shape h).edition) (shape h).arenas (shape h).pools g.books g.map p x l u z

    one_some : (n : ℕ) → n ≡ pool_size al (shape h).arenas g.books g.map p → (n ≡ 0 → ⊥)
        → (is_live g (4096 * p + x) ≡ live_in n g.map p x) × (block_size g (4096 * p + x) ≡ n)
    one_some n e d =
        let t = some_live (aligned (shape h).edition) (shape h).arenas (shape h).pools g.books g.map p x l u n e d in (
          ap (λ (t : Shape). live (alignment_of t.edition) t.arenas t.pools g.books g.map (4096 * p + x)) is ∙ t.0,
          ap (λ (t : Shape). size_at (alignment_of t.edition) t.arenas g.books (4096 * p + x)) is ∙ t.1,
        )

  -- the kind of an offset of the pool, where neither has blocks there
  pub neither_kind : size_first ≡ 0 → size_second ≡ 0 → (x : ℕ) → x < 4096 → kind_in h (4096 * p + x) ≡ 0
  unfolding kind_at
  neither_kind y z x u = rw (one_none (first h) h.first_read x u y, one_none (second h) (second_is h) x u z)

  -- where those who have blocks there have one size, n
  module _ (n : ℕ) (d : n ≡ 0 → ⊥) (there there' : Bool)
      (e : size_first ≡ (if there then n else 0)) (f : size_second ≡ (if there' then n else 0)) where
    one_kind : (x : ℕ) → x < 4096
        → kind_in h (4096 * p + x)
        ≡ together (first h).memory (second h).memory
        (there && live_in n (first h).map p x) (there' && live_in n (second h).map p x) (4096 * p + x) n
    unfolding kind_at together
    one_kind x u = go there there' e f
      where
        go : (t t' : Bool) → size_first ≡ (if t then n else 0) → size_second ≡ (if t' then n else 0)
            → kind_in h (4096 * p + x)
            ≡ together (first h).memory (second h).memory
            (t && live_in n (first h).map p x) (t' && live_in n (second h).map p x) (4096 * p + x) n
        go true true e f =
            let t = one_some (first h) h.first_read x u n (sym e) d in
            let t' = one_some (second h) (second_is h) x u n (sym f) d in
            rw (t.0, t'.0, t.1, t'.1, eq-eqb n n refl)
        go true false e f = rw ((one_some (first h) h.first_read x u n (sym e) d).0, one_none (second h) (second_is h) x u f)
        go false true e f = rw (one_none (first h) h.first_read x u e, (one_some (second h) (second_is h) x u n (sym f) d).0)
        go false false e f = rw (one_none (first h) h.first_read x u e, one_none (second h) (second_is h) x u f)

    -- a block's own kind; nothing between the blocks
    module _ (low : 8 ≤ n) (high : n ≤ 512) where
      in_first : (x : ℕ) → is_start n x ≡ false → x < 4096 → kind_in h (4096 * p + x) ≡ 0
      unfolding together live_in
      in_first x off u = one_kind x u ∙ rw off (go there there')
        where
          go : (t t' : Bool)
              → together (first h).memory (second h).memory (t && false) (t' && false) (4096 * p + x) n ≡ 0
          go true true = refl
          go true false = refl
          go false true = refl
          go false false = refl

      kind_at_block : (k : ℕ) → k < capacity n
          → let o = 4096 * p + 48 + k * n in
          kind_in h o
          ≡ together_at (first h).memory (second h).memory (first h).map (second h).map there there' p n o
      unfolding live_in
      kind_at_block k u =
          let end = mul-le-mul_right n u in
          let r : (4096 * p + 48 + k * n) % 4096 ≡ start_of n k = omega (arith, end, suc-mul k n, div-mul-le_self 4048 n) in
          let q : 4096 * p + start_of n k ≡ 4096 * p + 48 + k * n = omega arith in
          rw q at (one_kind (start_of n k) (omega (arith, end, suc-mul k n, div-mul-le_self 4048 n)))
          ∙ rw (start_is n k u, r)

      pub pool_together : listing (kind_in h) (4096 * p) 4096
          ≡ at_steps (together_at (first h).memory (second h).memory (first h).map (second h).map there there' p n)
          (4096 * p + 48) n (capacity n)
      pool_together =
          pool_is (starts_only (kind_in h) p n (omega arith) (λ x u off. in_first x off u))
          ∙ steps_same (kind_in h)
          (together_at (first h).memory (second h).memory (first h).map (second h).map there there' p n)
          (4096 * p + 48) n (capacity n) kind_at_block

  -- where their sizes are two, n and n'
  module _ (n n' : ℕ) (e : n ≡ size_first) (f : n' ≡ size_second) (y : n ≡ 0 → ⊥) (z : n' ≡ 0 → ⊥) (d : n ≡ n' → ⊥) where
    two_kind : (x : ℕ) → x < 4096
        → kind_in h (4096 * p + x) ≡ apart (live_in n (first h).map p x) (live_in n' (second h).map p x)
    unfolding kind_at apart
    two_kind x u =
        let t = one_some (first h) h.first_read x u n e y in
        let t' = one_some (second h) (second_is h) x u n' f z in
        rw (t.0, t'.0, t.1, t'.1, ne_eqb n n' d)

    pub pool_apart : listing (kind_in h) (4096 * p) 4096
        ≡ listing (apart_at (first h).map (second h).map n n' p) (4096 * p) 4096
    pool_apart =
        listing_alike (kind_in h) (apart_at (first h).map (second h).map n n' p) (4096 * p) 4096
        (λ x u. let r : (4096 * p + x) % 4096 ≡ x = omega arith in two_kind x u ∙ rw r)

-- ---- what is listed of n pools, pool by pool
pub pool_parts : (g : ℕ → ℕ) (n : ℕ)
    → Parts (listing g 0 (n * 4096)) n (λ p. listing g (4096 * p) ((n - p) * 4096)) (λ p. listing g (4096 * p) 4096)
unfolding listing
pool_parts g n = record {
  first = (let e : (n - 0) * 4096 ≡ n * 4096 = omega arith in ap (listing g 0) e);
  more = λ p l.
      let e : (n - p) * 4096 ≡ 4096 + (n - (p + 1)) * 4096 = omega arith in
      let q : 4096 * p + 4096 ≡ 4096 * (p + 1) = omega arith in
      ap (listing g (4096 * p)) e
      ∙ listing_add g (4096 * p) 4096 ((n - (p + 1)) * 4096)
      ∙ ap (λ (o : ℕ). listing g (4096 * p) 4096 ++ listing g o ((n - (p + 1)) * 4096)) q;
  last = (let e : (n - n) * 4096 ≡ 0 = omega arith in ap (listing g (4096 * n)) e);
}
