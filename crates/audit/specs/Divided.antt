-- Rules 5 and 8 of one pool, by its record and the number of its set bits.
-- Assumes nothing.
use Rattle.std.specs.Prelude.{◌≡◌, refl, ◌≢◌, Bool, true, false, not, ◌&&◌, ◌||◌, List, ℕ, zero, suc, ◌-◌, ◌≤◌, ◌<◌, leb, ltb, eqb}
use Rattle.std.proofs.Common.{sym, ◌∙◌, arith, ne_eqb, lt-ltb}
use Rattle.std.proofs.Math.Bool.{true≢false}
use Rattle.rules.specs.Books.{is_set, class, no_class, pool, carved}
use Rattle.rules.specs.Blocks.{size_of, last_class, start_of, last_start, is_start, block_no, capacity}
use Rattle.rules.specs.Audit.{
  set_bits,
  in_use,
  blocks_of,
  bits_below,
  pool_keeps5,
  all_else_zero,
  chained,
  is_divided,
  pool_keeps8,
}
use Rattle.books.specs.declared.pool.Pool.{Pool}
use Rattle.books.specs.Records.{pool_at}
use Rattle.books.specs.Tests.{both}
use Rattle.books.specs.Sizes.{least_by, least_is}
use Rattle.sequences.specs.Update.{is_false}
use Rattle.sequences.specs.Counting.{
  many_le,
  many_cut,
  many_has,
  none_many,
  every_is,
  is_every,
  implied,
  is_implied,
  below_is,
}

-- all but the class and the next of a record is 0
abbrev pub else_zero : Pool → Bool
else_zero p =
    eqb p.count 0
    && eqb p.freeblock 0
    && eqb p.previous 0
    && eqb p.nextoffset 0
    && eqb p.maxnextoffset 0
    && eqb p.spare 0

-- each block of pool n, whose record and block size are given, is live, on the chain or virgin
abbrev pub divided : List ℕ → List ℕ → ℕ → Pool → ℕ → ℕ → Bool
divided memory map n p s live =
    eqb p.maxnextoffset (last_start s)
    && (is_start s p.nextoffset || eqb p.nextoffset (start_of s (capacity s)))
    && bits_below map n (block_no s p.nextoffset)
    && chained s n memory (is_set map n) (block_no s p.nextoffset) (block_no s p.nextoffset - live) p.freeblock
    && leb (least_by live (capacity s)) (block_no s p.nextoffset - live)

-- no more bits are set than there are blocks before v
pub bits_few : (map : List ℕ) (n v : ℕ) → v ≤ 512 → bits_below map n v ≡ true → set_bits map n ≤ v
bits_few map n v l e = omega (arith, many_le (is_set map n) v, many_cut (is_set map n) v 512 l none)
  where
    none : (k : ℕ) → v ≤ k → k < 512 → is_set map n k ≡ false
    none k a b = is_false (is_set map n k) (λ q. omega (arith, below_is map n v e k b q))

-- ---- rule 5
module _ (al A P : ℕ) (b map : List ℕ) (n : ℕ) where
  -- a pool with no set bit keeps it
  pub none_stray : set_bits map n ≡ 0 → pool_keeps5 al A P b map n ≡ true
  unfolding pool_keeps5
  none_stray z = is_every _ 512 (λ k l. is_implied (is_set map n k) _ (λ q. absurd (true≢false (sym q ∙ none_many (is_set map n) 512 z k l))))

  -- one that is not carved keeps it only so
  pub some_stray : carved P b n ≡ false → set_bits map n ≢ 0 → pool_keeps5 al A P b map n ≡ false
  unfolding pool_keeps5
  some_stray e d =
      let t = many_has (is_set map n) 512 (omega (arith, d)) in
      is_false _ (λ q. true≢false (sym (both (carved P b n) _ (implied (is_set map n t.number) _ (every_is _ 512 q t.number t.low) t.yes)).0 ∙ e))

  -- and in a carved one the bits are at blocks
  pub at_blocks : carved P b n ≡ true → pool_keeps5 al A P b map n ≡ bits_below map n (blocks_of al (pool A b class n))
  unfolding pool_keeps5 bits_below
  at_blocks e = rw e

-- ---- rule 8
-- a pool with no set bit
none_set_lem : (k : ℕ) → not (ltb 0 k) ≡ eqb k 0
none_set_lem zero = refl
none_set_lem (suc k) = rw (lt-ltb 0 (suc k) (omega arith), ne_eqb (suc k) 0 (omega arith))

module _ (al A P : ℕ) (memory b map : List ℕ) (n : ℕ) where
  -- a pool that is not carved
  pub keeps_away : carved P b n ≡ false → pool_keeps8 al A P memory b map n ≡ true
  unfolding pool_keeps8
  keeps_away e = rw e

  module _ (in_carved : carved P b n ≡ true) where
    -- a freed one of no class
    pub keeps_unset : set_bits map n ≡ 0 → pool A b class n ≡ no_class
        → pool_keeps8 al A P memory b map n ≡ else_zero (pool_at A b n)
    unfolding pool_keeps8 in_use all_else_zero
    keeps_unset z c = rw (in_carved, z, c)

    -- any other one
    module _ (set : (eqb (set_bits map n) 0 && eqb (pool A b class n) no_class) ≡ false) where
      other : pool_keeps8 al A P memory b map n
          ≡ leb (pool A b class n) (last_class al) && is_divided al A P memory b map (size_of al (pool A b class n)) n
      unfolding pool_keeps8 in_use
      other = rw (in_carved, none_set_lem (set_bits map n), set)

      pub keeps_no_class : leb (pool A b class n) (last_class al) ≡ false → pool_keeps8 al A P memory b map n ≡ false
      keeps_no_class e = other ∙ rw e

      pub keeps_divided : leb (pool A b class n) (last_class al) ≡ true → pool A b class n ≤ last_class al
          → pool_keeps8 al A P memory b map n
          ≡ divided memory map n (pool_at A b n) (size_of al (pool A b class n)) (set_bits map n)
      unfolding is_divided
      keeps_divided e l = other ∙ rw (e, least_is al A P b map n in_carved l)
