-- How long the list can be: of a pool's offsets at most 506 differ, since every block starts at a multiple of 8.
-- Assumes nothing.
use Rattle.std.specs.Prelude.{◌≡◌, true, false, ◌++◌, ℕ, zero, suc, ◌+◌, ◌*◌, ◌-◌, ◌/◌, ◌%◌, ◌≤◌, ◌<◌, leb, length}
use Rattle.std.proofs.Math.Path.{sym, ap}
use Rattle.std.proofs.Common.{◌∙◌, mul_assoc, arith, length-append, le-leb, leb-true}
use Rattle.std.proofs.Math.Bool.{false≢true}
use Rattle.std.proofs.Math.Nat.{mul-mod_left}
use Rattle.rules.specs.Say.{listing}
use Rattle.rules.specs.Books.{Heap, alignment_of, class, pool}
use Rattle.rules.specs.Blocks.{size_of, last_class, last_start, is_start, block_no, live}
use Rattle.rules.specs.Compare.{is_live, kind_at}
use Rattle.books.specs.declared.words.Shape.{Shape}
use Rattle.books.specs.Known.{shape_of}
use Rattle.books.specs.Tests.{both}
use Rattle.books.specs.Starts.{start}
use Rattle.books.specs.Sizes.{aligned, size_low}
use Rattle.sequences.specs.Update.{is_false}
use Rattle.sequences.specs.Listing.{listing_add, listing_none, length_steps, pool_is, starts_only}
use Rattle.loops.specs.Roll.{eights}
use Rattle.compare.specs.Kinds.{live_in}
use Rattle.compare.specs.declared.pair.Pair.{Pair}
use Rattle.compare.specs.Pools.{shape, first, second, second_is, kind_in, pools_in, at_pool}

-- where a block starts, one of 8 bytes would
coarse : (s x : ℕ) → 8 ≤ s → s % 8 ≡ 0 → is_start s x ≡ true → is_start 8 x ≡ true
unfolding is_start
coarse s x low e t =
    let S = start s x low t in
    let k = block_no s x in
    let m : s ≡ s / 8 * 8 = omega arith in
    let q : x - 48 ≡ k * (s / 8) * 8 = omega (arith, S.place, mul_assoc k (s / 8) 8, ap (λ (n : ℕ). k * n) m) in
    rw (le-leb 48 x S.low, le-leb x (last_start 8) (omega (arith, S.ends)), q, mul-mod_left (k * (s / 8)) 8)

module _ (h : Pair) (p : ℕ) (l : p < pools_in h) where
  -- a live block of the pool starts there
  starts : (g : Heap) → shape_of g.books ≡ shape h → (x : ℕ) → x < 4096
      → is_live g (4096 * p + x) ≡ true → is_start 8 x ≡ true
  unfolding live_in
  starts g is x u on =
      let s = shape h in
      let L = aligned s.edition in
      let c = pool s.arenas g.books class p in
      let here = ap (λ (t : Shape). live (alignment_of t.edition) t.arenas t.pools g.books g.map (4096 * p + x)) is in
      let t = both (leb c (last_class (alignment_of s.edition))) _ (sym (at_pool L s.arenas s.pools g.books g.map p x l u) ∙ sym here ∙ on) in
      coarse (size_of (alignment_of s.edition) c) x (size_low L c (leb-true _ _ t.0)) (eights L c) (both _ _ t.1).0

  none_else : (x : ℕ) → x < 4096 → is_start 8 x ≡ false → kind_in h (4096 * p + x) ≡ 0
  unfolding kind_at
  none_else x u off =
      rw (
        is_false (is_live (first h) (4096 * p + x)) (λ e. false≢true (sym off ∙ starts (first h) h.first_read x u e)),
        is_false (is_live (second h) (4096 * p + x)) (λ e. false≢true (sym off ∙ starts (second h) (second_is h) x u e)),
      )

  -- so of one pool 506 differ at most, with two words each
  pool_most : length (listing (kind_in h) (4096 * p) 4096) ≤ 1012
  pool_most =
      let q = pool_is (starts_only (kind_in h) p 8 (omega arith) none_else) in
      omega (arith, ap length q, length_steps (kind_in h) (4096 * p + 48) 8 506)

-- and of all of them so many times 1,012
pub list_most : (h : Pair) → length (listing (kind_in h) 0 (pools_in h * 4096)) ≤ 1012 * pools_in h
list_most h = from (pools_in h) (omega arith)
  where
    from : (n : ℕ) → n ≤ pools_in h → length (listing (kind_in h) 0 (n * 4096)) ≤ 1012 * n
    from zero l = omega (arith, ap length (listing_none (kind_in h) 0 (0 * 4096) (λ i l. absurd (omega arith))))
    from (suc n) l =
        let e : suc n * 4096 ≡ n * 4096 + 4096 = omega arith in
        let q : 0 + n * 4096 ≡ 4096 * n = omega arith in
        let t = ap (listing (kind_in h) 0) e
        ∙ listing_add (kind_in h) 0 (n * 4096) 4096
        ∙ ap (λ (o : ℕ). listing (kind_in h) 0 (n * 4096) ++ listing (kind_in h) o 4096) q in
        omega (
          arith,
          ap length t,
          length-append (listing (kind_in h) 0 (n * 4096)) (listing (kind_in h) (4096 * n) 4096),
          from n (omega arith),
          pool_most h n (omega arith),
        )
