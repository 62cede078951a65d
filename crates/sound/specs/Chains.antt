-- The blocks of one pool: its freed chain in memory, and what taking, giving back and setting ready a block leave of
-- it. Once for every block size.
-- Assumes nothing.
use Rattle.std.specs.Prelude.{◌≡◌, refl, ◌≢◌, Bool, true, false, not, List, [], ◌∷◌, ℕ, zero, suc, ◌+◌, ◌*◌, ◌/◌, ◌%◌, ◌<◌, ◌≤◌, length}
use Rattle.std.proofs.Common.{
  sym,
  ap,
  ◌∙◌,
  inl,
  inr,
  true≢false,
  mul-le-mul_right,
  suc-mul,
  add-zero,
  div-mul-le_self,
  le-div_iff_mul-le,
  arith,
  length-set,
  get_or-set_same,
  get_or-set_other,
  lt-length-set,
  eq-eqb,
  ne_eqb,
}
use Rattle.std.proofs.Math.Nat.{div-div-eq-div-mul}
use Rattle.std.proofs.Math.Decide.{ℕ_discrete, dec_le, dec_lt}
use Rattle.std.proofs.lemmas.Bool.{not-true}
use Rattle.rules.specs.Say.{how_many}
use Rattle.rules.specs.Books.{at, offset_of}
use Rattle.rules.specs.Blocks.{start_of, capacity, link_at, put_link}
use Rattle.sequences.specs.Update.{to, to_same, to_other}
use Rattle.sequences.specs.Sequences.{All, Not, Once, among, all_map, among_not, not_among}
use Rattle.sequences.specs.Counting.{many_same, many_all, many_cut}
use Rattle.sequences.specs.Walks.{Member, left_over}
use Rattle.sound.specs.Bytes.{Outside, outside_less, Clear, clear_outside}

-- ---- the four bytes of a link
four : (v : ℕ) → v < 4294967296
    → v % 256 + v / 256 % 256 * 256 + v / 65536 % 256 * 65536 + v / 16777216 % 256 * 16777216 ≡ v
four v h = rw (← div-div-eq-div-mul v 256 256, ← div-div-eq-div-mul v 65536 256, ← div-div-eq-div-mul v 256 256) (omega arith)

-- a link that is put is read again, and the other bytes stand
link_same : (m : List ℕ) (o v : ℕ) → o + 3 < length m → v < 4294967296 → link_at (put_link o v m) o ≡ v
unfolding link_at put_link
link_same m o v h l =
    let l₀ : o < length m = omega arith in
    let l₁ : o + 1 < length m = omega arith in
    let l₂ : o + 2 < length m = omega arith in
    let a : (o ≢ o + 1) × (o ≢ o + 2) × (o ≢ o + 3) × (o + 1 ≢ o + 2) × (o + 1 ≢ o + 3) × (o + 2 ≢ o + 3) = omega arith in
    simp (get_or-set_other, get_or-set_same, lt-length-set, a.0, a.1, a.2, a.3, a.4, a.5) (omega (arith, four v l))

pub put_link_other : (m : List ℕ) (o v i : ℕ) → Outside o 4 i → at (put_link o v m) i ≡ at m i
unfolding put_link
put_link_other m o v i f =
    let n : (i ≢ o) × (i ≢ o + 1) × (i ≢ o + 2) × (i ≢ o + 3) = apart f in
    simp (get_or-set_other, n.0, n.1, n.2, n.3)
  where
    apart : Outside o 4 i → (i ≢ o) × (i ≢ o + 1) × (i ≢ o + 2) × (i ≢ o + 3)
    apart (inl h) = omega arith
    apart (inr h) = omega arith

pub length_link : (m : List ℕ) (o v : ℕ) → length (put_link o v m) ≡ length m
unfolding put_link
length_link m o v = simp length-set

-- a link is what its four bytes are
pub link_bytes : (m m' : List ℕ) (o : ℕ) → ((d : ℕ) → d < 4 → at m' (o + d) ≡ at m (o + d)) → link_at m' o ≡ link_at m o
unfolding link_at
link_bytes m m' o f =
    let z : at m' o ≡ at m o = simp add-zero at (f 0 (omega arith)) in
    rw (z, f 1 (omega arith), f 2 (omega arith), f 3 (omega arith))

-- ---- block numbers and places
-- block k of size s, one of those that fit, lies inside its pool
pub block_ends : (s k v : ℕ) → k < v → v ≤ capacity s → start_of s k + s ≤ 4096
block_ends s k v l f = omega (arith, mul-le-mul_right s l, mul-le-mul_right s f, suc-mul k s, div-mul-le_self 4048 s)

-- two blocks of one pool do not meet
blocks_apart : (s n j k : ℕ) → j ≢ k → Clear (offset_of n (start_of s j)) s (offset_of n (start_of s k)) s
blocks_apart s n j k d = go (dec_lt j k)
  where
    go : Dec (j < k) → Clear (offset_of n (start_of s j)) s (offset_of n (start_of s k)) s
    go (yes l) = inl (omega (arith, mul-le-mul_right s l, suc-mul j s))
    go (no l) = let m : suc k ≤ j = omega arith in inr (omega (arith, mul-le-mul_right s m, suc-mul k s))

-- nor do two blocks that lie in their pools, unless they are one: block j of pool p and block k of pool n, where
-- `size` says the block size of each pool
module _ (size : ℕ → ℕ) (p j n k : ℕ) (other : p ≡ n → j ≢ k)
    (e : start_of (size p) j + size p ≤ 4096) (f : start_of (size n) k + size n ≤ 4096) where
  pub pools_apart : Clear (offset_of p (start_of (size p) j)) (size p) (offset_of n (start_of (size n) k)) (size n)
  pools_apart = go (ℕ_discrete p n) (dec_le p n)
    where
      go : Dec (p ≡ n) → Dec (p ≤ n)
          → Clear (offset_of p (start_of (size p) j)) (size p) (offset_of n (start_of (size n) k)) (size n)
      go (yes q) l = rw q (blocks_apart (size n) n j k (other q))
      go (no q) (yes l) = inl (omega arith)
      go (no q) (no l) = inr (omega arith)

  -- byte d of the second is none of the first
  pub block_outside : (d : ℕ) → d < size n
      → Outside (offset_of p (start_of (size p) j)) (size p) (offset_of n (start_of (size n) k) + d)
  block_outside d l = clear_outside (offset_of p (start_of (size p) j)) (size p) (offset_of n (start_of (size n) k)) (size n) d pools_apart l

-- the first 48 bytes of a pool are outside of what begins past them and ends in its pool
pub first_outside : (p f n i : ℕ) → 48 ≤ f → f + n ≤ 4096 → i % 4096 < 48 → Outside (offset_of p f) n i
first_outside p f n i low high u = go (dec_le (offset_of p f) i)
  where
    go : Dec (offset_of p f ≤ i) → Outside (offset_of p f) n i
    go (no q) = inl (omega arith)
    go (yes q) = inr (omega arith)

-- ---- the chain in memory: from the link l exactly the blocks ks of pool n are met, and then 0
abbrev pub Chained : ℕ → ℕ → List ℕ → ℕ → List ℕ → Type 0
Chained s n m l [] = l ≡ 0
Chained s n m l (k ∷ ks) = (l ≡ start_of s k) × Chained s n m (link_at m (offset_of n (start_of s k))) ks

chained_same : (s n l : ℕ) (m m' ks : List ℕ)
    → All (λ k. link_at m' (offset_of n (start_of s k)) ≡ link_at m (offset_of n (start_of s k))) ks
    → Chained s n m l ks → Chained s n m' l ks
chained_same s n l m m' [] a w = w
chained_same s n l m m' (k ∷ ks) a w = (w.0, rw a.0 (chained_same s n (link_at m (offset_of n (start_of s k))) m m' ks a.1 w.1))

-- ---- W-201's rule 8, of a carved pool of blocks of size s: "nextoffset a block start or the last block's end, each
-- block in exactly one of live, freed chain and virgin, once"
pub record Blocks (s n : ℕ) (m : List ℕ) (free next : ℕ) (live : ℕ → Bool) (chain : List ℕ) (virgin : ℕ) : Type 0 where
  pub next_is : next ≡ start_of s virgin
  pub fits : virgin ≤ capacity s
  pub chained : Chained s n m free chain
  pub once : Once chain
  pub below : All (λ k. k < virgin) chain
  pub either : (k : ℕ) → k < virgin → live k ≡ not (among k chain)
  pub rest : (k : ℕ) → virgin ≤ k → live k ≡ false

-- every block below the virgin ones is live or on the chain, so the two counts are together their number
module _ {s n : ℕ} {m : List ℕ} {free next : ℕ} {live : ℕ → Bool} {chain : List ℕ}
    {virgin : ℕ} (B : Blocks s n m free next live chain virgin) where
  pub room : capacity s ≤ 512 → how_many live 512 + length chain ≡ virgin
  room c =
      omega (
        arith,
        many_cut live virgin 512 (omega (arith, B.fits)) (λ k l _. B.rest k l),
        many_same (λ k. not (among k chain)) live virgin (λ k l. B.either k l),
        left_over (λ k. true) virgin chain B.once (all_map {R = Member (λ k. true) virgin} (λ k (l : k < virgin). (l, refl)) chain B.below),
        many_all (λ k. true) virgin (λ k l. refl),
      )

  -- a live block lies below the virgin ones, and is not on the chain
  pub live_below : (k : ℕ) → live k ≡ true → k < virgin
  live_below k e = let d : ¬ (virgin ≤ k) = (λ q. true≢false (sym e ∙ B.rest k q)) in omega arith

  pub live_off : (k : ℕ) → live k ≡ true → Not k chain
  live_off k e = not_among k chain (not-true (among k chain) (sym (B.either k (live_below k e)) ∙ e))

  -- memory may change wherever the chain's links do not lie
  pub framed : (m' : List ℕ)
      → All (λ k. link_at m' (offset_of n (start_of s k)) ≡ link_at m (offset_of n (start_of s k))) chain
      → Blocks s n m' free next live chain virgin
  framed m' f =
      record {
        next_is = B.next_is;
        fits = B.fits;
        chained = chained_same s n free m m' chain f B.chained;
        once = B.once;
        below = B.below;
        either = B.either;
        rest = B.rest;
      }

  -- only the bytes of the first four of block k may differ, where k is not on the chain
  written : (m' : List ℕ) (k : ℕ) → 4 ≤ s → Not k chain
      → ((i : ℕ) → Outside (offset_of n (start_of s k)) 4 i → at m' i ≡ at m i)
      → Blocks s n m' free next live chain virgin
  written m' k l d same =
      framed m' (all_map {R = λ j. link_at m' (offset_of n (start_of s j)) ≡ link_at m (offset_of n (start_of s j))}
      (λ j (q : k ≢ j). link_bytes m m' (offset_of n (start_of s j))
      (λ d u. same (offset_of n (start_of s j) + d)
      (outside_less l (clear_outside (offset_of n (start_of s k)) s (offset_of n (start_of s j)) s d (blocks_apart s n k j q) (omega arith))))) chain d)

-- ---- the front of the chain is taken
pub taken : {s n : ℕ} {m : List ℕ} {free next : ℕ} {live : ℕ → Bool} {ks : List ℕ} {virgin : ℕ} (k : ℕ)
    → Blocks s n m free next live (k ∷ ks) virgin
    → Blocks s n m (link_at m (offset_of n (start_of s k))) next (to k true live) ks virgin
taken {s} {n} {m} {free} {next} {live} {ks} {virgin} k B =
    record {
      next_is = B.next_is;
      fits = B.fits;
      chained = B.chained.1;
      once = B.once.1;
      below = B.below.1;
      either = λ j l. either' j l (ℕ_discrete j k);
      rest = λ j l. to_other k true live j (omega (arith, B.below.0)) ∙ B.rest j l;
    }
  where
    either' : (j : ℕ) → j < virgin → Dec (j ≡ k) → to k true live j ≡ not (among j ks)
    either' j l (yes q) = to_same k true live j q ∙ rw (q, among_not k ks B.once.0)
    either' j l (no q) = to_other k true live j q ∙ B.either j l ∙ rw (ne_eqb j k q)

-- ---- a live block comes back, with the old front as its link
pub given : {s n : ℕ} {m : List ℕ} {free next : ℕ} {live : ℕ → Bool} {ks : List ℕ} {virgin : ℕ} (k : ℕ)
    → Blocks s n m free next live ks virgin
    → 4 ≤ s → 4096 * n + 4096 ≤ length m → live k ≡ true
    → Blocks s n (put_link (offset_of n (start_of s k)) free m) (start_of s k) next (to k false live) (k ∷ ks) virgin
given {s} {n} {m} {free} {next} {live} {ks} {virgin} k B l f on =
    record {
      next_is = B.next_is;
      fits = B.fits;
      chained = (
        refl,
        rw (link_same m (offset_of n (start_of s k)) free (omega (arith, block_ends s k virgin (live_below B k on) B.fits))
            (small ks B.chained B.below)) C.chained,
      );
      once = (live_off B k on, B.once);
      below = (live_below B k on, B.below);
      either = λ j u. either' j u (ℕ_discrete j k);
      rest = λ j u. to_other k false live j (omega (arith, live_below B k on)) ∙ B.rest j u;
    }
  where
    C : Blocks s n (put_link (offset_of n (start_of s k)) free m) free next live ks virgin
    C = written B (put_link (offset_of n (start_of s k)) free m) k l (live_off B k on) (λ i o. put_link_other m (offset_of n (start_of s k)) free i o)

    small : (xs : List ℕ) → Chained s n m free xs → All (λ k. k < virgin) xs → free < 4294967296
    small [] w b = omega arith
    small (x ∷ xs) w b = omega (arith, w.0, block_ends s x virgin b.0 B.fits)

    either' : (j : ℕ) → j < virgin → Dec (j ≡ k) → to k false live j ≡ not (among j (k ∷ ks))
    either' j u (yes q) = to_same k false live j q ∙ rw (eq-eqb j k q)
    either' j u (no q) = to_other k false live j q ∙ rw (ne_eqb j k q) (B.either j u)

-- ---- the chain has run out, and the next virgin block is set ready
pub extended : {s n : ℕ} {m : List ℕ} {next : ℕ} {live : ℕ → Bool} {virgin : ℕ} → Blocks s n m 0 next live [] virgin
    → 4 ≤ s → 4096 * n + 4096 ≤ length m → virgin < capacity s
    → Blocks s n (put_link (offset_of n next) 0 m) next (next + s) live (virgin ∷ []) (virgin + 1)
extended {s} {n} {m} {next} {live} {virgin} B l f less =
    record {
      next_is = omega (arith, B.next_is, suc-mul virgin s, ap (λ (x : ℕ). x * s) step);
      fits = omega arith;
      chained = (
        B.next_is,
        rw (← B.next_is) (link_same m (offset_of n next) 0 (omega (arith, B.next_is, block_ends s virgin (suc virgin) (omega arith) less)) (omega arith)),
      );
      once = (tt, tt);
      below = (omega arith, tt);
      either = λ j u. either' j u (ℕ_discrete j virgin);
      rest = λ j u. B.rest j (omega arith);
    }
  where
    step : virgin + 1 ≡ suc virgin
    step = omega arith

    either' : (j : ℕ) → j < virgin + 1 → Dec (j ≡ virgin) → live j ≡ not (among j (virgin ∷ []))
    either' j u (yes q) = B.rest j (omega arith) ∙ rw (eq-eqb j virgin q)
    either' j u (no q) = B.either j (omega arith) ∙ rw (ne_eqb j virgin q)

-- ---- a pool that is just set to a class: block 0 is live, block 1 is the chain
pub anew : (s n : ℕ) (m : List ℕ) (live : ℕ → Bool) → 4 ≤ s → s ≤ 2024 → 4096 * n + 4096 ≤ length m
    → ((k : ℕ) → live k ≡ false)
    → Blocks s n (put_link (offset_of n (48 + s)) 0 m) (48 + s) (48 + 2 * s) (to 0 true live) (1 ∷ []) 2
anew s n m live l h f dead =
    record {
      next_is = refl;
      fits = (le-div_iff_mul-le {k = s} {x = 2} {y = 4048} (omega arith)).1 (omega arith);
      chained = (first, rw (← first) (link_same m (offset_of n (48 + s)) 0 (omega arith) (omega arith)));
      once = (tt, tt);
      below = (omega arith, tt);
      either = either';
      rest = λ k u. to_other 0 true live k (omega arith) ∙ dead k;
    }
  where
    first : 48 + s ≡ start_of s 1
    first = omega arith

    either' : (k : ℕ) → k < 2 → to 0 true live k ≡ not (among k (1 ∷ []))
    either' zero u = refl
    either' (suc zero) u = dead 1
    either' (suc (suc k)) u = absurd (omega arith)
