-- Bytes inside a live block: writing them keeps the heap sound, for the same plain heap, and what is held at every
-- other offset.
-- Assumes nothing.
use Rattle.std.specs.Prelude.{◌≡◌, refl, ◌≢◌, Bool, true, false, List, ℕ, ◌+◌, ◌≤◌, ◌<◌, length}
use Rattle.std.proofs.Common.{sym, ap, ap₂, ◌∙◌, subst, arith, eq-eqb, ne_eqb}
use Rattle.std.proofs.Math.Logic.{⊎_map}
use Rattle.std.proofs.Math.Decide.{ℕ_discrete}
use Rattle.rules.specs.Books.{Heap, at, offset_of}
use Rattle.rules.specs.Blocks.{size_of, start_of, link_at, live}
use Rattle.rules.specs.Outcome.{heap_of}
use Rattle.rules.specs.View.{part}
use Rattle.books.specs.Sizes.{Aligned, size_low}
use Rattle.sequences.specs.Update.{to}
use Rattle.sequences.specs.Sequences.{All, all_map, all_two, all_every}
use Rattle.sound.specs.Plain.{Plain}
use Rattle.sound.specs.Bytes.{Outside, Clear, part_same}
use Rattle.sound.specs.Chains.{Blocks, block_ends, pools_apart, block_outside, first_outside, link_bytes, framed, live_off}
use Rattle.sound.specs.Sound.{Sound}
use Rattle.sound.specs.Held.{Says, Held, held, sound, rule_memory}
use Rattle.laws.specs.Holding.{LiveAt, live_size, live_ends, holding, live_rows, in_memory, holding_live, dead_holding, Leaves}

-- two live blocks at different offsets are two, and do not meet
other_block : {al A P : ℕ} {r : Plain} (o x : ℕ) (t : LiveAt al A P r o) (u : LiveAt al A P r x) → x ≢ o
    → t.pool ≡ u.pool → t.block ≢ u.block
other_block {al} {A} {P} {r} o x t u d q k = d (u.place ∙ ap₂ (λ (y z : ℕ). offset_of y (start_of (size_of al (r.class y)) z)) (sym q) (sym k) ∙ sym t.place)

pub apart : {al A P : ℕ} {r : Plain} (o x : ℕ) (t : LiveAt al A P r o) (u : LiveAt al A P r x) → x ≢ o
    → Clear o (live_size t) x (live_size u)
apart {al} {A} {P} {r} o x t u d =
    ⊎_map (λ z. omega (arith, t.place, u.place)) (λ z. omega (arith, t.place, u.place))
    (pools_apart (λ y. size_of al (r.class y)) t.pool t.block u.pool u.block (other_block o x t u d) (live_ends t) (live_ends u))

-- ---- m' is memory where only bytes of the live block at o may differ
module _ {al A P : ℕ} {h : Heap} {r : Plain} (L : Aligned al) (S : Sound al A P h r)
    (o : ℕ) (t : LiveAt al A P r o) (m' : List ℕ) (len : length m' ≡ length h.memory)
    (same : (i : ℕ) → Outside o (live_size t) i → at m' i ≡ at h.memory i) where
  H : Held al A P h r
  H = held S

  -- the bytes of every other block stand
  stands : (n k d : ℕ) → (t.pool ≡ n → t.block ≢ k)
      → start_of (size_of al (r.class n)) k + size_of al (r.class n) ≤ 4096 → d < size_of al (r.class n)
      → at m' (offset_of n (start_of (size_of al (r.class n)) k) + d)
      ≡ at h.memory (offset_of n (start_of (size_of al (r.class n)) k) + d)
  stands n k d other e l =
      same _ (subst (λ (x : ℕ). Outside x (live_size t) (offset_of n (start_of (size_of al (r.class n)) k) + d)) (sym t.place)
      (block_outside (λ y. size_of al (r.class y)) t.pool t.block n k other (live_ends t) e d l))

  -- so do the links of the chains: they lie in blocks that are not live
  chain_still : (n v : ℕ) {free next : ℕ} {chain : List ℕ} → 8 ≤ size_of al (r.class n)
      → Blocks (size_of al (r.class n)) n h.memory free next (r.live n) chain v
      → Blocks (size_of al (r.class n)) n m' free next (r.live n) chain v
  chain_still n v {free} {next} {chain} low B =
      framed B m'
      (all_two {S = λ k. link_at m' (offset_of n (start_of (size_of al (r.class n)) k)) ≡ link_at h.memory (offset_of n (start_of (size_of al (r.class n)) k))}
      (λ k (u : k < v) (d : t.pool ≡ n → t.block ≢ k). link_bytes h.memory m' (offset_of n (start_of (size_of al (r.class n)) k))
      (λ e w. stands n k e d (block_ends (size_of al (r.class n)) k v u B.fits) (omega arith))) chain B.below (off (ℕ_discrete t.pool n)))
    where
      off : Dec (t.pool ≡ n) → All (λ k. t.pool ≡ n → t.block ≢ k) chain
      off (yes q) =
          all_map {R = λ k. t.pool ≡ n → t.block ≢ k} (λ k (d : t.block ≢ k) _. d) chain
          (live_off B t.block (ap (λ (y : ℕ). r.live y t.block) (sym q) ∙ t.on))
      off (no q) = all_every {Q = λ k. t.pool ≡ n → t.block ≢ k} (λ k e. absurd (q e)) chain

  -- a holder's bytes keep the heap sound, for the same plain heap
  written_sound : Sound al A P (heap_of m' h.books h.map) r
  written_sound = sound {h = heap_of m' h.books h.map} L H.books F'
    where
      F : Says al A P H.view h.memory h.map r
      F = H.says

      F' : Says al A P H.view m' h.map r
      F' =
          record {
            range = F.range;
            bytes = len ∙ F.bytes;
            maps = F.maps;
            arenas_are = F.arenas_are;
            pools_are = F.pools_are;
            alignment_is = F.alignment_is;
            an_edition = F.an_edition;
            spare_zeros = F.spare_zeros;
            arena_zeros = F.arena_zeros;
            pool_zeros = F.pool_zeros;
            arenas = F.arenas;
            pools = λ n l. let Q = F.pools n l in
                record {
                  count_is = Q.count_is;
                  class_is = Q.class_is;
                  used = Q.used;
                  rule = λ c. rule_memory (λ low. chain_still n (r.virgin n) (size_low L (r.class n) low)) (Q.rule c);
                  home_is = Q.home_is;
                };
            bits = F.bits;
            lists = F.lists;
            order = F.order;
          }

  -- what is held elsewhere
  written_others : (x : ℕ) → x ≢ o → holding al A P (heap_of m' h.books h.map) x ≡ holding al A P h x
  written_others x d = go (live al A P h.books h.map x) refl
    where
      go : (b : Bool) → live al A P h.books h.map x ≡ b
          → holding al A P (heap_of m' h.books h.map) x ≡ holding al A P h x
      go false e = dead_holding al A P (heap_of m' h.books h.map) x e ∙ sym (dead_holding al A P h x e)
      go true e =
          let u = live_rows L S x e in
          holding_live L written_sound x u
          ∙ part_same h.memory m' x (live_size u) len (in_memory L S x u)
          (λ i w. subst (λ (y : ℕ). at m' (y + i) ≡ at h.memory (y + i)) (sym u.place)
          (stands u.pool u.block i (other_block o x t u d) (live_ends u) w))
          ∙ sym (holding_live L S x u)

  -- the block then holds the bytes that stand there
  pub written_leaves : Leaves al A P h (heap_of m' h.books h.map) r
      (to o (part o (live_size t) m') (holding al A P h))
  written_leaves =
      record {
        sound = written_sound;
        holds = λ x. go x (ℕ_discrete x o);
        first = λ i u. same i (subst (λ (x : ℕ). Outside x (live_size t) i) (sym t.place)
            (first_outside t.pool (start_of (live_size t) t.block) (live_size t) i (omega arith) (live_ends t) u));
      }
    where
      go : (x : ℕ) → Dec (x ≡ o)
          → holding al A P (heap_of m' h.books h.map) x ≡ to o (part o (live_size t) m') (holding al A P h) x
      go x (yes q) = rw (eq-eqb x o q, q) (holding_live L written_sound o t)
      go x (no q) = rw (ne_eqb x o q) (written_others x q)
