-- What a heap holds at an offset: the bytes of the live block there, or nothing. What an ask and a give-back make of
-- it.
-- Assumes nothing.
use Rattle.std.specs.Prelude.{◌≡◌, ◌≢◌, ◌⊎◌, Bool, true, false, List, [], ℕ, suc, ◌+◌, ◌*◌, ◌/◌, ◌%◌, ◌≤◌, ◌<◌, length, if◌then◌else◌}
use Rattle.std.proofs.Math.Path.{refl, sym}
use Rattle.std.proofs.Common.{ap, ap₂, ◌∙◌, subst, inl, inr, true≢false, mul_assoc, mul_comm, arith}
use Rattle.std.proofs.Math.Decide.{ℕ_discrete}
use borrow.Author.Tests.{eq-eqb, ne_eqb, le-leb, lt-ltb}
use Rattle.rules.specs.Books.{Heap, at, memory_length, offset_of}
use Rattle.rules.specs.Blocks.{size_of, last_class, start_of, block_no, capacity, class_at, size_at, live}
use Rattle.rules.specs.View.{part}
use Rattle.books.specs.Starts.{start_is, number_is}
use Rattle.books.specs.Known.{live_is}
use Rattle.books.specs.Sizes.{Aligned, size_low, capacity_high}
use Rattle.sequences.specs.Update.{is_false, to}
use Rattle.sound.specs.Plain.{Plain}
use Rattle.sound.specs.Chains.{block_ends, live_below}
use Rattle.sound.specs.Sound.{Sound}
use Rattle.sound.specs.Held.{held, in_class}
use Rattle.sound.specs.Paths.{Quiet, Hand}
use Rattle.sound.specs.Bytes.{part_long, part_same}

-- the bytes that the heap h of A arenas with P pools holds at offset o
unfoldable pub holding : ℕ → ℕ → ℕ → Heap → ℕ → List ℕ
holding al A P h o = if live al A P h.books h.map o then part o (size_at al A h.books o) h.memory else []

-- ---- the plain heap has a live block at offset o: which block of which pool
pub record LiveAt (al A P : ℕ) (r : Plain) (o : ℕ) : Type 0 where
  pub pool : ℕ
  pub block : ℕ
  pub place : o ≡ offset_of pool (start_of (size_of al (r.class pool)) block)
  pub inside : pool < A * P
  pub class : r.class pool ≤ last_class al
  pub fits : block < capacity (size_of al (r.class pool))
  pub on : r.live pool block ≡ true

-- how long that block is, and that it lies in its pool
abbrev pub live_size : {al A P : ℕ} {r : Plain} {o : ℕ} → LiveAt al A P r o → ℕ
live_size {al} {r = r} t = size_of al (r.class t.pool)

pub live_ends : {al A P : ℕ} {r : Plain} {o : ℕ} (t : LiveAt al A P r o)
    → start_of (live_size t) t.block + live_size t ≤ 4096
live_ends t = block_ends (live_size t) t.block (suc t.block) (omega arith) t.fits

-- it begins at a multiple of the alignment, and is as long as one: so are pools, their first 48 bytes and block sizes
place_aligned : {al : ℕ} → Aligned al → (p k c : ℕ)
    → (offset_of p (start_of (size_of al c) k) % al ≡ 0) × (size_of al c % al ≡ 0)
place_aligned {al} L p k c = go L.is
  where
    place : start_of (size_of al c) k ≡ 48 + al * (k * (c + 1))
    place = omega (arith, mul_assoc k al (c + 1), mul_comm k al, mul_assoc al k (c + 1))

    go : (al ≡ 8) ⊎ (al ≡ 16) → (offset_of p (start_of (size_of al c) k) % al ≡ 0) × (size_of al c % al ≡ 0)
    go (inl q) = rw place (rw q (omega arith, omega arith))
    go (inr q) = rw place (rw q (omega arith, omega arith))

pub live_aligned : {al A P : ℕ} {r : Plain} → Aligned al → (o : ℕ) (t : LiveAt al A P r o)
    → (o % al ≡ 0) × (live_size t % al ≡ 0)
live_aligned {al} {r = r} L o t =
    let u = place_aligned L t.pool t.block (r.class t.pool) in
    (ap (λ (i : ℕ). i % al) t.place ∙ u.0, u.1)

-- a plain heap with the same class of its pool, and it live, has it too
live_still : {al A P o : ℕ} {r r' : Plain} (t : LiveAt al A P r o) → r'.class t.pool ≡ r.class t.pool
    → r'.live t.pool t.block ≡ true → LiveAt al A P r' o
live_still t e f =
    record { pool = t.pool; block = t.block; place = rw e t.place; inside = t.inside; class = rw e t.class; fits = rw e t.fits; on = f }

pub dead_holding : (al A P : ℕ) (h : Heap) (o : ℕ) → live al A P h.books h.map o ≡ false → holding al A P h o ≡ []
unfolding holding
dead_holding al A P h o e = rw e

-- where something is held, the offset is live
pub holding_some : (al A P : ℕ) (h : Heap) (o : ℕ) → holding al A P h o ≢ [] → live al A P h.books h.map o ≡ true
holding_some al A P h o some = go (live al A P h.books h.map o) refl
  where
    go : (b : Bool) → live al A P h.books h.map o ≡ b → live al A P h.books h.map o ≡ true
    go true e = e
    go false e = absurd (some (dead_holding al A P h o e))

module _ {al A P : ℕ} {h : Heap} {r : Plain} (L : Aligned al) (S : Sound al A P h r) where
  -- what the live test says is what the plain heap has
  pub live_rows : (o : ℕ) → live al A P h.books h.map o ≡ true → LiveAt al A P r o
  live_rows o e =
      let t = live_is L A P h.books h.map o e in
      let c : class_at A h.books o ≡ r.class (o / 4096) = S.classes (o / 4096) t.pool in
      let z = rw c at t.start in
      record {
        pool = o / 4096;
        block = block_no (size_of al (r.class (o / 4096))) (o % 4096);
        place = omega (arith, z.place);
        inside = t.pool;
        class = rw c at t.class;
        fits = z.number;
        on = sym (S.bits (o / 4096) _ t.pool (omega (arith, z.few))) ∙ rw c at t.set;
      }

  -- a live block of the plain heap
  pub block_live : (p k : ℕ) → p < A * P → r.live p k ≡ true
      → LiveAt al A P r (offset_of p (start_of (size_of al (r.class p)) k))
  block_live p k l on =
      let I = in_class L (held S).says p k l on in
      record {
        pool = p;
        block = k;
        place = refl;
        inside = l;
        class = I.class_low;
        fits = omega (arith, live_below I.blocks k on, I.blocks.fits);
        on = on;
      }

  pub block_pool : (p k : ℕ) (l : p < A * P) (on : r.live p k ≡ true) → (block_live p k l on).pool ≡ p
  unfolding block_live
  block_pool p k l on = refl

  module _ (o : ℕ) (t : LiveAt al A P r o) where
    low : 8 ≤ live_size t
    low = size_low L (r.class t.pool) t.class

    pub pool_is : o / 4096 ≡ t.pool
    pool_is = omega (arith, t.place, live_ends t, low)

    pub start_at : o % 4096 ≡ start_of (live_size t) t.block
    start_at = omega (arith, t.place, live_ends t, low)

    number_at : block_no (live_size t) (o % 4096) ≡ t.block
    number_at = ap (block_no (live_size t)) start_at ∙ number_is (live_size t) t.block (omega (arith, low))

    pub class_is : class_at A h.books o ≡ r.class t.pool
    class_is = S.classes (o / 4096) (rw pool_is t.inside) ∙ ap r.class pool_is

    pub rows_live : live al A P h.books h.map o ≡ true
    unfolding live
    rows_live =
        rw (
          class_is,
          lt-ltb o (memory_length A P) (omega (arith, t.place, live_ends t, low, t.inside)),
          le-leb (r.class t.pool) (last_class al) t.class,
          start_at,
          start_is (live_size t) t.block t.fits,
          number_is (live_size t) t.block (omega (arith, low)),
          pool_is,
          S.bits t.pool t.block t.inside (omega (arith, t.fits, capacity_high L (r.class t.pool) t.class)),
          t.on,
        )

    pub holding_live : holding al A P h o ≡ part o (live_size t) h.memory
    unfolding holding
    holding_live = rw (rows_live, class_is)

    -- the block lies in memory, and what is held is as long as it
    pub in_memory : o + live_size t ≤ length h.memory
    in_memory = omega (arith, t.place, t.inside, (held S).says.bytes, live_ends t)

    pub holding_long : length (holding al A P h o) ≡ live_size t
    holding_long = ap length holding_live ∙ part_long h.memory o (live_size t) in_memory

    pub holding_more : 8 ≤ length (holding al A P h o)
    holding_more = omega (arith, holding_long, low)

-- ---- two sound heaps
module _ {al A P : ℕ} {h h' : Heap} {r r' : Plain} (L : Aligned al)
    (S : Sound al A P h r) (S' : Sound al A P h' r') where
  -- the live blocks at one offset lie in one pool, and are one block of it if they are of one size
  pub one_pool : (o : ℕ) (t : LiveAt al A P r o) (u : LiveAt al A P r' o) → u.pool ≡ t.pool
  one_pool o t u = sym (pool_is L S' o u) ∙ pool_is L S o t

  pub one_block : (o : ℕ) (t : LiveAt al A P r o) (u : LiveAt al A P r' o) → live_size u ≡ live_size t
      → u.block ≡ t.block
  one_block o t u e = sym (number_at L S' o u) ∙ ap (λ (s : ℕ). block_no s (o % 4096)) e ∙ number_at L S o t

  -- ---- a step that touches no byte of a block that is live after it
  module _ (Q : Quiet al A P h.memory h'.memory r') where
    -- a block that is live after it has the bytes that stood there before
    untouched : (o : ℕ) (t : LiveAt al A P r' o) → part o (live_size t) h'.memory ≡ part o (live_size t) h.memory
    untouched o t =
        part_same h.memory h'.memory o (live_size t) Q.same_length (omega (arith, in_memory L S' o t, Q.same_length))
        (λ d v. subst (λ (x : ℕ). at h'.memory (x + d) ≡ at h.memory (x + d))
        (sym t.place) (Q.live_bytes t.pool t.block d t.inside t.on v))

    -- an offset that is live before and after, in a pool of the same class, holds the same
    holding_same : (o : ℕ) → (LiveAt al A P r o → LiveAt al A P r' o)
        → ((t : LiveAt al A P r' o) → LiveAt al A P r o × (r.class t.pool ≡ r'.class t.pool))
        → holding al A P h' o ≡ holding al A P h o
    holding_same o f g = go (live al A P h'.books h'.map o) refl
      where
        go : (t : Bool) → live al A P h'.books h'.map o ≡ t → holding al A P h' o ≡ holding al A P h o
        go false e =
            dead_holding al A P h' o e
            ∙ sym (dead_holding al A P h o
            (is_false (live al A P h.books h.map o) (λ u. true≢false (sym (rows_live L S' o (f (live_rows L S o u))) ∙ e))))
        go true e =
            let t = live_rows L S' o e in
            let u = (g t).0 in
            let c : r.class u.pool ≡ r'.class t.pool = ap r.class (sym (one_pool o u t)) ∙ (g t).1 in
            holding_live L S' o t
            ∙ untouched o t
            ∙ sym (holding_live L S o u ∙ ap (λ (x : ℕ). part o (size_of al x) h.memory) c)

    -- ---- an ask that hands out the block at o
    module _ {c o : ℕ} (lc : c ≤ last_class al) (H : Hand al A P r r' c o) where
      live_at : (y j : ℕ) → r'.live y j ≡ to H.pool (to H.block true (r.live H.pool)) r.live y j
      live_at y j = ap (λ (g : ℕ → ℕ → Bool). g y j) H.live_now

      pub at_block : LiveAt al A P r' o
      at_block =
          record {
            pool = H.pool;
            block = H.block;
            place = rw H.class_now H.place;
            inside = H.inside;
            class = rw H.class_now lc;
            fits = rw H.class_now H.fits;
            on = live_at H.pool H.block ∙ rw (eq-eqb H.pool H.pool refl, eq-eqb H.block H.block refl);
          }

      pub at_class_lem : r'.class at_block.pool ≡ c
      unfolding at_block
      at_class_lem = H.class_now

      pub holding_new : holding al A P h' o ≡ part o (size_of al c) h'.memory
      holding_new = holding_live L S' o at_block ∙ ap (λ (x : ℕ). part o (size_of al x) h'.memory) at_class_lem

      -- and those are the bytes that stood there before
      pub bytes_new : part o (size_of al c) h'.memory ≡ part o (size_of al c) h.memory
      bytes_new = rw at_class_lem at (untouched o at_block)

      -- as many as a block of the class has
      pub long_new : length (part o (size_of al c) h'.memory) ≡ size_of al c
      long_new = part_long h'.memory o (size_of al c) (rw at_class_lem at (in_memory L S' o at_block))

      -- the block was not live: a live block there would have been of the pool, and so of its class and the same block
      was_free : LiveAt al A P r o → ⊥
      unfolding at_block
      was_free t = go H.kind
        where
          q : t.pool ≡ H.pool
          q = sym (one_pool o t at_block)

          go : (r.class H.pool ≡ c) ⊎ ((j : ℕ) → r.live H.pool j ≡ false) → ⊥
          go (inr f) = true≢false (sym t.on ∙ ap (λ (x : ℕ). r.live x t.block) q ∙ f t.block)
          go (inl e) =
              true≢false (sym t.on
              ∙ ap₂ r.live q (sym (one_block o t at_block (ap (size_of al) (H.class_now ∙ sym (ap r.class q ∙ e)))))
              ∙ H.was_dead)

      -- nothing was held there
      pub holding_none : holding al A P h o ≡ []
      holding_none = dead_holding al A P h o (is_false (live al A P h.books h.map o) (λ u. was_free (live_rows L S o u)))

      pub holding_others : (x : ℕ) → x ≢ o → holding al A P h' x ≡ holding al A P h x
      holding_others x d = holding_same x stays back
        where
          -- another block of the pool says that the pool was of the class
          of_class : (t : ℕ) → r.live H.pool t ≡ true → r.class H.pool ≡ c
          of_class t on = go H.kind
            where
              go : (r.class H.pool ≡ c) ⊎ ((j : ℕ) → r.live H.pool j ≡ false) → r.class H.pool ≡ c
              go (inl e) = e
              go (inr f) = absurd (true≢false (sym on ∙ f t))

          stays : LiveAt al A P r x → LiveAt al A P r' x
          stays t = go (ℕ_discrete t.pool H.pool) (ℕ_discrete t.block H.block)
            where
              go : Dec (t.pool ≡ H.pool) → Dec (t.block ≡ H.block) → LiveAt al A P r' x
              go (no q) u = live_still t (H.classes t.pool q) (live_at t.pool t.block ∙ rw (ne_eqb t.pool H.pool q) t.on)
              go (yes q) u =
                  live_still t (rw q (H.class_now ∙ sym (of_class t.block (rw (← q) t.on))))
                  (live_at t.pool t.block ∙ rw (eq-eqb t.pool H.pool q) (on' u))
                where
                  on' : Dec (t.block ≡ H.block) → to H.block true (r.live H.pool) t.block ≡ true
                  on' (yes u) = rw (eq-eqb t.block H.block u)
                  on' (no u) = rw (ne_eqb t.block H.block u, ← q) t.on

          back : (t : LiveAt al A P r' x) → LiveAt al A P r x × (r.class t.pool ≡ r'.class t.pool)
          back t = go (ℕ_discrete t.pool H.pool) (ℕ_discrete t.block H.block)
            where
              same : r.class t.pool ≡ r'.class t.pool → r.live t.pool t.block ≡ true
                  → LiveAt al A P r x × (r.class t.pool ≡ r'.class t.pool)
              same e f = (live_still t e f, e)

              now : t.pool ≡ H.pool → r'.class t.pool ≡ c
              now q = ap r'.class q ∙ H.class_now

              go : Dec (t.pool ≡ H.pool) → Dec (t.block ≡ H.block)
                  → LiveAt al A P r x × (r.class t.pool ≡ r'.class t.pool)
              go (no q) u = same (sym (H.classes t.pool q)) (sym (rw (ne_eqb t.pool H.pool q) at (live_at t.pool t.block)) ∙ t.on)
              go (yes q) (yes u) = absurd (d (t.place ∙ rw (now q, q, u) (sym H.place)))
              go (yes q) (no u) =
                  let on : r.live H.pool t.block ≡ true =
                  sym (rw (eq-eqb t.pool H.pool q, ne_eqb t.block H.block u) at (live_at t.pool t.block)) ∙ t.on in
                  same (ap r.class q ∙ of_class t.block on ∙ sym (now q)) (rw q on)

    -- ---- a give-back of the live block at o
    module _ (o : ℕ) (t : LiveAt al A P r o) (class_same : r'.class ≡ r.class)
        (live_now : r'.live ≡ to t.pool (to t.block false (r.live t.pool)) r.live) where
      off : (y i : ℕ) → r'.live y i ≡ to t.pool (to t.block false (r.live t.pool)) r.live y i
      off y i = ap (λ (g : ℕ → ℕ → Bool). g y i) live_now

      class_at_lem : (y : ℕ) → r'.class y ≡ r.class y
      class_at_lem y = ap (λ (g : ℕ → ℕ). g y) class_same

      -- nothing is held there any more
      pub holding_gone : holding al A P h' o ≡ []
      holding_gone = dead_holding al A P h' o (is_false (live al A P h'.books h'.map o) (λ e. gone (live_rows L S' o e)))
        where
          gone : LiveAt al A P r' o → ⊥
          gone u =
              let q : u.pool ≡ t.pool = one_pool o t u in
              let k : u.block ≡ t.block = one_block o t u (ap (size_of al) (class_at_lem u.pool ∙ ap r.class q)) in
              true≢false (sym u.on ∙ off u.pool u.block ∙ rw (eq-eqb u.pool t.pool q, eq-eqb u.block t.block k))

      pub holding_kept : (x : ℕ) → x ≢ o → holding al A P h' x ≡ holding al A P h x
      holding_kept x d = holding_same x stays back
        where
          stays : LiveAt al A P r x → LiveAt al A P r' x
          stays u = live_still u (class_at_lem u.pool) (off u.pool u.block ∙ go (ℕ_discrete u.pool t.pool) (ℕ_discrete u.block t.block))
            where
              go : Dec (u.pool ≡ t.pool) → Dec (u.block ≡ t.block)
                  → to t.pool (to t.block false (r.live t.pool)) r.live u.pool u.block ≡ true
              go (no q) k = rw (ne_eqb u.pool t.pool q) u.on
              go (yes q) (no k) = rw (eq-eqb u.pool t.pool q, ne_eqb u.block t.block k, ← q) u.on
              go (yes q) (yes k) = absurd (d (u.place ∙ ap₂ (λ (y z : ℕ). offset_of y (start_of (size_of al (r.class y)) z)) q k ∙ sym t.place))

          back : (u : LiveAt al A P r' x) → LiveAt al A P r x × (r.class u.pool ≡ r'.class u.pool)
          back u =
              let e = sym (class_at_lem u.pool) in
              (live_still u e (go (ℕ_discrete u.pool t.pool) (ℕ_discrete u.block t.block) (sym (off u.pool u.block) ∙ u.on)), e)
            where
              go : Dec (u.pool ≡ t.pool) → Dec (u.block ≡ t.block)
                  → to t.pool (to t.block false (r.live t.pool)) r.live u.pool u.block ≡ true
                  → r.live u.pool u.block ≡ true
              go (no q) k e = rw (ne_eqb u.pool t.pool q) at e
              go (yes q) (no k) e = rw q (rw (eq-eqb u.pool t.pool q, ne_eqb u.block t.block k) at e)
              go (yes q) (yes k) e = absurd (true≢false (sym e ∙ rw (eq-eqb u.pool t.pool q, eq-eqb u.block t.block k)))

-- ---- what a step leaves, the heap being h before it: a heap that holds the plain heap r, at each offset the bytes
-- that g says, and the first 48 bytes of each pool
pub record Leaves (al A P : ℕ) (h h' : Heap) (r : Plain) (g : ℕ → List ℕ) : Type 0 where
  pub sound : Sound al A P h' r
  pub holds : (o : ℕ) → holding al A P h' o ≡ g o
  pub first : (i : ℕ) → i % 4096 < 48 → at h'.memory i ≡ at h.memory i
