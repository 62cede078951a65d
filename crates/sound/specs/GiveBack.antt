-- Give back, where the pool stays in use: it was full and joins its class list, or it keeps its place.
-- Assumes nothing.
use Rattle.std.specs.Prelude.{◌≡◌, ◌≢◌, true, ◌||◌, List, [], ◌∷◌, ℕ, suc, ◌+◌, ◌*◌, ◌-◌, ◌≤◌, ◌<◌, eqb, length, if◌then◌else◌}
use Rattle.std.proofs.Math.Path.{refl}
use Rattle.std.proofs.Common.{sym, ap, ◌∙◌, subst, inr, arith}
use Rattle.std.proofs.Math.Bool.{false}
use borrow.Author.Tests.{eq-eqb, ne_eqb, le-leb}
use Rattle.rules.specs.declared.BackPlan.{BackPlan}
use Rattle.rules.specs.declared.BackPlan.TheVariants.{Joins, Stays}
use Rattle.rules.specs.Say.{◌▷◌}
use Rattle.rules.specs.Books.{Heap, at, put, put_map_bit, class_head, freeblock, pool_word, pool, offset_of}
use Rattle.rules.specs.Blocks.{size_of, start_of, is_start, block_no, capacity, put_link}
use Rattle.rules.specs.Lists.{may_join}
use Rattle.rules.specs.GiveBack.{◌⇛◌, plan_back, emptying, after_back}
use Rattle.books.specs.Starts.{start_is, number_is}
use Rattle.books.specs.Sizes.{Aligned, size_low, capacity_high, capacity_low, class_low}
use Rattle.sequences.specs.Update.{to, to_cong}
use Rattle.sequences.specs.Families.{head_link}
use Rattle.sound.specs.Books.{View, Books, put_pool_lem, pool_joins_lem, pool_to, home_to, listed_to}
use Rattle.sound.specs.Plain.{Plain, count, set_chain, set_live, set_listed}
use Rattle.sequences.specs.Counting.{many_some}
use Rattle.sound.specs.Chains.{Blocks, room, given, live_below, block_ends}
use Rattle.sound.specs.Held.{Says, Held, sound, home_listed, home_full, InClassOf, in_class}
use Rattle.sound.specs.Step.{BytesAfter, link_after}
use Rattle.sound.specs.Paths.{quiet_link, Backed, backed, count_off, inside_rows, inside_view, inner}

-- block j of pool p is live, in a heap that holds the plain heap r
pub record Given (al A P : ℕ) (h : Heap) (r : Plain) (p j : ℕ) : Type 0 where
  pub aligned : Aligned al
  pub held : Held al A P h r
  pub inside : p < A * P
  pub on : r.live p j ≡ true

-- ---- it comes back
module _ {al A P p j : ℕ} {h : Heap} {r : Plain} (G : Given al A P h r p j) where
  open G use {aligned as L, inside as lp, on}
  open G.held use {view as U, books as K, says as F}

  abbrev c : ℕ
  c = r.class p

  abbrev s : ℕ
  s = size_of al (r.class p)

  abbrev b : List ℕ
  b = h.books

  -- where the block starts
  abbrev f : ℕ
  f = start_of (size_of al (r.class p)) j

  pub I : InClassOf al U h.memory r p
  I = in_class L F p j lp on

  pub s_low : 8 ≤ s
  s_low = size_low L c I.class_low

  pub c_low : c < 64
  c_low = class_low L c I.class_low

  cap_high : capacity s ≤ 506
  cap_high = capacity_high L c I.class_low

  pub j_low : j < capacity s
  j_low = omega (arith, live_below I.blocks j on, I.blocks.fits)

  pub j_small : j < 512
  j_small = omega (arith, j_low, cap_high)

  pub some : 1 ≤ count r p
  some = many_some (r.live p) j 512 j_small on

  room_is : count r p + length (r.chain p) ≡ r.virgin p
  room_is = room I.blocks (omega (arith, cap_high))

  pub count_is : pool A b 0 p ≡ count r p
  count_is = K.pools 0 p (omega arith) lp ∙ (F.pools p lp).count_is

  pub free_is : pool A b 1 p ≡ U.pool 1 p
  free_is = K.pools 1 p (omega arith) lp

  -- the tests of freeblock and count
  pub tested : (q : BackPlan) (v : ℕ) → pool A b 1 p ≡ v → (eqb v 0 || is_start s v) ≡ true
      → (if eqb v 0 then may_join (A * P) (class_head c) b ⇛ Joins
      else if eqb (pool A b 0 p) 1 then emptying al A P b c p else Stays) ≡ q
      → plan_back al A P b c p ≡ q
  unfolding plan_back
  tested q v e t g =
      rw (
        e,
        t,
        le-leb 1 (pool A b 0 p) (omega (arith, count_is, some)),
        le-leb (pool A b 0 p) 506 (omega (arith, count_is, room_is, I.blocks.fits, cap_high)),
      ) g

  -- ---- "Clear the bit; write the old freeblock as the block's link; freeblock is the block; count falls by 1."
  -- b₁ are the books after the first of their two writes, b₂ after both; U₂ is what they say then, and m₂ is memory
  abbrev pub b₁ : List ℕ
  b₁ = put (pool_word A 1 p) f b

  abbrev pub b₂ : List ℕ
  b₂ = put (pool_word A 0 p) (at b₁ (pool_word A 0 p) - 1) b₁

  abbrev pub m₂ : List ℕ
  m₂ = put_link (offset_of p f) (pool A b freeblock p) h.memory

  abbrev pub U₂ : View
  U₂ = U ▷ pool_to 1 p f ▷ pool_to 0 p (at b₁ (pool_word A 0 p) - 1)

  pub K₂ : Books A (A * P) b₂ U₂
  K₂ = put_pool_lem (put_pool_lem K 1 p f (omega arith) lp) 0 p (at b₁ (pool_word A 0 p) - 1) (omega arith) lp

  pub bytes₂ : BytesAfter p h.memory m₂
  bytes₂ =
      link_after h.memory p f (pool A b freeblock p) (omega (arith, s_low, block_ends s j (r.virgin p) (live_below I.blocks j on) I.blocks.fits))

  -- ---- the pool in the plain heap after
  pub count_after : suc (count (r ▷ set_live p j false) p) ≡ count r p
  count_after = count_off r p j on j_small

  pub dead_after : (r ▷ set_live p j false).live p j ≡ false
  dead_after = rw (eq-eqb p p refl, eq-eqb j j refl)

  pub count₂ : U₂.pool 0 p ≡ count (r ▷ set_live p j false) p
  count₂ =
      let e : at b₁ (pool_word A 0 p) ≡ count r p = (put_pool_lem K 1 p f (omega arith) lp).pools 0 p (omega arith) lp
      ∙ rw (eq-eqb p p refl) (F.pools p lp).count_is in
      let q : U₂.pool 0 p ≡ at b₁ (pool_word A 0 p) - 1 = rw (eq-eqb p p refl) in
      omega (arith, count_after)

  pub in_class₂ : InClassOf al U₂ m₂ (r ▷ set_chain p (j ∷ r.chain p) ▷ set_live p j false) p
  in_class₂ =
      record {
        class_low = I.class_low;
        maxnextoffset_is = rw (eq-eqb p p refl) I.maxnextoffset_is;
        blocks = rw (eq-eqb p p refl) given₂;
        two = λ z. rw (eq-eqb p p refl) (empty_two (omega (arith, count_after)));
        one = λ _. rw (eq-eqb p p refl) (omega arith);
      }
    where
      given₂ : Blocks s p m₂ f (U.pool 5 p) (to j false (r.live p)) (j ∷ r.chain p) (r.virgin p)
      given₂ =
          subst (λ (v : ℕ). Blocks s p (put_link (offset_of p f) v h.memory) f (U.pool 5 p)
          (to j false (r.live p)) (j ∷ r.chain p) (r.virgin p)) (sym free_is)
          (given j I.blocks (omega (arith, s_low)) (omega (arith, F.bytes, lp)) on)

      -- the last live block comes back to a pool that is not full
      empty_two : count r p ≡ 1 → 2 ≤ suc (length (r.chain p))
      empty_two e = omega (arith, I.one (omega (arith, capacity_low L c I.class_low)))

  -- a pool that keeps a live block is listed then
  kept : (listed : ℕ → List ℕ) (homes : ℕ → ℕ) (lists : ℕ → List ℕ) → 2 ≤ count r p
      → ((y : ℕ) → y ≢ p → homes y ≡ U.home y) → homes p ≡ class_head c
      → ((i : ℕ) → i < 64 → lists i ≡ listed i)
      → Says al A P (inside_view U₂.pool homes lists U) m₂ (put_map_bit p (block_no s f) 0 h.map)
      (inside_rows p j 0 (j ∷ r.chain p) r.virgin listed r)
  kept listed homes lists two o e x =
      rw (number_is s j (omega (arith, s_low)))
      (inner L F lp j 0 j_small (omega arith) some (omega (arith, count_after)) (j ∷ r.chain p) r.virgin listed U₂.pool homes lists
      (λ y d. refl) (λ w y d. rw (ne_eqb y p d)) (rw (eq-eqb p p refl)) o x bytes₂
      (record {
        count_is = count₂;
        class_is = rw (eq-eqb p p refl) (F.pools p lp).class_is;
        used = λ _ _. (F.pools p lp).used j on;
        rule = λ _. inr in_class₂;
        home_is = e ∙ sym (home_listed al P (inside_rows p j 0 (j ∷ r.chain p) r.virgin listed r) p
            (omega (arith, count_after)) (omega (arith, count_after, room_is, I.blocks.fits)));
      }))

  -- ---- the pool had a spare block and keeps a live one: it stays where it is
  pub back_stays_lem : (i : ℕ) (is : List ℕ) → r.chain p ≡ i ∷ is → 2 ≤ count r p → Backed al A P h r p j
  unfolding after_back
  back_stays_lem i is chn many =
      backed Stays r'
      (tested Stays (start_of s i) (free_is ∙ C.chained.0) (rw (ne_eqb (start_of s i) 0 (omega arith), start_is s i (omega (arith, C.below.0, C.fits))))
      (rw (ne_eqb (start_of s i) 0 (omega arith), count_is, ne_eqb (count r p) 1 (omega arith))))
      (rw (chn, ne_eqb (count r p) 1 (omega arith))) refl
      (sound {h = h'} L K₂ F') (quiet_link L F' p j (pool A b freeblock p) I.class_low j_low dead_after)
    where
      r' : Plain
      r' = r ▷ set_chain p (j ∷ r.chain p) ▷ set_live p j false

      h' : Heap
      h' = after_back al A P c p f Stays h

      C : Blocks s p h.memory (U.pool 1 p) (U.pool 5 p) (r.live p) (i ∷ is) (r.virgin p)
      C = rw chn at I.blocks

      F' : Says al A P U₂ m₂ h'.map r'
      F' =
          kept r.listed U.home U.listed many (λ y d. refl)
          ((F.pools p lp).home_is ∙ home_listed al P r p some (omega (arith, room_is, ap length chn, I.blocks.fits))) F.lists.listed

  -- ---- "If the old freeblock was 0, the pool was full: it joins its class list at the front."
  pub back_joins_lem : r.chain p ≡ [] → Backed al A P h r p j
  unfolding after_back
  back_joins_lem none =
      backed Joins r'
      (tested Joins 0 (free_is ∙ (rw none at I.blocks).chained) refl (rw (le-leb (at b (class_head c)) (A * P) (head_link K.listed c c_low))))
      (rw none) refl
      (sound {h = h'} L K' F') (quiet_link L F' p j (pool A b freeblock p) I.class_low j_low dead_after)
    where
      r' : Plain
      r' = r ▷ set_chain p (j ∷ r.chain p) ▷ set_live p j false ▷ set_listed c (p ∷ r.listed c)

      h' : Heap
      h' = after_back al A P c p f Joins h

      whole : capacity s ≤ count r p
      whole = let d : ¬ (count r p < capacity s) = (λ q. omega (arith, ap length none, I.one q)) in omega arith

      U' : View
      U' = U₂ ▷ home_to p (class_head c) ▷ listed_to c (p ∷ U.listed c)

      K' : Books A (A * P) h'.books U'
      K' = pool_joins_lem K₂ c p c_low lp (omega (arith, (F.pools p lp).home_is ∙ home_full al P r p some whole))

      F' : Says al A P U' m₂ h'.map r'
      F' =
          kept r'.listed U'.home U'.listed (omega (arith, whole, capacity_low L c I.class_low)) (λ y d. rw (ne_eqb y p d)) (rw (eq-eqb p p refl))
          (λ i l. to_cong c U.listed r.listed (ap (λ (xs : List ℕ). p ∷ xs) (F.lists.listed c c_low)) i (F.lists.listed i l))
