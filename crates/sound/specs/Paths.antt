-- What is to be shown of each path: the rules decide what the plain heap decides, what they write holds the plain
-- heap after, and no byte of a live block nor of a pool's first 48 is touched. And a step inside a pool that is in
-- use before and after.
-- Assumes nothing.
use Rattle.std.specs.Prelude.{◌≡◌, refl, ◌≢◌, ◌⊎◌, true, false, not, List, ℕ, suc, ◌+◌, ◌*◌, ◌/◌, ◌%◌, ◌≤◌, ◌<◌, ltb, eqb, length, if◌then◌else◌}
use Rattle.std.proofs.Common.{sym, ap, ap₂, ◌∙◌, inl, true≢false, arith, eq-eqb, ne_eqb, lt-ltb}
use Rattle.std.proofs.Math.Decide.{ℕ_discrete}
use Rattle.rules.specs.declared.AskPlan.{AskPlan}
use Rattle.rules.specs.declared.BackPlan.{BackPlan}
use Rattle.rules.specs.Say.{◌▷◌}
use Rattle.rules.specs.Books.{Heap, at, offset_of, put_map_bit}
use Rattle.rules.specs.Blocks.{size_of, last_class, start_of, capacity, put_link}
use Rattle.rules.specs.Ask.{plan_ask, after_ask, ask_answer}
use Rattle.rules.specs.GiveBack.{plan_back, after_back}
use Rattle.books.specs.Known.{in_range_lem}
use Rattle.books.specs.Sizes.{Aligned, size_low}
use Rattle.sequences.specs.Update.{to, to_same, to_other}
use Rattle.sequences.specs.Sequences.{all_every}
use Rattle.sequences.specs.Rising.{Rising, rising_same}
use Rattle.sound.specs.Plain.{
  Plain,
  count,
  in_use,
  carved,
  free,
  set_live,
  plan_ask as plainAsk,
  after_ask as plainAfterAsk,
  plan_back as plainBack,
  after_back as plainAfterBack,
}
use Rattle.sequences.specs.Counting.{many_same, many_more}
use Rattle.sound.specs.Bytes.{outside_less}
use Rattle.sound.specs.Chains.{block_ends, block_outside, first_outside, put_link_other, length_link, live_below}
use Rattle.sound.specs.Books.{View}
use Rattle.sound.specs.Sound.{Sound}
use Rattle.sound.specs.Held.{Says, PoolSays, arena_low, in_class}
use Rattle.sound.specs.Step.{Aside, BytesAfter, base_same, homes_same, stepped}

-- ---- memory: no byte of a live block of the plain heap r, and none of a pool's first 48, is touched
pub record Quiet (al A P : ℕ) (m m' : List ℕ) (r : Plain) : Type 0 where
  pub same_length : length m' ≡ length m
  pub first_bytes : (i : ℕ) → i % 4096 < 48 → at m' i ≡ at m i
  pub live_bytes : (n j d : ℕ) → n < A * P → r.live n j ≡ true → d < size_of al (r.class n)
      → at m' (offset_of n (start_of (size_of al (r.class n)) j) + d)
      ≡ at m (offset_of n (start_of (size_of al (r.class n)) j) + d)

pub quiet_same : {al A P : ℕ} {m : List ℕ} {r : Plain} → Quiet al A P m m r
quiet_same = record { same_length = refl; first_bytes = λ i l. refl; live_bytes = λ n j d l o u. refl }

-- a link is written in a block that is not live
pub quiet_link : {al A P : ℕ} {U : View} {m m₀ k : List ℕ} {r : Plain} → Aligned al → Says al A P U m₀ k r → (p j v : ℕ)
    → r.class p ≤ last_class al
    → j < capacity (size_of al (r.class p)) → r.live p j ≡ false
    → Quiet al A P m (put_link (offset_of p (start_of (size_of al (r.class p)) j)) v m) r
quiet_link {al} {A} {P} {U} {m} {m₀} {k} {r} L F p j v c l dead =
    record {
      same_length = length_link m _ v;
      first_bytes = λ i u. put_link_other m _ v i
          (outside_less four (first_outside p (start_of (size_of al (r.class p)) j) (size_of al (r.class p)) i (omega arith) ends u));
      live_bytes = λ n i d ln on u. put_link_other m _ v _
          (outside_less four (block_outside (λ y. size_of al (r.class y)) p j n i (other n i on) ends (live_ends n i ln on) d u));
    }
  where
    four : 4 ≤ size_of al (r.class p)
    four = omega (arith, size_low L (r.class p) c)

    ends : start_of (size_of al (r.class p)) j + size_of al (r.class p) ≤ 4096
    ends = block_ends (size_of al (r.class p)) j (suc j) (omega arith) l

    live_ends : (n i : ℕ) → n < A * P → r.live n i ≡ true
        → start_of (size_of al (r.class n)) i + size_of al (r.class n) ≤ 4096
    live_ends n i ln on = let I = in_class L F n i ln on in block_ends (size_of al (r.class n)) i (r.virgin n) (live_below I.blocks i on) I.blocks.fits

    other : (n i : ℕ) → r.live n i ≡ true → p ≡ n → j ≢ i
    other n i on q t = true≢false (sym on ∙ ap₂ r.live (sym q) (sym t) ∙ dead)

-- ---- the block that an ask for class c hands out at offset o: block k of pool p. The pool is of the class, or had
-- no live block and is set to it
pub record Hand (al A P : ℕ) (r r' : Plain) (c o : ℕ) : Type 0 where
  pub pool : ℕ
  pub block : ℕ
  pub place : o ≡ offset_of pool (start_of (size_of al c) block)
  pub inside : pool < A * P
  pub fits : block < capacity (size_of al c)
  pub class_now : r'.class pool ≡ c
  pub classes : (y : ℕ) → y ≢ pool → r'.class y ≡ r.class y
  pub live_now : r'.live ≡ to pool (to block true (r.live pool)) r.live
  pub was_dead : r.live pool block ≡ false
  pub kind : (r.class pool ≡ c) ⊎ ((j : ℕ) → r.live pool j ≡ false)

-- a block of a pool of the class
pub hand_out_lem : {al A P c : ℕ} {r r' : Plain} (p k : ℕ) → p < A * P → k < capacity (size_of al c) → r.class p ≡ c
    → r.live p k ≡ false
    → r'.class ≡ r.class → r'.live ≡ to p (to k true (r.live p)) r.live
    → Hand al A P r r' c (offset_of p (start_of (size_of al c) k))
hand_out_lem p k l u cls dead e f =
    record {
      pool = p;
      block = k;
      place = refl;
      inside = l;
      fits = u;
      class_now = ap (λ (g : ℕ → ℕ). g p) e ∙ cls;
      classes = λ y d. ap (λ (g : ℕ → ℕ). g y) e;
      live_now = f;
      was_dead = dead;
      kind = inl cls;
    }

-- ---- the blocks of the carved pools, live or dead: a carved pool stays one, and no block of it is virgin again,
-- unless the pool is set to another class
pub record Grows (A P : ℕ) (r r' : Plain) : Type 0 where
  pub carved_still : (y : ℕ) → y < A * P → carved P r y ≡ true → carved P r' y ≡ true
  pub ready_still : (y : ℕ) → carved P r y ≡ true → r'.class y ≡ r.class y → r.virgin y ≤ r'.virgin y

-- marks and virgin blocks stand
pub grows_same : {A P : ℕ} {r r' : Plain} → r'.mark ≡ r.mark → r'.virgin ≡ r.virgin → Grows A P r r'
grows_same {P = P} e f =
    record {
      carved_still = λ y l c. ap (λ (g : ℕ → ℕ). ltb (y % P) (g (y / P))) e ∙ c;
      ready_still = λ y c d. omega (arith, ap (λ (g : ℕ → ℕ). g y) f);
    }

-- ---- ask, for class c
pub record Asked (al A P : ℕ) (h : Heap) (r : Plain) (c : ℕ) : Type 0 where
  pub plan_is : plan_ask al A P h c ≡ plainAsk al P r c
  pub sound : Sound al A P (after_ask al A P c (plainAsk al P r c) h) (plainAfterAsk al P r c (plainAsk al P r c))
  pub quiet : Quiet al A P h.memory (after_ask al A P c (plainAsk al P r c) h).memory
      (plainAfterAsk al P r c (plainAsk al P r c))
  pub hand : (ask_answer (plainAsk al P r c)).number ≡ 0
      → Hand al A P r (plainAfterAsk al P r c (plainAsk al P r c)) c (ask_answer (plainAsk al P r c)).offset
  pub grows : Grows A P r (plainAfterAsk al P r c (plainAsk al P r c))

pub asked : {al A P : ℕ} {h : Heap} {r : Plain} {c : ℕ} (q : AskPlan) (r' : Plain) → plan_ask al A P h c ≡ q
    → plainAsk al P r c ≡ q → plainAfterAsk al P r c q ≡ r'
    → Sound al A P (after_ask al A P c q h) r' → Quiet al A P h.memory (after_ask al A P c q h).memory r'
    → ((ask_answer q).number ≡ 0 → Hand al A P r r' c (ask_answer q).offset) → Grows A P r r' → Asked al A P h r c
asked q r' e f g S Q H G =
    record { plan_is = e ∙ sym f; sound = rw (f, g) S; quiet = rw (f, g) Q; hand = rw (f, g) H; grows = rw (f, g) G }

-- ---- give back, of block j of pool p
pub record Backed (al A P : ℕ) (h : Heap) (r : Plain) (p j : ℕ) : Type 0 where
  pub plan_is : plan_back al A P h.books (r.class p) p ≡ plainBack P r p j
  pub sound : Sound al A P (after_back al A P (r.class p) p (start_of (size_of al (r.class p)) j) (plainBack P r p j) h)
      (plainAfterBack P r p j (plainBack P r p j))
  pub quiet : Quiet al A P h.memory
      (after_back al A P (r.class p) p (start_of (size_of al (r.class p)) j) (plainBack P r p j) h).memory
      (plainAfterBack P r p j (plainBack P r p j))

pub backed : {al A P : ℕ} {h : Heap} {r : Plain} {p j : ℕ} (q : BackPlan) (r' : Plain)
    → plan_back al A P h.books (r.class p) p ≡ q → plainBack P r p j ≡ q → plainAfterBack P r p j q ≡ r'
    → Sound al A P (after_back al A P (r.class p) p (start_of (size_of al (r.class p)) j) q h) r'
    → Quiet al A P h.memory (after_back al A P (r.class p) p (start_of (size_of al (r.class p)) j) q h).memory r'
    → Backed al A P h r p j
backed q r' e f g S Q = record { plan_is = e ∙ sym f; sound = rw (f, g) S; quiet = rw (f, g) Q }

-- ---- a pool's count, where one block becomes live or dead
pub count_on : (r : Plain) (p j : ℕ) → r.live p j ≡ false → j < 512 → count (r ▷ set_live p j true) p ≡ suc (count r p)
count_on r p j d l =
    rw (eq-eqb p p refl)
    (many_more (r.live p) (to j true (r.live p)) j 512 l d (to_same j true (r.live p) j refl) (λ i n. to_other j true (r.live p) i n))

pub count_off : (r : Plain) (p j : ℕ) → r.live p j ≡ true → j < 512 → suc (count (r ▷ set_live p j false) p) ≡ count r p
count_off r p j d l =
    rw (eq-eqb p p refl)
    (sym (many_more (to j false (r.live p)) (r.live p) j 512 l (to_same j false (r.live p) j refl) d (λ i n. sym (to_other j false (r.live p) i n))))

-- ---- a step inside pool p, which is in use before and after
-- the plain heap after it: block j's bit is d, ks is the pool's chain; and the view
abbrev pub inside_rows : ℕ → ℕ → ℕ → List ℕ → (ℕ → ℕ) → (ℕ → List ℕ) → Plain → Plain
inside_rows p j d ks virgins listed r =
    record {
      usable = r.usable;
      unused = r.unused;
      mark = r.mark;
      freed = r.freed;
      listed = listed;
      class = r.class;
      chain = to p ks r.chain;
      virgin = virgins;
      live = to p (to j (eqb d 1) (r.live p)) r.live;
    }

abbrev pub inside_view : (ℕ → ℕ → ℕ) → (ℕ → ℕ) → (ℕ → List ℕ) → View → View
inside_view pools homes listed U =
    record {
      head = U.head;
      pool = pools;
      arena = U.arena;
      home = homes;
      base = U.base;
      listed = listed;
      freed = U.freed;
      arenas = U.arenas;
    }

module _ {al A P p : ℕ} {U : View} {m k : List ℕ} {r : Plain} (L : Aligned al)
    (F : Says al A P U m k r) (lp : p < A * P) (j d : ℕ) (lj : j < 512) (ld : d < 2)
    (before : 1 ≤ count r p) (after : 1 ≤ count (r ▷ set_live p j (eqb d 1)) p) where
  -- the same pools are in use, so each arena has the same free pools
  in_use_lem : (y : ℕ) → in_use (r ▷ set_live p j (eqb d 1)) y ≡ in_use r y
  in_use_lem y = go (ℕ_discrete y p)
    where
      go : Dec (y ≡ p) → in_use (r ▷ set_live p j (eqb d 1)) y ≡ in_use r y
      go (yes q) = rw q (lt-ltb 0 (count (r ▷ set_live p j (eqb d 1)) p) after ∙ sym (lt-ltb 0 (count r p) before))
      go (no q) = rw (ne_eqb y p q)

  free_still : (x : ℕ) → free P (r ▷ set_live p j (eqb d 1)) x ≡ free P r x
  free_still x = many_same (λ i. not (in_use r (x * P + i))) (λ i. not (in_use (r
      ▷ set_live p j (eqb d 1)) (x * P + i))) P (λ i l. ap not (in_use_lem (x * P + i)))

  -- ks is the pool's chain then, virgins and listed are the plain heap's, and pools, homes and lists the view's
  pub inner : (ks : List ℕ) (virgins : ℕ → ℕ) (listed : ℕ → List ℕ)
      (pools : ℕ → ℕ → ℕ) (homes : ℕ → ℕ) (lists : ℕ → List ℕ) {m' : List ℕ}
      → ((y : ℕ) → y ≢ p → virgins y ≡ r.virgin y) → ((w y : ℕ) → y ≢ p → pools w y ≡ U.pool w y)
      → pools 7 p ≡ U.pool 7 p → ((y : ℕ) → y ≢ p → homes y ≡ U.home y)
      → ((c : ℕ) → c < 64 → lists c ≡ listed c) → BytesAfter p m m'
      → PoolSays al P (inside_view pools homes lists U) m' (inside_rows p j d ks virgins listed r) p
      → Says al A P (inside_view pools homes lists U) m' (put_map_bit p j d k) (inside_rows p j d ks virgins listed r)
  inner ks virgins listed pools homes lists v w s o x M Q =
      stepped L F lp refl T
      (record { heads = λ i. refl; pools = w; spare = s; arenas = λ u y _. refl; spares = λ u _. refl; bases = λ y _. refl })
      Q
      (let R = F.arenas (p / P) (arena_low A P p (in_range_lem A P F.range).2 lp) in
      record {
        open_is = R.open_is;
        mark_is = R.mark_is;
        mark_high = R.mark_high;
        free_is = R.free_is ∙ ap (λ (n : ℕ). if eqb (r.mark (p / P)) 0 then 0 else n) (sym (free_still (p / P)));
        base_is = R.base_is ∙ sym (base_same r (inside_rows p j d ks virgins listed r) P (p / P) refl (free_still (p / P)));
      })
      (record { listed = x; freed = F.lists.freed; usable = F.lists.usable; unused = F.lists.unused }) order
      (homes_same T (λ y l e. refl) (λ y l e. o y e ∙ (F.pools y l).home_is)) M j d lj ld refl
    where
      T : Aside p (p / P) r (inside_rows p j d ks virgins listed r)
      T = record { marks = λ y e. refl; classes = λ y e. refl; chains = λ y e. rw (ne_eqb y p e); virgins = v; lives = λ y e. rw (ne_eqb y p e) }

      order : Rising (free P (inside_rows p j d ks virgins listed r)) r.usable
      order = rising_same (free P r) (free P (inside_rows p j d ks virgins listed r)) r.usable (all_every free_still r.usable) F.order
