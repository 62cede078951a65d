-- Ask, where the class list has a pool: by a link to follow, by another block set ready, as its last spare block.
-- Assumes nothing.
use Rattle.std.specs.Prelude.{◌≡◌, ◌≢◌, false, ◌||◌, length, if◌then◌else◌}
use Rattle.std.proofs.Math.Path.{refl}
use Rattle.std.proofs.Common.{sym, ap, ◌∙◌, subst, inr, mul-le-mul_right, mul_comm, div-add-mod', mod-lt, arith}
use Rattle.std.proofs.Math.Bool.{true, or-true}
use mathlib.Core.List.{List, [], ◌∷◌}
use Prim.Native.Nat.{ℕ, suc, ◌+◌, ◌*◌, ◌-◌, ◌≤◌, ◌<◌}
use Rattle.std.proofs.Math.Decide.{ℕ_discrete, dec_lt}
use Rattle.std.proofs.Math.Dec.{eqb-suc-zero}
use borrow.Author.Tests.{eq-eqb, ne_eqb, le-leb, lt-leb, lt-ltb, le-ltb}
use Rattle.rules.specs.declared.AskPlan.{AskPlan}
use Rattle.rules.specs.declared.AskPlan.TheVariants.{Follow, Ready, Last}
use Rattle.rules.specs.Say.{◌▷◌}
use Rattle.rules.specs.Books.{Heap, at, put_map_bit, class_head, pool, none?, offset_of}
use Rattle.rules.specs.Blocks.{size_of, last_class, start_of, last_start, block_no, capacity, link_at}
use Rattle.rules.specs.Ask.{front_of, plan_ask, spare, from_listed, from_freeblock, no_link, after_ask, ask_answer}
use Rattle.books.specs.Starts.{start_is, number_is}
use Rattle.books.specs.Sizes.{Aligned, size_low, size_high, capacity_high}
use Rattle.sequences.specs.Update.{to, to_other, to_cong}
use Rattle.sequences.specs.Sequences.{erase}
use Rattle.sequences.specs.Families.{At}
use Rattle.sound.specs.Books.{View, Books, put_pool_lem, pool_may_leave, pool_leaves_lem, pool_to, home_to, listed_to}
use Rattle.sound.specs.Plain.{Plain, count, carved, set_chain, set_live, set_virgin, set_listed}
use Rattle.sequences.specs.Counting.{many_has}
use Rattle.sound.specs.Chains.{Blocks, room, taken, extended, block_ends}
use Rattle.sound.specs.Sound.{home, Sound}
use Rattle.sound.specs.Held.{Says, Held, held, sound, listed_is, home_listed, home_full, InClassOf, classed}
use Rattle.sound.specs.Step.{BytesAfter, link_after, no_bytes}
use Rattle.sound.specs.Paths.{quiet_same, quiet_link, hand_out_lem, grows_same, Asked, asked, count_on, inside_rows, inside_view, inner}

-- a list whose head is a link to x goes on from x
pub front_of_lem : {l x most : ℕ} → l ≡ suc x → x < most → (front : ℕ → AskPlan) (otherwise : AskPlan)
    → front_of l most front otherwise ≡ front x
front_of_lem {l} {x} {most} e u front otherwise = let z : suc x - 1 ≡ x = omega arith in rw (e, eqb-suc-zero x, le-leb (suc x) most u, z)

-- past the last block of a pool no other fits
pub past_last : (s : ℕ) → 8 ≤ s → 4048 < s * capacity s + s
past_last s l = omega (arith, div-add-mod' 4048 s, mod-lt 4048 {m = s} (omega arith), mul_comm s (capacity s))

-- ---- pool p is the front of its class's list
module _ {al A P p : ℕ} {h : Heap} {r : Plain} {ps : List ℕ} (L : Aligned al)
    (H : Held al A P h r) (lc : r.class p < 64) (lst : r.listed (r.class p) ≡ p ∷ ps) where
  open H use {view as U, books as K, says as F}

  abbrev c : ℕ
  c = r.class p

  abbrev s : ℕ
  s = size_of al (r.class p)

  abbrev b : List ℕ
  b = h.books

  row_is : U.listed c ≡ p ∷ ps
  row_is = F.lists.listed c lc ∙ lst

  member : At (A * P) U.home (class_head c) p
  member = (rw row_is at (K.listed.members c lc)).0

  lp : p < A * P
  lp = member.low

  -- it has live and spare blocks
  counts : (1 ≤ count r p) × (count r p < capacity s) × (r.class p ≡ c)
  counts = listed_is al P r p c (sym (F.pools p lp).home_is ∙ member.is) lc

  used_p : (carved P r p ≡ true) × (r.class p ≤ last_class al)
  used_p = let t = many_has (r.live p) 512 counts.0 in (F.pools p lp).used t.number t.yes

  I : InClassOf al U h.memory r p
  I = classed ((F.pools p lp).rule used_p.0) lc

  s_low : 8 ≤ s
  s_low = size_low L c I.class_low

  cap_high : capacity s ≤ 506
  cap_high = capacity_high L c I.class_low

  -- the words that the rules read
  head_is : at b (class_head c) ≡ suc p
  head_is = (rw row_is at (K.listed.row c lc).row.walk).0

  class_is : pool A b 4 p ≡ c
  class_is = K.pools 4 p (omega arith) lp ∙ (F.pools p lp).class_is

  count_is : pool A b 0 p ≡ count r p
  count_is = K.pools 0 p (omega arith) lp ∙ (F.pools p lp).count_is

  maxnextoffset_is : pool A b 6 p ≡ last_start s
  maxnextoffset_is = K.pools 6 p (omega arith) lp ∙ I.maxnextoffset_is

  next_is : pool A b 5 p ≡ start_of s (r.virgin p)
  next_is = K.pools 5 p (omega arith) lp ∙ I.blocks.next_is

  -- a block that is not live is spare
  spare_is : (j : ℕ) → j < capacity s → r.live p j ≡ false → spare al A P h c p (start_of s j) ≡ true
  spare_is j l d =
      rw (start_is s j l, number_is s j (omega (arith, s_low)), F.bits p j lp (omega (arith, cap_high)), d)

  -- the block k is handed out, and ks is the chain behind it
  module _ (k : ℕ) (ks : List ℕ) (chn : r.chain p ≡ k ∷ ks) where
    B : Blocks s p h.memory (U.pool 1 p) (U.pool 5 p) (r.live p) (k ∷ ks) (r.virgin p)
    B = rw chn at I.blocks

    free_is : pool A b 1 p ≡ start_of s k
    free_is = K.pools 1 p (omega arith) lp ∙ B.chained.0

    k_low : k < capacity s
    k_low = omega (arith, B.below.0, B.fits)

    k_dead : r.live p k ≡ false
    k_dead = B.either k B.below.0 ∙ rw (eq-eqb k k refl)

    room_is : count r p + suc (length ks) ≡ r.virgin p
    room_is = room B (omega (arith, cap_high))

    count_after : count (r ▷ set_live p k true) p ≡ suc (count r p)
    count_after = count_on r p k k_dead (omega (arith, k_low, cap_high))

    -- the link in it
    abbrev link : ℕ
    link = link_at h.memory (offset_of p (start_of s k))

    -- the tests up to that link
    listed_first : (q : AskPlan) → (if none? link then no_link al A P h c p else Follow p (start_of s k) link) ≡ q
        → (none? link || spare al A P h c p link) ≡ true → plan_ask al A P h c ≡ q
    unfolding plan_ask from_listed from_freeblock
    listed_first q e f =
        front_of_lem head_is lp (from_listed al A P h c) _ ∙ rw (
          class_is,
          eq-eqb c c refl,
          maxnextoffset_is,
          eq-eqb (last_start s) (last_start s) refl,
          le-leb (pool A b 0 p) 505 (omega (arith, count_is, counts, cap_high)),
          free_is,
          spare_is k k_low k_dead,
          f,
        ) e

    -- what is said after each of the three paths: ks' is the chain then, virgins and listed are the plain heap's, and
    -- pools, homes and lists the view's
    served : (ks' : List ℕ) (virgins : ℕ → ℕ) (listed : ℕ → List ℕ)
        (pools : ℕ → ℕ → ℕ) (homes : ℕ → ℕ) (lists : ℕ → List ℕ) {m' : List ℕ}
        → ((y : ℕ) → y ≢ p → virgins y ≡ r.virgin y) → ((w y : ℕ) → y ≢ p → pools w y ≡ U.pool w y)
        → ((y : ℕ) → y ≢ p → homes y ≡ U.home y)
        → pools 0 p ≡ pool A b 0 p + 1
        → (pools 4 p ≡ U.pool 4 p) × (pools 6 p ≡ U.pool 6 p) × (pools 7 p ≡ U.pool 7 p)
        → Blocks s p m' (pools 1 p) (pools 5 p) (to k true (r.live p)) ks' (virgins p)
        → (suc (count r p) < capacity s → 1 ≤ length ks')
        → homes p ≡ home al P (inside_rows p k 1 ks' virgins listed r) p → ((i : ℕ) → i < 64 → lists i ≡ listed i)
        → BytesAfter p h.memory m'
        → Says al A P (inside_view pools homes lists U) m'
        (put_map_bit p (block_no s (start_of s k)) 1 h.map) (inside_rows p k 1 ks' virgins listed r)
    served ks' virgins listed pools homes lists v w o e₀ e C one' hm x M =
        rw (number_is s k (omega (arith, s_low)))
        (inner L F lp k 1 (omega (arith, k_low, cap_high)) (omega arith) counts.0
        (omega (arith, count_after)) ks' virgins listed pools homes lists v w e.2 o x M
        (record {
          count_is = e₀ ∙ omega (arith, count_is, count_after);
          class_is = e.0 ∙ (F.pools p lp).class_is;
          used = λ _ _. used_p;
          rule = λ _. inr (rw (count_after, eq-eqb p p refl, e.1)
              (record { class_low = I.class_low; maxnextoffset_is = I.maxnextoffset_is; blocks = C; two = λ z. absurd (omega arith); one = one' }));
          home_is = hm;
        }))

    -- a pool with spare blocks left stays on its list
    stays_home : (ks' : List ℕ) (virgins : ℕ → ℕ) → suc (count r p) < capacity s
        → U.home p ≡ home al P (inside_rows p k 1 ks' virgins r.listed r) p
    stays_home ks' virgins l =
        member.is ∙ sym (home_listed al P (inside_rows p k 1 ks' virgins r.listed r) p (omega (arith, count_after)) (omega (arith, count_after)))

    -- ---- "the block at freeblock is the answer, freeblock becomes its link"
    ask_follow : (j : ℕ) (js : List ℕ) → ks ≡ j ∷ js → Asked al A P h r c
    unfolding after_ask ask_answer
    ask_follow j js more =
        asked (Follow p (start_of s k) (start_of s j)) r'
        (listed_first _ (rw (link_is, ne_eqb (start_of s j) 0 (omega arith))) (rw (link_is, ne_eqb (start_of s j) 0 (omega arith), spare_is j j_low j_dead)))
        (rw (lst, chn, more)) (rw (chn, more))
        (sound {h = h'} L K' F') (quiet_same {r = r'}) (λ _. hand_out_lem p k lp k_low refl k_dead refl refl) (grows_same refl refl)
      where
        r' : Plain
        r' = r ▷ set_chain p (j ∷ js) ▷ set_live p k true

        h' : Heap
        h' = after_ask al A P c (Follow p (start_of s k) (start_of s j)) h

        C : Blocks s p h.memory (U.pool 1 p) (U.pool 5 p) (r.live p) (k ∷ j ∷ js) (r.virgin p)
        C = rw more at B

        link_is : link ≡ start_of s j
        link_is = C.chained.1.0

        j_low : j < capacity s
        j_low = omega (arith, C.below.1.0, C.fits)

        j_dead : r.live p j ≡ false
        j_dead = C.either j C.below.1.0 ∙ rw (eq-eqb j j refl, or-true)

        U' : View
        U' = U ▷ pool_to 0 p (pool A b 0 p + 1) ▷ pool_to 1 p (start_of s j)

        K' : Books A (A * P) h'.books U'
        K' = put_pool_lem (put_pool_lem K 0 p (pool A b 0 p + 1) (omega arith) lp) 1 p (start_of s j) (omega arith) lp

        F' : Says al A P U' h.memory h'.map r'
        F' =
            served (j ∷ js) r.virgin r.listed U'.pool U.home U.listed
            (λ y d. refl) (λ w y d. rw (ne_eqb y p d)) (λ y d. refl) (rw (eq-eqb p p refl))
            (rw (eq-eqb p p refl) (refl, refl, refl)) (rw (eq-eqb p p refl, ← link_is) (rw more at (taken k B))) (λ _. omega arith)
            (stays_home (j ∷ js) r.virgin (omega (arith, room_is, ap length more, B.fits))) F.lists.listed (no_bytes p h.memory)

    -- the chain ends with block k
    module _ (none : ks ≡ []) where
      no_more : link ≡ 0
      no_more = (rw none at B).chained.1

      full_room : suc (count r p) ≡ r.virgin p
      full_room = omega (arith, room_is, ap length none)

      handed : Blocks s p h.memory 0 (U.pool 5 p) (to k true (r.live p)) [] (r.virgin p)
      handed = rw no_more at (rw none at (taken k B))

      -- ---- "If that is 0 and nextoffset ≤ maxnextoffset, freeblock becomes nextoffset, .. and the link in the new
      -- freeblock is written 0"
      ask_ready : r.virgin p < capacity s → Asked al A P h r c
      unfolding after_ask no_link ask_answer
      ask_ready more =
          asked (Ready p (start_of s k) (start_of s v)) r'
          (listed_first _ (rw (no_more, next_is, maxnextoffset_is, free_is, le-leb (start_of s v) (last_start s) (omega (arith, ends)), spare_is v more v_dead))
          (rw no_more))
          (rw (lst, chn, none, lt-ltb (r.virgin p) (capacity s) more)) (rw chn)
          (sound {h = h'} L K' F') (quiet_link L F' p v 0 I.class_low more still_dead) (λ _. hand_out_lem p k lp k_low refl k_dead refl refl)
          (record { carved_still = λ y l e. e; ready_still = λ y e f. one_more y (ℕ_discrete y p) })
        where
          v : ℕ
          v = r.virgin p

          r' : Plain
          r' = r ▷ set_chain p (r.virgin p ∷ []) ▷ set_live p k true ▷ set_virgin p (r.virgin p + 1)

          h' : Heap
          h' = after_ask al A P c (Ready p (start_of s k) (start_of s (r.virgin p))) h

          one_more : (y : ℕ) → Dec (y ≡ p) → r.virgin y ≤ r'.virgin y
          one_more y (yes q) = rw (eq-eqb y p q, q) (omega arith)
          one_more y (no q) = rw (ne_eqb y p q) (omega arith)

          ends : start_of s (r.virgin p) + s ≤ 4096
          ends = block_ends s (r.virgin p) (suc (r.virgin p)) (omega arith) more

          v_dead : r.live p (r.virgin p) ≡ false
          v_dead = I.blocks.rest (r.virgin p) (omega arith)

          still_dead : r'.live p (r.virgin p) ≡ false
          still_dead = rw (eq-eqb p p refl) (to_other k true (r.live p) (r.virgin p) (omega (arith, B.below.0)) ∙ v_dead)

          U' : View
          U' = U ▷ pool_to 0 p (pool A b 0 p + 1) ▷ pool_to 1 p (start_of s (r.virgin p)) ▷ pool_to 5 p (start_of s (r.virgin p) + s)

          K' : Books A (A * P) h'.books U'
          K' =
              put_pool_lem (put_pool_lem (put_pool_lem K 0 p (pool A b 0 p + 1) (omega arith) lp) 1 p (start_of s (r.virgin p)) (omega arith) lp) 5 p
              (start_of s (r.virgin p) + s) (omega arith) lp

          readied : Blocks s p h'.memory (start_of s (r.virgin p)) (start_of s (r.virgin p) + s)
              (to k true (r.live p)) (r.virgin p ∷ []) (r.virgin p + 1)
          readied = extended (rw I.blocks.next_is at handed) (omega (arith, s_low)) (omega (arith, F.bytes, lp)) more

          F' : Says al A P U' h'.memory h'.map r'
          F' =
              served (r.virgin p ∷ []) r'.virgin r.listed U'.pool U.home U.listed
              (λ y d. rw (ne_eqb y p d)) (λ w y d. rw (ne_eqb y p d)) (λ y d. refl) (rw (eq-eqb p p refl))
              (rw (eq-eqb p p refl) (refl, refl, refl)) (rw (eq-eqb p p refl) readied) (λ _. omega arith)
              (stays_home (r.virgin p ∷ []) r'.virgin (omega (arith, full_room))) F.lists.listed
              (link_after h.memory p (start_of s (r.virgin p)) 0 (omega (arith, ends, s_low)))

      -- ---- "If it is 0 and there is no such room, the pool is full: it leaves the list"
      ask_last : capacity s ≤ r.virgin p → Asked al A P h r c
      unfolding after_ask no_link ask_answer
      ask_last full =
          asked (Last p (start_of s k)) r'
          (listed_first _ (rw (
            no_more,
            next_is,
            maxnextoffset_is,
            free_is,
            lt-leb (start_of s (r.virgin p)) (last_start s) past,
            pool_may_leave K c p lc lp member.is,
          )) (rw no_more))
          (rw (lst, chn, none, le-ltb (r.virgin p) (capacity s) full)) (rw chn)
          (sound {h = h'} L K' F') (quiet_same {r = r'}) (λ _. hand_out_lem p k lp k_low refl k_dead refl refl) (grows_same refl refl)
        where
          r' : Plain
          r' = r ▷ set_chain p [] ▷ set_live p k true ▷ set_listed c (erase p (r.listed c))

          h' : Heap
          h' = after_ask al A P c (Last p (start_of s k)) h

          past : last_start s < start_of s (r.virgin p)
          past = omega (arith, past_last s s_low, mul-le-mul_right s full, mul_comm s (capacity s), size_high L c I.class_low)

          U' : View
          U' = U ▷ pool_to 0 p (pool A b 0 p + 1) ▷ pool_to 1 p 0 ▷ home_to p 0 ▷ listed_to c (erase p (U.listed c))

          K' : Books A (A * P) h'.books U'
          K' = pool_leaves_lem (put_pool_lem (put_pool_lem K 0 p (pool A b 0 p + 1) (omega arith) lp) 1 p 0 (omega arith) lp) c p lc lp member.is

          full_home : home al P r' p ≡ 0
          full_home = home_full al P r' p (omega (arith, count_after)) (omega (arith, count_after, full_room))

          F' : Says al A P U' h.memory h'.map r'
          F' =
              served [] r.virgin r'.listed U'.pool U'.home U'.listed (λ y d. refl)
              (λ w y d. rw (ne_eqb y p d)) (λ y d. rw (ne_eqb y p d)) (rw (eq-eqb p p refl))
              (rw (eq-eqb p p refl) (refl, refl, refl)) (rw (eq-eqb p p refl) handed)
              (λ z. absurd (omega (arith, full_room))) (rw (eq-eqb p p refl) (sym full_home))
              (λ i l. to_cong c U.listed r.listed (ap (erase p) (F.lists.listed c lc)) i (F.lists.listed i l)) (no_bytes p h.memory)

  -- one of the three
  ask_front : Asked al A P h r c
  ask_front = go (r.chain p) refl
    where
      go : (xs : List ℕ) → r.chain p ≡ xs → Asked al A P h r c
      go [] e = absurd (omega (arith, I.one counts.1, ap length e))
      go (k ∷ j ∷ js) e = ask_follow k (j ∷ js) e j js refl
      go (k ∷ []) e = end (dec_lt (r.virgin p) (capacity s))
        where
          end : Dec (r.virgin p < capacity s) → Asked al A P h r c
          end (yes q) = ask_ready k [] e refl q
          end (no q) = ask_last k [] e refl (omega arith)

-- ---- every ask that finds its class list not empty
pub ask_listed : {al A P c p : ℕ} {h : Heap} {r : Plain} {ps : List ℕ} → Aligned al → Sound al A P h r → c < 64
    → r.listed c ≡ p ∷ ps → Asked al A P h r c
ask_listed {al} {A} {P} {c} {p} {h} {r} {ps} L S lc lst =
    subst (λ (x : ℕ). Asked al A P h r x) is_c (ask_front L (held S) (rw is_c lc) (ap r.listed is_c ∙ lst))
  where
    is_c : r.class p ≡ c
    is_c = (listed_is al P r p c (rw lst at (S.rule6.listed.members c lc)).0.is lc).2
