-- Give back the last live block of a pool: its arena keeps its place, moves back in the usable list, becomes usable, or
-- is released. And so every give-back of a live block.
-- Assumes nothing.
use Rattle.std.specs.Prelude.{◌≡◌, ◌≢◌, Bool, true, false, not, eqb, replicate, if◌then◌else◌}
use Rattle.std.proofs.Math.Path.{refl}
use Rattle.std.proofs.Common.{sym, ap, ◌∙◌, subst, inr, true≢false, div-add-mod', mod-lt, arith}
use Rattle.std.proofs.Math.Logic.{Ne-symm as flip}
use mathlib.Core.List.{List, [], ◌∷◌, ◌++◌, append_assoc}
use Prim.Native.Nat.{ℕ, suc, ◌+◌, ◌*◌, ◌-◌, ◌/◌, ◌%◌, ◌≤◌, ◌<◌}
use Rattle.std.proofs.Math.Decide.{ℕ_discrete, dec_le}
use Rattle.std.proofs.lemmas.List.Edits.{sets}
use Rattle.std.proofs.lemmas.List.{set-get_or}
use borrow.Author.Tests.{eq-eqb, ne_eqb, le-leb, lt-ltb, le-ltb, ltb-true, ltb-false, not-true}
use Rattle.rules.specs.declared.BackPlan.{BackPlan}
use Rattle.rules.specs.declared.BackPlan.TheVariants.{Empties, Moves, Returns, Releases}
use Rattle.rules.specs.Say.{◌▷◌}
use Rattle.rules.specs.Books.{
  Heap,
  at,
  put,
  put_map_bit,
  usable_head,
  unused_head,
  class_head,
  freed_head,
  arena_next,
  arena_word,
  arena,
  freeblock,
  pool_word,
  pool,
}
use Rattle.rules.specs.Blocks.{size_of, start_of, block_no}
use Rattle.rules.specs.Lists.{leave, join, may_leave, may_join, arena_links, pool_links}
use Rattle.rules.specs.GiveBack.{◌⇛◌, walk, plan_back, emptying, after_back}
use Rattle.books.specs.Starts.{start_is, number_is}
use Rattle.books.specs.Known.{in_range_lem}
use Rattle.books.specs.Sizes.{Aligned, capacity_high, capacity_low}
use Rattle.sequences.specs.Update.{to, to_same, to_other, to_cong}
use Rattle.sequences.specs.Sequences.{
  All,
  Not,
  Once,
  Split,
  split,
  erase,
  erase_is,
  after,
  after_is,
  all_two,
  all_parts,
  once_parts,
  once_drop,
  once_gone,
}
use Rattle.sequences.specs.Rising.{following, Rising, following_is, rising_parts, rising_drop, rising_put, rising_after}
use Rattle.sequences.specs.Families.{At, head_link, stack_link, stranger}
use Rattle.sound.specs.Books.{
  View,
  Books,
  put_arena,
  pool_may_leave,
  pool_leaves_lem,
  freed_comes,
  freed_cleared,
  arena_may_leave,
  arena_leaves_lem,
  arena_joins_lem,
  arena_goes_in,
  arena_to,
  home_to,
  base_to,
  listed_to,
  freed_to,
  arenas_to,
  freed_none,
  put_zero,
}
use Rattle.sound.specs.Plain.{
  Plain,
  count,
  in_use,
  carved,
  free,
  set_chain,
  set_live,
  set_listed,
  set_freed,
  set_usable,
  set_unused,
  set_mark,
  past,
  plan_back as plainBack,
}
use Rattle.sequences.specs.Counting.{many_more, many_le, all_many, none_many}
use Rattle.sound.specs.Chains.{Blocks, live_below}
use Rattle.sound.specs.Sound.{home, Sound}
use Rattle.sound.specs.Held.{
  Says,
  held,
  sound,
  in_class,
  freed_is,
  use_class,
  usable_word,
  usable_row,
  usable_members,
  usable_in,
  arena_low,
  home_listed,
  home_freed,
  home_away,
  base_usable,
  base_spent,
  base_unused,
}
use Rattle.sound.specs.Step.{Aside, HomesAfter, count_same, free_same, order_aside, home_same, homes_same, stepped}
use Rattle.sound.specs.Walked.{past_ends, walk_is}
use Rattle.sound.specs.Paths.{quiet_link, Backed, backed}
use Rattle.sound.specs.GiveBack.{
  Given,
  I,
  s_low,
  c_low,
  j_low,
  j_small,
  some,
  count_is,
  free_is,
  tested,
  b₂,
  m₂,
  U₂,
  K₂,
  bytes₂,
  count₂,
  count_after,
  dead_after,
  in_class₂,
  back_stays_lem,
  back_joins_lem,
}

-- ---- block j is the last live one of pool p, which has a spare one
module _ {al A P p j i : ℕ} {h : Heap} {r : Plain} {is : List ℕ}
    (G : Given al A P h r p j) (chn : r.chain p ≡ i ∷ is) (last : count r p ≡ 1) where
  open G use {aligned as L, inside as lp, on}
  open G.held use {view as U, books as K, says as F}

  abbrev a : ℕ
  a = p / P

  abbrev c : ℕ
  c = r.class p

  abbrev b : List ℕ
  b = h.books

  abbrev f : ℕ
  f = start_of (size_of al (r.class p)) j

  C : Blocks (size_of al c) p h.memory (U.pool 1 p) (U.pool 5 p) (r.live p) (i ∷ is) (r.virgin p)
  C = rw chn at (I G).blocks

  pools_low : 2 ≤ P
  pools_low = (in_range_lem A P F.range).2

  la : a < A
  la = arena_low A P p pools_low lp

  carved_p : carved P r p ≡ true
  carved_p = ((F.pools p lp).used j on).0

  marked : r.mark a ≢ 0
  marked z = absurd (omega (arith, ltb-true (p % P) (r.mark a) carved_p))

  home_p : U.home p ≡ class_head c
  home_p = (F.pools p lp).home_is ∙ home_listed al P r p (some G) (omega (arith, capacity_low L c (I G).class_low))

  free_said : U.arena 2 a ≡ free P r a
  free_said = (F.arenas a la).free_is ∙ rw (ne_eqb (r.mark a) 0 marked)

  free_word_lem : arena b 2 a ≡ free P r a
  free_word_lem = K.arenas 2 a (omega arith) la ∙ free_said

  -- ---- the pool has no live block afterwards, and its arena one more free pool
  abbrev gone : Plain
  gone = r ▷ set_live p j false

  now_none : count gone p ≡ 0
  now_none = omega (arith, count_after G, last)

  all_dead : (x : ℕ) → gone.live p x ≡ false
  all_dead x = go (dec_le 512 x)
    where
      go : Dec (512 ≤ x) → gone.live p x ≡ false
      go (yes q) =
          rw (eq-eqb p p refl) (to_other j false (r.live p) x (omega (arith, j_small G))
          ∙ (I G).blocks.rest x (omega (arith, (I G).blocks.fits, capacity_high L c (I G).class_low)))
      go (no q) = none_many (gone.live p) 512 now_none x (omega arith)

  one_more : free P gone a ≡ suc (free P r a)
  one_more =
      many_more (λ x. not (in_use r (a * P + x))) (λ x. not (in_use gone (a * P + x))) (p % P) P (mod-lt p (omega (arith, pools_low)))
      (rw (at_p, lt-ltb 0 (count r p) (omega arith))) (rw (at_p, le-ltb 0 (count gone p) (omega (arith, now_none))))
      (λ x d. rw (ne_eqb (a * P + x) p (λ e. d (omega (arith, at_p)))))
    where
      at_p : a * P + p % P ≡ p
      at_p = div-add-mod' p P

  low_free : free P r a ≤ P - 1
  low_free = omega (arith, one_more, many_le (λ x. not (in_use gone (a * P + x))) P)

  -- ---- the tests of the path that empties a pool
  emptying_is : (q : BackPlan)
      → (if eqb (free P r a + 1) P then may_leave A arena_links a b ⇛ may_join A unused_head b ⇛ Releases
      else if eqb (free P r a + 1) 1 then may_join A usable_head b ⇛ Returns
      else walk A b a A (arena b arena_next a) 0) ≡ q
      → plan_back al A P b c p ≡ q
  unfolding emptying
  emptying_is q e =
      tested G q (start_of (size_of al c) i) (free_is G ∙ C.chained.0)
      (rw (ne_eqb (start_of (size_of al c) i) 0 (omega arith), start_is (size_of al c) i (omega (arith, C.below.0, C.fits))))
      (rw (
        ne_eqb (start_of (size_of al c) i) 0 (omega arith),
        count_is G,
        last,
        pool_may_leave K c p (c_low G) lp home_p,
        le-leb (arena b freed_head a) (A * P) (stack_link K.freed a la),
        le-leb (arena b 2 a) (P - 1) (rw free_word_lem low_free),
        free_word_lem,
      ) e)

  -- ---- ".. it leaves its class list and goes to the front of its arena's freed pools, .. and free pools rises by 1."
  -- b₃ are the books once it has left, b₄ once it is among the freed, b₅ with the free pools; U₄ and U₅ are what they
  -- say
  abbrev b₃ : List ℕ
  b₃ = leave (pool_links A) (class_head c) p (b₂ G)

  abbrev b₄ : List ℕ
  b₄ =
      b₃ ▷ put (pool_word A 2 p) (at b₃ (arena_word freed_head a)) ▷ put (pool_word A 3 p) 0
      ▷ put (arena_word freed_head a) (p + 1)

  abbrev b₅ : List ℕ
  b₅ = put (arena_word 2 a) (at b₄ (arena_word 2 a) + 1) b₄

  abbrev U₄ : View
  U₄ =
      U₂ G ▷ home_to p 0 ▷ listed_to c (erase p (U.listed c)) ▷ home_to p (arena_word freed_head a)
      ▷ freed_to a (p ∷ U.freed a)

  abbrev U₅ : View
  U₅ = U₄ ▷ arena_to 2 a (at b₄ (arena_word 2 a) + 1)

  K₄ : Books A (A * P) b₄ U₄
  K₄ = freed_comes (pool_leaves_lem (K₂ G) c p (c_low G) lp home_p) a la p lp (omega (arith, to_same p 0 U.home p refl))

  K₅ : Books A (A * P) b₅ U₅
  K₅ = put_arena K₄ 2 a (at b₄ (arena_word 2 a) + 1) (omega arith) la

  home₅ : (y : ℕ) → y ≢ p → U₅.home y ≡ U.home y
  home₅ y d = rw (ne_eqb y p d)

  free₅ : U₅.arena 2 a ≡ free P gone a
  free₅ = let q : U₅.arena 2 a ≡ at b₄ (arena_word 2 a) + 1 = rw (eq-eqb a a refl) in omega (arith, K₄.arenas 2 a (omega arith) la ∙ free_said, one_more)

  -- the lists of classes and of freed pools
  lists₅ : (x : ℕ) → x < 64 → U₅.listed x ≡ to c (erase p (r.listed c)) r.listed x
  lists₅ x l = to_cong c U.listed r.listed (ap (erase p) (F.lists.listed c (c_low G))) x (F.lists.listed x l)

  freed₅ : (x : ℕ) → x < A → U₅.freed x ≡ to a (p ∷ r.freed a) r.freed x
  freed₅ x l = to_cong a U.freed r.freed (ap (λ (xs : List ℕ). p ∷ xs) (F.lists.freed a la)) x (F.lists.freed x l)

  -- ---- the arena stays open: the plain heap with the usable arenas us
  abbrev emptied : List ℕ → Plain
  emptied us =
      r ▷ set_chain p (j ∷ r.chain p) ▷ set_live p j false ▷ set_listed c (erase p (r.listed c))
      ▷ set_freed a (p ∷ r.freed a) ▷ set_usable us

  aside : (us : List ℕ) → Aside p a r (emptied us)
  aside us =
      record { marks = λ x d. refl; classes = λ y d. refl; chains = λ y d. rw (ne_eqb y p d); virgins = λ y d. refl; lives = λ y d. rw (ne_eqb y p d) }

  open_says : (us : List ℕ) (bases : ℕ → ℕ) (arenas : ℕ → List ℕ) → ((x : ℕ) → x ≢ a → bases x ≡ U.base x)
      → bases a ≡ 2 → arenas 2 ≡ us → arenas 3 ≡ r.unused → Rising (free P gone) us
      → Says al A P (record {
        head = U.head;
        pool = U₅.pool;
        arena = U₅.arena;
        home = U₅.home;
        base = bases;
        listed = U₅.listed;
        freed = U₅.freed;
        arenas = arenas;
      })
      (m₂ G) (put_map_bit p (block_no (size_of al c) f) 0 h.map) (emptied us)
  open_says us bases arenas o base_a usable unused order =
      rw (number_is (size_of al c) j (omega (arith, s_low G)))
      (stepped L F lp refl (aside us)
      (record {
        heads = λ x. refl;
        pools = λ w y d. rw (ne_eqb y p d);
        spare = rw (eq-eqb p p refl);
        arenas = λ w x d. rw (ne_eqb x a d);
        spares = λ w u. rw (eq-eqb a a refl, ne_eqb w 2 (omega arith));
        bases = o;
      })
      (record {
        count_is = count₂ G;
        class_is = rw (eq-eqb p p refl) (F.pools p lp).class_is;
        used = λ x e. absurd (true≢false (sym e ∙ all_dead x));
        rule = λ _. inr (in_class₂ G);
        home_is = to_same p (arena_word freed_head a) (to p 0 U.home) p refl ∙ sym (home_freed al P (emptied us) p now_none carved_p);
      })
      (record {
        open_is = rw (eq-eqb a a refl) (F.arenas a la).open_is;
        mark_is = rw (eq-eqb a a refl) (F.arenas a la).mark_is;
        mark_high = (F.arenas a la).mark_high;
        free_is = free₅ ∙ sym (rw (ne_eqb (r.mark a) 0 marked));
        base_is = base_a ∙ sym (base_usable P (emptied us) a marked (λ z. absurd (omega (arith, one_more))));
      })
      (record { listed = lists₅; freed = freed₅; usable = usable; unused = unused }) order
      (homes_same (aside us) (λ y l d. refl) (λ y l d. home₅ y d ∙ (F.pools y l).home_is)) (bytes₂ G) j 0 (j_small G) (omega arith) refl)

  -- the other arenas have as many free pools as before
  others_free : (y : ℕ) → y ≢ a → free P gone y ≡ free P r y
  others_free y d = free_same P y (aside r.usable) refl d

  -- ---- the arena had free pools
  module _ (some : free P r a ≢ 0) where
    usable_a : U.base a ≡ usable_head
    usable_a = (F.arenas a la).base_is ∙ base_usable P r a marked some

    -- its place in the usable list, which has each once and rises
    here : Split a r.usable
    here = split a r.usable (usable_in L K F a la marked some)

    open here use {pre as before, post as behind}

    once : Once (before ++ a ∷ behind)
    once = rw here.is at (usable_row L K F).row.once

    rises : Rising (free P r) (before ++ a ∷ behind)
    rises = rw here.is at F.order

    apart : Not a behind
    apart = (once_parts before (a ∷ behind) once).2.0

    -- without it
    erased : erase a r.usable ≡ before ++ behind
    erased = erase_is a r.usable here (usable_row L K F).row.once

    others_rise : Rising (free P gone) (before ++ behind)
    others_rise =
        order_aside P (before ++ behind) (aside r.usable) refl (once_gone a before behind once)
        (rising_drop (free P r) a before behind rises)

    -- it leaves
    abbrev U₆ : View
    U₆ = U₅ ▷ base_to a 0 ▷ arenas_to 2 (erase a (U.arenas 2))

    K₆ : Books A (A * P) (leave arena_links usable_head a b₅) U₆
    K₆ = arena_leaves_lem K₅ 2 a (omega arith) la usable_a

    -- those before it have no more free pools than it has then; and arenas that have no fewer
    no_more : All (λ y. free P gone y ≤ free P gone a) before
    no_more =
        all_two {S = λ y. free P gone y ≤ free P gone a}
        (λ y (d : Not y (a ∷ behind)) (l : All (λ z. free P r y ≤ free P r z) (a ∷ behind)). omega (arith, one_more, others_free y d.0, l.0))
        before (once_parts before (a ∷ behind) once).1 (rising_parts (free P r) before (a ∷ behind) rises).1

    no_fewer : (xs : List ℕ) → Not a xs → All (λ y. free P r a + 1 ≤ free P r y) xs
        → All (λ y. free P gone a ≤ free P gone y) xs
    no_fewer =
        all_two {S = λ y. free P gone a ≤ free P gone y}
        (λ y (d : a ≢ y) (l : free P r a + 1 ≤ free P r y). omega (arith, one_more, others_free y (flip d)))

    -- ---- and it is not released: the path is the walk's, q
    module _ (not-all : free P r a + 1 ≢ P) (q : BackPlan) (ends : past P r (free P r a + 1) behind Empties ≡ q) where
      rules_walk : plan_back al A P b c p ≡ q
      rules_walk = emptying_is q (rw (ne_eqb (free P r a + 1) P not-all, ne_eqb (free P r a + 1) 1 (omega arith)) (walk_is L G.held a here ∙ ends))

      plain_walk : plainBack P r p j ≡ q
      plain_walk =
          let follows : following a r.usable ≡ behind = ap (following a) here.is ∙ following_is a before behind once in
          rw (chn, last, ne_eqb (free P r a + 1) P not-all, ne_eqb (free P r a) 0 some, follows) ends

    -- ---- "passing none writes nothing"
    back_empties : free P r a + 1 ≢ P → All (λ y. free P r a + 1 ≤ free P r y) behind
        → past P r (free P r a + 1) behind Empties ≡ Empties → Backed al A P h r p j
    unfolding after_back
    back_empties not-all more ends =
        backed Empties (emptied r.usable) (rules_walk not-all Empties ends) (plain_walk not-all Empties ends) refl
        (sound {h = h'} L K₅ F') (quiet_link L F' p j (pool A b freeblock p) (I G).class_low (j_low G) (dead_after G))
      where
        h' : Heap
        h' = after_back al A P c p f Empties h

        F' : Says al A P U₅ (m₂ G) h'.map (emptied r.usable)
        F' =
            open_says r.usable U.base U.arenas (λ x d. refl) usable_a F.lists.usable F.lists.unused
            (rw here.is (rising_put (free P gone) a before behind no_more (no_fewer behind apart more) others_rise))

    -- ---- "otherwise it leaves the list and goes in after the last passed"
    back_moves : free P r a + 1 ≢ P → (q : ℕ) (s : Split q behind) → free P r q < free P r a + 1
        → All (λ y. free P r a + 1 ≤ free P r y) s.post
        → past P r (free P r a + 1) behind Empties ≡ Moves q → Backed al A P h r p j
    unfolding after_back
    back_moves not-all q s fewer more ends =
        backed (Moves q) (emptied us) (rules_walk not-all (Moves q) ends) (plain_walk not-all (Moves q) ends) refl
        (sound {h = h'} L K₇ F') (quiet_link L F' p j (pool A b freeblock p) (I G).class_low (j_low G) (dead_after G))
      where
        us : List ℕ
        us = after q a (erase a r.usable)

        h' : Heap
        h' = after_back al A P c p f (Moves q) h

        -- what holds of all that follow the arena holds of q, and of those that follow q
        from_q : (Q : ℕ → Type 0) → All Q behind → All Q (q ∷ s.post)
        from_q Q t = (all_parts Q s.pre (q ∷ s.post) (rw s.is at t)).1

        others : Not a (q ∷ s.post)
        others = from_q (λ y. a ≢ y) apart

        other : q ≢ a
        other = flip others.0

        passed : At A U.base usable_head q
        passed =
            let t : All (At A U.base usable_head) (before ++ a ∷ behind) = rw here.is at (usable_members L K F) in
            (from_q (At A U.base usable_head) (all_parts (At A U.base usable_head) before (a ∷ behind) t).1.1).0

        U₇ : View
        U₇ = U₆ ▷ base_to a 2 ▷ arenas_to 2 (after q a (erase a (U.arenas 2)))

        K₇ : Books A (A * P) h'.books U₇
        K₇ = arena_goes_in K₆ 2 a (omega arith) la q passed.low (to_other a 0 U.base q other ∙ passed.is) (to_same a 0 U.base a refl)

        place_q : before ++ behind ≡ (before ++ s.pre) ++ q ∷ s.post
        place_q = ap (λ (l : List ℕ). before ++ l) s.is ∙ sym (append_assoc before s.pre (q ∷ s.post))

        rise : Rising (free P gone) us
        rise =
            rw (erased, place_q, after_is q a (before ++ s.pre) s.post (rw place_q at (once_drop a before behind once)))
            (rising_after (free P gone) q a (before ++ s.pre) s.post (omega (arith, one_more, others_free q other))
            (no_fewer s.post others.1 more) (rw place_q at others_rise))

        F' : Says al A P U₇ (m₂ G) h'.map (emptied us)
        F' =
            open_says us U₇.base U₇.arenas (λ x d. rw (ne_eqb x a d)) (rw (eq-eqb a a refl))
            (ap (λ (xs : List ℕ). after q a (erase a xs)) F.lists.usable) F.lists.unused rise

    -- ---- it passes none, or q is the last that it passes
    back_walks : free P r a + 1 ≢ P → Backed al A P h r p j
    back_walks not-all =
        past_ends P r (free P r a + 1) behind Empties (Backed al A P h r p j)
        (rising_parts (free P r) before (a ∷ behind) rises).2.1 (back_empties not-all) (back_moves not-all)

  -- ---- "If free pools is now 1, the arena joins the usable list at the front."
  back_returns_lem : free P r a ≡ 0 → Backed al A P h r p j
  unfolding after_back
  back_returns_lem none =
      backed Returns (emptied (a ∷ r.usable))
      (emptying_is Returns (rw (none, ne_eqb (0 + 1) P (omega (arith, pools_low)), le-leb (at b usable_head) A (head_link K.lists 2 (omega arith)))))
      (rw (chn, last, none, ne_eqb (0 + 1) P (omega (arith, pools_low)))) refl
      (sound {h = h'} L K₆ F') (quiet_link L F' p j (pool A b freeblock p) (I G).class_low (j_low G) (dead_after G))
    where
      h' : Heap
      h' = after_back al A P c p f Returns h

      U₆ : View
      U₆ = U₅ ▷ base_to a 2 ▷ arenas_to 2 (a ∷ U.arenas 2)

      K₆ : Books A (A * P) h'.books U₆
      K₆ = arena_joins_lem K₅ 2 a (omega arith) la ((F.arenas a la).base_is ∙ base_spent P r a marked none)

      -- no usable arena has fewer than 1, and it was none of them
      off : Not a r.usable
      off =
          rw F.lists.usable at
          (stranger K.lists 2 a (omega arith) (λ e. absurd (omega (arith, (F.arenas a la).base_is ∙ base_spent P r a marked none))))

      rise : Rising (free P gone) (a ∷ r.usable)
      rise = (
        all_two {S = λ y. free P gone a ≤ free P gone y}
            (λ y (d : a ≢ y) (t : At A U.base 2 y). omega (arith, one_more, none, others_free y (flip d), (usable_word L K F y t).1))
            r.usable off (usable_members L K F),
        order_aside P r.usable (aside r.usable) refl off F.order,
      )

      F' : Says al A P U₆ (m₂ G) h'.map (emptied (a ∷ r.usable))
      F' =
          open_says (a ∷ r.usable) U₆.base U₆.arenas (λ x d. rw (ne_eqb x a d)) (rw (eq-eqb a a refl))
          (ap (λ (xs : List ℕ). a ∷ xs) F.lists.usable) F.lists.unused rise

  -- ---- "If free pools is now P, the arena leaves the usable list, its record becomes 0 except that it joins the
  -- unused list at the front"
  back_releases : free P r a + 1 ≡ P → Backed al A P h r p j
  unfolding after_back
  back_releases all =
      backed Releases r'
      (emptying_is Releases (rw (
        eq-eqb (free P r a + 1) P all,
        arena_may_leave K 2 a (omega arith) la (usable_a some),
        le-leb (at b unused_head) A (head_link K.lists 3 (omega arith)),
      )))
      (rw (chn, last, eq-eqb (free P r a + 1) P all)) refl
      (sound {h = h'} L K₈ F') (quiet_link L F' p j (pool A b freeblock p) (I G).class_low (j_low G) (dead_after G))
    where
      r' : Plain
      r' = emptied (erase a r.usable) ▷ set_unused (a ∷ r.unused) ▷ set_mark a 0 ▷ set_freed a []

      h' : Heap
      h' = after_back al A P c p f Releases h

      some : free P r a ≢ 0
      some z = absurd (omega (arith, pools_low))

      -- its record becomes 0
      b₇ : List ℕ
      b₇ = leave arena_links usable_head a b₅ ▷ put (arena_word 0 a) 0 ▷ put (arena_word 1 a) 0 ▷ put (arena_word 2 a) 0 ▷ put (arena_word 3 a) 0

      U₇ : View
      U₇ = U₆ some ▷ arena_to 0 a 0 ▷ arena_to 1 a 0 ▷ arena_to 2 a 0 ▷ freed_none a

      K₇ : Books A (A * P) b₇ U₇
      K₇ = freed_cleared (put_arena (put_arena (put_arena (K₆ some) 0 a 0 (omega arith) la) 1 a 0 (omega arith) la) 2 a 0 (omega arith) la) a la

      own_links : (arena b₇ 4 a ≡ 0) × (arena b₇ 5 a ≡ 0)
      own_links = K₇.spent a la (to_same a 0 U.base a refl)

      last_words_lem : (w : ℕ) → 6 ≤ w → w < 8 → at b₇ (arena_word w a) ≡ 0
      last_words_lem w u v =
          K₇.arenas w a (omega arith) la
          ∙ rw (eq-eqb a a refl, ne_eqb w 0 (omega arith), ne_eqb w 1 (omega arith), ne_eqb w 2 (omega arith)) (F.arena_zeros w a u v la)

      zeroed : sets (leave arena_links usable_head a b₅) (arena_word 0 a) (replicate 8 0) ≡ b₇
      zeroed =
          let e₁ : suc (arena_word 0 a) ≡ arena_word 1 a = omega arith in
          let e₂ : suc (arena_word 1 a) ≡ arena_word 2 a = omega arith in
          let e₃ : suc (arena_word 2 a) ≡ arena_word 3 a = omega arith in
          let e₄ : suc (arena_word 3 a) ≡ arena_word 4 a = omega arith in
          let e₅ : suc (arena_word 4 a) ≡ arena_word 5 a = omega arith in
          let e₆ : suc (arena_word 5 a) ≡ arena_word 6 a = omega arith in
          let e₇ : suc (arena_word 6 a) ≡ arena_word 7 a = omega arith in
          rw (e₁, e₂, e₃, e₄, e₅, e₆, e₇) (
          ap (λ (x : List ℕ). put (arena_word 7 a) 0 (put (arena_word 6 a) 0 (put (arena_word 5 a) 0 x))) (put_zero b₇ (arena_word 4 a) own_links.0)
          ∙ ap (λ (x : List ℕ). put (arena_word 7 a) 0 (put (arena_word 6 a) 0 x)) (put_zero b₇ (arena_word 5 a) own_links.1)
          ∙ ap (λ (x : List ℕ). put (arena_word 7 a) 0 x) (put_zero b₇ (arena_word 6 a) (last_words_lem 6 (omega arith) (omega arith)))
          ∙ put_zero b₇ (arena_word 7 a) (last_words_lem 7 (omega arith) (omega arith)))

      -- it joins the unused
      U₈ : View
      U₈ = U₇ ▷ base_to a 3 ▷ arenas_to 3 (a ∷ U.arenas 3)

      K₈ : Books A (A * P) h'.books U₈
      K₈ =
          subst (λ (x : List ℕ). Books A (A * P) (join arena_links unused_head a x) U₈)
          (sym zeroed) (arena_joins_lem K₇ 3 a (omega arith) la (to_same a 0 U.base a refl))

      -- every pool of the arena is free, and none is carved
      idle : (y : ℕ) → y / P ≡ a → count gone y ≡ 0
      idle y e =
          let u = all_many (λ x. not (in_use gone (a * P + x))) P (omega (arith, one_more)) (y % P) (mod-lt y (omega (arith, pools_low))) in
          let z : a * P + y % P ≡ y = ap (λ (x : ℕ). x * P + y % P) (sym e) ∙ div-add-mod' y P in
          omega (arith, ltb-false 0 (count gone y) (rw z at (not-true (in_use gone (a * P + y % P)) u)))

      uncarved : (y : ℕ) → y / P ≡ a → carved P r' y ≡ false
      uncarved y e = rw (e, eq-eqb a a refl) (le-ltb (y % P) 0 (omega arith))

      carved_other : (y : ℕ) → y / P ≢ a → carved P r' y ≡ carved P r y
      carved_other y d = rw (ne_eqb (y / P) a d)

      T : Aside p a r r'
      T =
          record {
            marks = λ x d. rw (ne_eqb x a d);
            classes = λ y d. refl;
            chains = λ y d. rw (ne_eqb y p d);
            virgins = λ y d. refl;
            lives = λ y d. rw (ne_eqb y p d);
          }

      -- another pool of the arena had no live block before
      idle_before : (y : ℕ) → y ≢ p → y / P ≡ a → count r y ≡ 0
      idle_before y d q = sym (count_same r r' y (T.lives y d)) ∙ idle y q

      homes' : HomesAfter al A P p U₈ r r'
      homes' =
          record {
            carve = λ y l d e. carve y e (ℕ_discrete (y / P) a);
            keep = λ y x l d o e. keep y x l d o e (ℕ_discrete (y / P) a);
            homes = λ y l d. stay y l d (ℕ_discrete (y / P) a) (ℕ_discrete (U.home y) (arena_word freed_head a));
          }
        where
          carve : (y : ℕ) → carved P r' y ≡ true → Dec (y / P ≡ a) → carved P r y ≡ true
          carve y e (yes q) = absurd (true≢false (sym e ∙ uncarved y q))
          carve y e (no q) = sym (carved_other y q) ∙ e

          keep : (y x : ℕ) → y < A * P → y ≢ p → r.live y x ≡ true → carved P r y ≡ true → Dec (y / P ≡ a)
              → carved P r' y ≡ true
          keep y x l d o e (no q) = carved_other y q ∙ e
          keep y x l d o e (yes q) =
              let D = in_class L F y x l o in
              absurd (true≢false (sym o ∙ none_many (r.live y) 512 (idle_before y d q) x (omega (
                arith,
                live_below D.blocks x o,
                D.blocks.fits,
                capacity_high L (r.class y) D.class_low,
              ))))

          stay : (y : ℕ) → y < A * P → y ≢ p → Dec (y / P ≡ a) → Dec (U.home y ≡ arena_word freed_head a)
              → U₈.home y ≡ home al P r' y
          stay y l d (yes q) (yes t) = rw (home₅ y d, eq-eqb (U.home y) (arena_word freed_head a) t) (sym (home_away al P r' y (idle y q) (uncarved y q)))
          stay y l d (yes q) (no t) =
              rw (home₅ y d, ne_eqb (U.home y) (arena_word freed_head a) t)
              ((F.pools y l).home_is ∙ was_away (carved P r y) refl ∙ sym (home_away al P r' y (idle y q) (uncarved y q)))
            where
              was_away : (u : Bool) → carved P r y ≡ u → home al P r y ≡ 1
              was_away true e = absurd (t ((F.pools y l).home_is ∙ home_freed al P r y (idle_before y d q) e ∙ ap (arena_word freed_head) q))
              was_away false e = home_away al P r y (idle_before y d q) e
          stay y l d (no q) (yes t) = absurd (q (freed_is al P r y a (sym (F.pools y l).home_is ∙ t) (use_class L K F y l)).2)
          stay y l d (no q) (no t) =
              rw (home₅ y d, ne_eqb (U.home y) (arena_word freed_head a) t)
              ((F.pools y l).home_is ∙ sym (home_same r r' al P y (T.lives y d) refl (carved_other y q)))

      F' : Says al A P U₈ (m₂ G) h'.map r'
      F' =
          rw (number_is (size_of al c) j (omega (arith, s_low G)))
          (stepped L F lp refl T
          (record {
            heads = λ x. refl;
            pools = λ w y d. rw (ne_eqb y p d);
            spare = rw (eq-eqb p p refl);
            arenas = λ w x d. rw (ne_eqb x a d);
            spares = λ w u. rw (eq-eqb a a refl, ne_eqb w 0 (omega arith), ne_eqb w 1 (omega arith), ne_eqb w 2 (omega arith));
            bases = λ x d. rw (ne_eqb x a d);
          })
          (record {
            count_is = count₂ G;
            class_is = rw (eq-eqb p p refl) (F.pools p lp).class_is;
            used = λ x e. absurd (true≢false (sym e ∙ all_dead x));
            rule = λ e. absurd (true≢false (sym e ∙ uncarved p refl));
            home_is = rw (eq-eqb p p refl, eq-eqb (arena_word freed_head a) (arena_word freed_head a) refl)
                (sym (home_away al P r' p now_none (uncarved p refl)));
          })
          (record {
            open_is = rw (eq-eqb a a refl);
            mark_is = rw (eq-eqb a a refl);
            mark_high = rw (eq-eqb a a refl) (omega arith);
            free_is = rw (eq-eqb a a refl);
            base_is = to_same a 3 (to a 0 U.base) a refl ∙ sym (base_unused P r' a (to_same a 0 r.mark a refl));
          })
          (record {
            listed = lists₅;
            freed = λ x l. to_cong a U₅.freed (to a (p ∷ r.freed a) r.freed) refl x (freed₅ x l);
            usable = ap (erase a) F.lists.usable;
            unused = ap (λ (xs : List ℕ). a ∷ xs) F.lists.unused;
          })
          (rw (erased some) (others_rise some)) homes' (bytes₂ G) j 0 (j_small G) (omega arith) refl)

-- ---- every give-back of a live block
pub back_any : {al A P : ℕ} {h : Heap} {r : Plain} → Aligned al → Sound al A P h r → (p j : ℕ) → p < A * P
    → r.live p j ≡ true → Backed al A P h r p j
back_any {al} {A} {P} {h} {r} L S p j l on =
    go (r.chain p) refl (ℕ_discrete (count r p) 1) (ℕ_discrete (free P r (p / P) + 1) P) (ℕ_discrete (free P r (p / P)) 0)
  where
    G : Given al A P h r p j
    G = record { aligned = L; held = held S; inside = l; on = on }

    go : (xs : List ℕ) → r.chain p ≡ xs → Dec (count r p ≡ 1) → Dec (free P r (p / P) + 1 ≡ P)
        → Dec (free P r (p / P) ≡ 0) → Backed al A P h r p j
    go [] e d t u = back_joins_lem G e
    go (i ∷ is) e (no d) t u = back_stays_lem G i is e (omega (arith, some G))
    go (i ∷ is) e (yes d) (yes t) u = back_releases G e d t
    go (i ∷ is) e (yes d) (no t) (yes u) = back_returns_lem G e d u
    go (i ∷ is) e (yes d) (no t) (no u) = back_walks G e d u t
