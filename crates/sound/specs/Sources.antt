-- The sources of a pool, one by one: a freed pool, the pool at the mark, the first pool of an unused arena; so every
-- ask is the plain heap's.
-- Assumes nothing.
use Rattle.std.specs.Prelude.{◌≡◌, ◌≢◌, true, false, not, ltb, eqb, length}
use Rattle.std.proofs.Math.Path.{refl}
use Rattle.std.proofs.Common.{sym, ap, ap₂, ◌∙◌, subst, inr, true≢false, div-add-mod', arith}
use Rattle.std.proofs.Math.Bool.{or-true}
use mathlib.Core.List.{List, [], ◌∷◌}
use Prim.Native.Nat.{ℕ, suc, ◌+◌, ◌*◌, ◌/◌, ◌%◌, ◌≤◌, ◌<◌}
use Rattle.std.proofs.Math.Decide.{ℕ_discrete, dec_lt}
use Rattle.std.proofs.Math.Arith.{digits_lt, digits_div, digits_mod}
use borrow.Author.Tests.{eq-eqb, ne_eqb, le-leb, lt-ltb, le-ltb}
use Rattle.rules.specs.declared.Source.{Source}
use Rattle.rules.specs.declared.Source.TheVariants.{Freed, Carved, Opened}
use Rattle.rules.specs.declared.AskPlan.{AskPlan}
use Rattle.rules.specs.declared.AskPlan.TheVariants.{NoRoom, Again, Anew}
use Rattle.rules.specs.Say.{◌▷◌}
use Rattle.rules.specs.Books.{
  Heap,
  at,
  put,
  usable_head,
  unused_head,
  class_head,
  carve_mark,
  free_pools,
  freed_head,
  arena_word,
  arena,
  no_class,
  pool_word,
  pool,
  offset_of,
}
use Rattle.rules.specs.Blocks.{size_of, last_class, start_of, link_at}
use Rattle.rules.specs.Lists.{leave, join, arena_links}
use Rattle.rules.specs.Outcome.{heap_of}
use Rattle.rules.specs.Ask.{
  plan_ask,
  spare,
  from_usable,
  from_freed,
  from_mark,
  from_unused,
  counted,
  set_anew,
  take_again,
  same_class,
  take_from,
  arena_of,
  spend,
  after_ask,
  ask_answer,
}
use Rattle.books.specs.Starts.{start_is, number_is, first_block, second_block}
use Rattle.books.specs.Known.{in_range_lem}
use Rattle.books.specs.Sizes.{Aligned, size_low, size_high, capacity_high, capacity_low, class_low}
use Rattle.sequences.specs.Update.{is_false, to, to_same, to_other, to_cong}
use Rattle.sequences.specs.Sequences.{All, erase, erase_front}
use Rattle.sequences.specs.Linked.{Stack}
use Rattle.sequences.specs.Families.{At, inside}
use Rattle.sound.specs.Books.{
  View,
  Books,
  put_pool_lem,
  put_arena,
  freed_goes,
  arena_may_leave,
  arena_leaves_lem,
  arena_joins_lem,
  pool_to,
  arena_to,
  home_to,
  base_to,
  freed_to,
  arenas_to,
  put_zero,
}
use Rattle.sound.specs.Plain.{
  Plain,
  count,
  in_use,
  carved,
  free,
  set_chain,
  set_live,
  set_listed,
  set_freed,
  set_mark,
  plan_ask as plainAsk,
  after_ask as plainAfterAsk,
}
use Rattle.sequences.specs.Counting.{many_none, many_all, many_le}
use Rattle.sound.specs.Chains.{Blocks}
use Rattle.sound.specs.Sound.{Sound}
use Rattle.sound.specs.Held.{Held, held, InClassOf, classed, use_class, usable_word, no_freed, freed_is, unused_is, home_freed, home_away, base_usable}
use Rattle.sound.specs.Paths.{quiet_same, Hand, hand_out_lem, Grows, grows_same, Asked, asked}
use Rattle.sound.specs.AskListed.{front_of_lem, ask_listed}
use Rattle.sound.specs.Taken.{no_live, spent_books, spend_is, spent_usable, spend_rows, with_arenas, From, new_rows, set_anew_lem, taken_again_lem}

-- ---- a heap, and the wanted class c, whose list is empty
module _ {al A P c : ℕ} {h : Heap} {r : Plain} (L : Aligned al)
    (H : Held al A P h r) (lc : c ≤ last_class al) (lst : r.listed c ≡ []) where
  open H use {view as U, books as K, says as F}

  abbrev s : ℕ
  s = size_of al c

  abbrev b : List ℕ
  b = h.books

  c_low : c < 64
  c_low = class_low L c lc

  pools_low : 2 ≤ P
  pools_low = (in_range_lem A P F.range).2

  class_empty : at b (class_head c) ≡ 0
  class_empty = rw (F.lists.listed c c_low ∙ lst) at (K.listed.row c c_low).row.walk

  -- a pool that is not carved has no live block
  idle_away : (p : ℕ) → p < A * P → carved P r p ≡ false → count r p ≡ 0
  idle_away p l e = many_none (r.live p) 512 (λ j _. is_false (r.live p j) (λ o. true≢false (sym ((F.pools p l).used j o).0 ∙ e)))

  -- blocks 0 and 1 of a pool with no live block are spare
  spare_two : (p : ℕ) → p < A * P → count r p ≡ 0
      → (spare al A P h c p 48 ≡ true) × (spare al A P h c p (48 + s) ≡ true)
  spare_two p l z =
      let e = first_block s (omega (arith, size_low L c lc)) (omega (arith, size_high L c lc)) in
      let f = second_block s (omega (arith, size_low L c lc)) (omega (arith, size_high L c lc)) in
      (rw (e.0, e.1, F.bits p 0 l (omega arith), no_live L F p l z 0), rw (f.0, f.1, F.bits p 1 l (omega arith), no_live L F p l z 1))

  -- ---- an ask that takes pool p from its source and sets it to the class
  module _ {p a : ℕ} {b₁ us un : List ℕ} {U₁ : View} {mark : ℕ → ℕ}
      {freed : ℕ → List ℕ} (O : From al A P p a b₁ U U₁ r us un mark freed) where
    -- its block 0 is handed out
    new_hand : (ys : List ℕ) → Hand al A P r (new_rows c p (with_arenas ys un mark freed r)) c (offset_of p 48)
    new_hand ys =
        record {
          pool = p;
          block = 0;
          place = omega arith;
          inside = O.inside;
          fits = omega (arith, capacity_low L c lc);
          class_now = to_same p c r.class p refl;
          classes = λ y d. to_other p c r.class y d;
          live_now = refl;
          was_dead = no_live L F p O.inside O.idle 0;
          kind = inr (no_live L F p O.inside O.idle);
        }

    -- no other pool changes, and this one was not carved, or was of another class
    new_grows : (ys : List ℕ) → (carved P r p ≡ true → r.class p ≢ c)
        → Grows A P r (new_rows c p (with_arenas ys un mark freed r))
    new_grows ys other =
        record {
          carved_still = λ y l e. cut y l e (ℕ_discrete y p);
          ready_still = λ y e f. ready y e f (ℕ_discrete y p);
        }
      where
        cut : (y : ℕ) → y < A * P → carved P r y ≡ true → Dec (y ≡ p)
            → carved P (with_arenas ys un mark freed r) y ≡ true
        cut y l e (yes q) = rw q O.carved_p
        cut y l e (no q) = O.carved_others y l q ∙ e

        ready : (y : ℕ) → carved P r y ≡ true → to p c r.class y ≡ r.class y → Dec (y ≡ p)
            → r.virgin y ≤ to p 2 r.virgin y
        ready y e f (yes q) = absurd (other (rw q at e) (sym (rw (eq-eqb y p q, q) at f)))
        ready y e f (no q) = rw (ne_eqb y p q) (omega arith)

    -- q is the source by name, and the last two are what the plain heap and the rules make of it
    ask_anew : (q : Source) → plan_ask al A P h c ≡ Anew q p → plainAsk al P r c ≡ Anew q p
        → plainAfterAsk al P r c (Anew q p)
        ≡ new_rows c p (with_arenas (spent_usable (eqb (free P r a) 1) a us) un mark freed r)
        → spend al A P c (arena_of al A P c q) (take_from al A P c q p h) ≡ heap_of h.memory (spent_books a b₁) h.map
        → (carved P r p ≡ true → r.class p ≢ c)
        → Asked al A P h r c
    unfolding after_ask ask_answer
    ask_anew q plan plain rows books other =
        let t = set_anew_lem L F O lc lst in
        asked (Anew q p) (new_rows c p (with_arenas (spent_usable (eqb (free P r a) 1) a us) un mark freed r)) plan plain rows (rw books t.0) (rw books t.1)
        (λ _. new_hand (spent_usable (eqb (free P r a) 1) a us)) (new_grows (spent_usable (eqb (free P r a) 1) a us) other)

  -- ---- the usable front a
  module _ (a : ℕ) (others : List ℕ) (us : r.usable ≡ a ∷ others) where
    front : At A U.base 2 a
    front = (rw (F.lists.usable ∙ us) at (K.lists.members 2 (omega arith))).0

    la : a < A
    la = front.low

    open_free : (r.mark a ≢ 0) × (free P r a ≢ 0) × (arena b 2 a ≡ free P r a)
    open_free = usable_word L K F a front

    usable_first : (q : AskPlan) → from_usable al A P h c a ≡ q → plan_ask al A P h c ≡ q
    unfolding plan_ask
    usable_first q e =
        let hd : at b usable_head ≡ suc a = (rw (F.lists.usable ∙ us) at (K.lists.row 2 (omega arith)).row.walk).0 in
        rw class_empty (front_of_lem hd la (from_usable al A P h c) _ ∙ e)

    -- the tests of its free pools, and of its links where it will leave
    counted_is : (q : AskPlan) → counted al A P h c a q ≡ q
    counted_is q =
        rw (
          le-leb 1 (arena b 2 a) (omega (arith, open_free.2, open_free.1)),
          le-leb (arena b 2 a) P (rw open_free.2 (many_le (λ i. not (in_use r (a * P + i))) P)),
          arena_may_leave K 2 a (omega arith) la front.is,
          or-true,
        )

    -- ---- "take the freed-pool head if there is one (its next becomes the head)"
    module _ (p : ℕ) (ps : List ℕ) (fr : r.freed a ≡ p ∷ ps) where
      row_is : U.freed a ≡ p ∷ ps
      row_is = F.lists.freed a la ∙ fr

      member : At (A * P) U.home (arena_word freed_head a) p
      member = (rw row_is at (K.freed.members a la)).0

      lp : p < A * P
      lp = member.low

      was : (count r p ≡ 0) × (carved P r p ≡ true) × (p / P ≡ a)
      was = freed_is al P r p a (sym (F.pools p lp).home_is ∙ member.is) (use_class L K F p lp)

      from_freed_lem : From al A P p a (put (arena_word freed_head a) (pool A b 2 p) b) U
          (U ▷ home_to p 1 ▷ freed_to a ps) r r.usable r.unused r.mark (to a ps r.freed)
      from_freed_lem =
          record {
            books = freed_goes K a la p lp ps row_is;
            inside = lp;
            of = was.2;
            idle = was.0;
            still = record { heads = λ i. refl; pools = λ w y d. refl; spare = refl; arenas = λ w x d. refl; spares = λ w u. refl; bases = λ x d. refl };
            homes = λ y d. to_other p 1 U.home y d;
            home_p = to_same p 1 U.home p refl;
            arena = let R = F.arenas a la in
                record {
                  open_is = R.open_is;
                  mark_is = R.mark_is;
                  mark_high = R.mark_high;
                  free_is = R.free_is;
                  base_is = front.is ∙ sym (base_usable P (r ▷ set_freed a ps) a open_free.0 open_free.1);
                };
            lists = record {
              listed = F.lists.listed;
              freed = λ x l. to_cong a U.freed r.freed refl x (F.lists.freed x l);
              usable = F.lists.usable;
              unused = F.lists.unused;
            };
            marked = open_free.0;
            marks = λ x d. refl;
            behind = others;
            front = us;
            order = F.order;
            carved_p = was.1;
            carved_others = λ y l d. refl;
          }

      freed_first_lem : (q : AskPlan) → take_again al A P h c a p ≡ q → plan_ask al A P h c ≡ q
      unfolding from_usable from_freed
      freed_first_lem q e =
          let hd : arena b freed_head a ≡ suc p = (rw row_is at (K.freed.row a la).walk).0 in
          let n : pool A b 2 p ≤ A * P = next_low ps (rw row_is at (K.freed.row a la).walk) (rw row_is at (inside K.freed a la)) in
          usable_first q (front_of_lem hd lp (from_freed al A P h c a) _ ∙ rw (le-leb (pool A b 2 p) (A * P) n) (counted_is (take_again al A P h c a p) ∙ e))
        where
          next_low : (xs : List ℕ) → Stack (λ n. at b (pool_word A 2 n)) (arena b freed_head a) (p ∷ xs)
              → All (λ y. y < A * P) (p ∷ xs) → pool A b 2 p ≤ A * P
          next_low [] w i = omega (arith, w.1)
          next_low (x ∷ xs) w i = omega (arith, w.1.0, i.1.0)

      class_is : pool A b 4 p ≡ r.class p
      class_is = K.pools 4 p (omega arith) lp ∙ (F.pools p lp).class_is

      -- of another class
      ask_other : r.class p ≢ c → Asked al A P h r c
      unfolding take_from take_again set_anew
      ask_other d =
          let t = spare_two p lp was.0 in
          ask_anew from_freed_lem (Freed a) (freed_first_lem (Anew (Freed a) p) (rw (class_is, ne_eqb (r.class p) c d, t.0, t.1)))
          (rw (lst, us, fr, ne_eqb (r.class p) c d))
          (rw fr (ap (new_rows c p) (spend_rows (eqb (free P r a) 1) a (r ▷ set_freed a ps)))) (spend_is al A P c a (take_from al A P c (Freed a) p h)) (λ _. d)

      -- of the wanted class
      ask_again : r.class p ≡ c → Asked al A P h r c
      unfolding after_ask ask_answer take_from take_again same_class
      ask_again cls = by_chain (r.chain p) refl
        where
          J : InClassOf al U h.memory r p
          J = classed ((F.pools p lp).rule was.1) (rw cls c_low)

          by_chain : (ks : List ℕ) → r.chain p ≡ ks → Asked al A P h r c
          by_chain [] e = absurd (omega (arith, J.two was.0, ap length e))
          by_chain (k ∷ []) e = absurd (omega (arith, J.two was.0, ap length e))
          by_chain (k ∷ j ∷ js) e =
              let z = spend_is al A P c a (take_from al A P c (Freed a) p h) in
              asked (Again a p (start_of s k) (start_of s j)) r' plan (rw (lst, us, fr, eq-eqb (r.class p) c cls, e))
              (rw (fr, e)
              (ap (λ (x : Plain). x ▷ set_listed c (p ∷ []) ▷ set_chain p (j ∷ js)
              ▷ set_live p k true) (spend_rows (eqb (free P r a) 1) a (r ▷ set_freed a ps))))
              (rw z (taken_again_lem L F from_freed_lem lc lst k j js cls B (rw cls at J.maxnextoffset_is) (λ w. refl))) (rw z (quiet_same {r = r'}))
              (λ _. hand_out_lem p k lp (omega (arith, B.below.0, B.fits)) cls (no_live L F p lp was.0 k) refl refl) (grows_same refl refl)
            where
              r' : Plain
              r' =
                  with_arenas (spent_usable (eqb (free P r a) 1) a r.usable) r.unused r.mark (to a ps r.freed) r ▷ set_listed c (p ∷ [])
                  ▷ set_chain p (j ∷ js) ▷ set_live p k true

              B : Blocks s p h.memory (U.pool 1 p) (U.pool 5 p) (r.live p) (k ∷ j ∷ js) (r.virgin p)
              B = rw (cls, e) at J.blocks

              free_is : pool A b 1 p ≡ start_of s k
              free_is = K.pools 1 p (omega arith) lp ∙ B.chained.0

              link : link_at h.memory (offset_of p (start_of s k)) ≡ start_of s j
              link = B.chained.1.0

              spare_block : (x : ℕ) → x < r.virgin p → spare al A P h c p (start_of s x) ≡ true
              spare_block x l =
                  rw (
                    start_is s x (omega (arith, B.fits)),
                    number_is s x (omega (arith, size_low L c lc)),
                    F.bits p x lp (omega (arith, B.fits, capacity_high L c lc)),
                    no_live L F p lp was.0 x,
                  )

              plan : plan_ask al A P h c ≡ Again a p (start_of s k) (start_of s j)
              plan =
                  freed_first_lem (Again a p (start_of s k) (start_of s j))
                  (rw (
                    class_is,
                    cls,
                    eq-eqb c c refl,
                    free_is,
                    spare_block k B.below.0,
                    link,
                    ne_eqb (start_of s j) 0 (omega arith),
                    spare_block j B.below.1.0,
                  ))

    -- ---- "else carve the pool at the mark"
    module _ (fr : r.freed a ≡ []) where
      -- the pool at the mark
      abbrev mark_pool : ℕ
      mark_pool = a * P + r.mark a

      freed_empty : arena b freed_head a ≡ 0
      freed_empty = rw (F.lists.freed a la ∙ fr) at (K.freed.row a la).walk

      -- a pool is left to carve: otherwise every pool of the arena is carved, none is freed, so all are in use
      mark_room : r.mark a < P
      mark_room = let d : ¬ (P ≤ r.mark a) = (λ q. open_free.1 (many_none (λ i. not (in_use r (a * P + i))) P (busy q))) in omega arith
        where
          busy : P ≤ r.mark a → (i : ℕ) → i < P → not (in_use r (a * P + i)) ≡ false
          busy q i u = pick (dec_lt 0 (count r (a * P + i)))
            where
              ly : a * P + i < A * P
              ly = digits_lt la u

              freed_at : count r (a * P + i) ≡ 0 → U.home (a * P + i) ≡ arena_word freed_head a
              freed_at z =
                  let cv : carved P r (a * P + i) ≡ true = rw (digits_div a u, digits_mod a u) (lt-ltb i (r.mark a) (omega arith)) in
                  (F.pools (a * P + i) ly).home_is ∙ home_freed al P r (a * P + i) z cv ∙ ap (arena_word freed_head) (digits_div a u)

              pick : Dec (0 < count r (a * P + i)) → not (in_use r (a * P + i)) ≡ false
              pick (yes t) = rw (lt-ltb 0 (count r (a * P + i)) t)
              pick (no t) = absurd (rw (F.lists.freed a la ∙ fr) at (K.freed.all a la (a * P + i) ly (freed_at (omega arith))))

      mark_inside : mark_pool < A * P
      mark_inside = digits_lt la mark_room

      mark_of : mark_pool / P ≡ a
      mark_of = digits_div a mark_room

      at_mark : mark_pool % P ≡ r.mark a
      at_mark = digits_mod a mark_room

      uncarved : carved P r mark_pool ≡ false
      uncarved = rw (mark_of, at_mark) (le-ltb (r.mark a) (r.mark a) (omega arith))

      mark_word : arena b 1 a ≡ r.mark a
      mark_word = K.arenas 1 a (omega arith) la ∙ (F.arenas a la).mark_is

      abbrev up : ℕ
      up = at (put (pool_word A 4 mark_pool) no_class b) (arena_word 1 a) + 1

      up_is : up ≡ r.mark a + 1
      up_is = ap (λ (x : ℕ). x + 1) ((put_pool_lem K 4 mark_pool no_class (omega arith) mark_inside).arenas 1 a (omega arith) la ∙ (F.arenas a la).mark_is)

      from_mark_lem : From al A P mark_pool a
          (put (arena_word carve_mark a) up (put (pool_word A 4 mark_pool) no_class b)) U
          (U ▷ pool_to 4 mark_pool no_class ▷ arena_to 1 a up) r
          r.usable r.unused (to a (r.mark a + 1) r.mark) r.freed
      from_mark_lem =
          record {
            books = put_arena (put_pool_lem K 4 mark_pool no_class (omega arith) mark_inside) 1 a up (omega arith) la;
            inside = mark_inside;
            of = mark_of;
            idle = idle_away mark_pool mark_inside uncarved;
            still = record {
              heads = λ i. refl;
              pools = λ w y d. rw (ne_eqb y mark_pool d);
              spare = rw (eq-eqb mark_pool mark_pool refl);
              arenas = λ w x d. rw (ne_eqb x a d);
              spares = λ w u. rw (eq-eqb a a refl, ne_eqb w 1 (omega arith));
              bases = λ x d. refl;
            };
            homes = λ y d. refl;
            home_p = (F.pools mark_pool mark_inside).home_is ∙ home_away al P r mark_pool (idle_away mark_pool mark_inside uncarved) uncarved;
            arena = record {
              open_is = rw (eq-eqb a a refl, ne_eqb (r.mark a + 1) 0 (omega arith)) ((F.arenas a la).open_is ∙ rw (ne_eqb (r.mark a) 0 open_free.0));
              mark_is = rw (eq-eqb a a refl) up_is;
              mark_high = rw (eq-eqb a a refl) (omega (arith, mark_room));
              free_is = rw (eq-eqb a a refl, ne_eqb (r.mark a + 1) 0 (omega arith)) ((F.arenas a la).free_is ∙ rw (ne_eqb (r.mark a) 0 open_free.0));
              base_is = front.is ∙ sym (base_usable P (r ▷ set_mark a (r.mark a + 1)) a marked' open_free.1);
            };
            lists = record { listed = F.lists.listed; freed = F.lists.freed; usable = F.lists.usable; unused = F.lists.unused };
            marked = marked';
            marks = λ x d. to_other a (r.mark a + 1) r.mark x d;
            behind = others;
            front = us;
            order = F.order;
            carved_p = rw (mark_of, at_mark, eq-eqb a a refl) (lt-ltb (r.mark a) (r.mark a + 1) (omega arith));
            carved_others = λ y l d. others_carved y d (ℕ_discrete (y / P) a);
          }
        where
          marked' : to a (r.mark a + 1) r.mark a ≢ 0
          marked' = rw (eq-eqb a a refl) (omega arith)

          others_carved : (y : ℕ) → y ≢ mark_pool → Dec (y / P ≡ a)
              → carved P (r ▷ set_mark a (r.mark a + 1)) y ≡ carved P r y
          others_carved y d (no q) = rw (ne_eqb (y / P) a q)
          others_carved y d (yes q) = rw (q, eq-eqb a a refl) (near (dec_lt (y % P) (r.mark a)))
            where
              ne : y % P ≢ r.mark a
              ne e = d (sym (div-add-mod' y P) ∙ ap₂ (λ (u v : ℕ). u * P + v) q e)

              near : Dec (y % P < r.mark a) → ltb (y % P) (r.mark a + 1) ≡ ltb (y % P) (r.mark a)
              near (yes t) = lt-ltb (y % P) (r.mark a + 1) (omega arith) ∙ sym (lt-ltb (y % P) (r.mark a) t)
              near (no t) = let n : y % P ≢ r.mark a = ne in le-ltb (y % P) (r.mark a + 1) (omega arith) ∙ sym (le-ltb (y % P) (r.mark a) (omega arith))

      ask_carve : Asked al A P h r c
      unfolding take_from set_anew from_usable from_mark
      ask_carve =
          let t = spare_two mark_pool mark_inside (idle_away mark_pool mark_inside uncarved) in
          ask_anew from_mark_lem (Carved a) (usable_first (Anew (Carved a) mark_pool)
          (rw (freed_empty, mark_word, lt-ltb (r.mark a) P mark_room, t.0, t.1) (counted_is (Anew (Carved a) mark_pool))))
          (rw (lst, us, fr)) (ap (new_rows c mark_pool) (spend_rows (eqb (free P r a) 1) a (r ▷ set_mark a (r.mark a + 1))))
          (spend_is al A P c a (take_from al A P c (Carved a) mark_pool h)) (λ e. absurd (true≢false (sym e ∙ uncarved)))

    -- one of the three
    ask_usable : Asked al A P h r c
    ask_usable = go (r.freed a) refl
      where
        by_class : (p : ℕ) (ps : List ℕ) → r.freed a ≡ p ∷ ps → Dec (r.class p ≡ c) → Asked al A P h r c
        by_class p ps e (yes q) = ask_again p ps e q
        by_class p ps e (no q) = ask_other p ps e q

        go : (xs : List ℕ) → r.freed a ≡ xs → Asked al A P h r c
        go [] e = ask_carve e
        go (p ∷ ps) e = by_class p ps e (ℕ_discrete (r.class p) c)

  -- ---- "where the usable list is empty, the unused head leaves its list and joins the usable one"
  module _ (none : r.usable ≡ []) where
    no_usable : at b usable_head ≡ 0
    no_usable = rw (F.lists.usable ∙ none) at (K.lists.row 2 (omega arith)).row.walk

    ask_none : r.unused ≡ [] → Sound al A P h r → Asked al A P h r c
    unfolding plan_ask after_ask ask_answer
    ask_none e S =
        let z : at b unused_head ≡ 0 = rw (F.lists.unused ∙ e) at (K.lists.row 3 (omega arith)).row.walk in
        asked NoRoom r (rw (class_empty, no_usable, z)) (rw (lst, none, e)) refl S (quiet_same {r = r}) (λ z. absurd (omega arith)) (grows_same refl refl)

    module _ (a : ℕ) (others : List ℕ) (un : r.unused ≡ a ∷ others) where
      first : At A U.base 3 a
      first = (rw (F.lists.unused ∙ un) at (K.lists.members 3 (omega arith))).0

      la' : a < A
      la' = first.low

      closed : r.mark a ≡ 0
      closed = unused_is P r a (sym (F.arenas a la').base_is ∙ first.is)

      -- its pools are not carved, so none of them is in use
      away : (y : ℕ) → y / P ≡ a → carved P r y ≡ false
      away y e = rw (e, closed) (le-ltb (y % P) 0 (omega arith))

      all_free : free P r a ≡ P
      all_free =
          many_all (λ i. not (in_use r (a * P + i))) P
          (λ i u. rw (le-ltb 0 (count r (a * P + i)) (omega (arith, idle_away (a * P + i) (digits_lt la' u) (away (a * P + i) (digits_div a u))))))

      -- its first pool
      abbrev first_pool : ℕ
      first_pool = a * P

      first_is : a * P ≡ a * P + 0
      first_is = omega arith

      first_inside : first_pool < A * P
      first_inside = rw first_is (digits_lt la' (omega (arith, pools_low)))

      first_of : first_pool / P ≡ a
      first_of = ap (λ (x : ℕ). x / P) first_is ∙ digits_div a (omega (arith, pools_low))

      at_zero : first_pool % P ≡ 0
      at_zero = ap (λ (x : ℕ). x % P) first_is ∙ digits_mod a (omega (arith, pools_low))

      first_idle : count r first_pool ≡ 0
      first_idle = idle_away first_pool first_inside (away first_pool first_of)

      -- ---- the books, write by write: b₂ once the arena is on the usable list, b₄ with its first two words, b₇ with
      -- all of them and the pool's class; U₂ and U₇ are what they say
      abbrev b₂ : List ℕ
      b₂ = join arena_links usable_head a (leave arena_links unused_head a b)

      abbrev b₄ : List ℕ
      b₄ = b₂ ▷ put (arena_word 0 a) 1 ▷ put (arena_word 1 a) 0

      abbrev U₂ : View
      U₂ = U ▷ base_to a 0 ▷ arenas_to 3 (erase a (U.arenas 3)) ▷ base_to a 2 ▷ arenas_to 2 (a ∷ U.arenas 2)

      K₄ : Books A (A * P) b₄ (U₂ ▷ arena_to 0 a 1 ▷ arena_to 1 a 0)
      K₄ =
          put_arena (put_arena (arena_joins_lem (arena_leaves_lem K 3 a (omega arith) la' first.is) 2 a (omega arith) la' (to_same a 0 U.base a refl)) 0 a 1
          (omega arith) la') 1 a 0 (omega arith) la'

      -- its freed-pool head is 0 already
      head_zero : put (arena_word freed_head a) 0 b₄ ≡ b₄
      head_zero = put_zero b₄ (arena_word freed_head a) (rw (no_freed L K F a la' closed) at (K₄.freed.row a la').walk)

      abbrev b₇ : List ℕ
      b₇ = b₄ ▷ put (arena_word freed_head a) 0 ▷ put (arena_word free_pools a) P ▷ put (pool_word A 4 first_pool) no_class

      abbrev U₇ : View
      U₇ = U₂ ▷ arena_to 0 a 1 ▷ arena_to 1 a 0 ▷ arena_to 2 a P ▷ pool_to 4 first_pool no_class

      K₇ : Books A (A * P) b₇ U₇
      K₇ =
          subst (λ (x : List ℕ). Books A (A * P) (put (pool_word A 4 first_pool) no_class (put (arena_word free_pools a) P x)) U₇) (sym head_zero)
          (put_pool_lem (put_arena K₄ 2 a P (omega arith) la') 4 first_pool no_class (omega arith) first_inside)

      abbrev mark₁ : ℕ
      mark₁ = at b₇ (arena_word 1 a) + 1

      mark_one : mark₁ ≡ 1
      mark_one = let e : at b₇ (arena_word 1 a) ≡ 0 = K₇.arenas 1 a (omega arith) la' ∙ rw (eq-eqb a a refl) in omega arith

      from_unused_lem : From al A P first_pool a (put (arena_word carve_mark a) mark₁ b₇) U
          (U₇ ▷ arena_to 1 a mark₁) r (a ∷ []) others (to a 1 r.mark) r.freed
      from_unused_lem =
          record {
            books = put_arena K₇ 1 a mark₁ (omega arith) la';
            inside = first_inside;
            of = first_of;
            idle = first_idle;
            still = record {
              heads = λ i. refl;
              pools = λ w y d. rw (ne_eqb y first_pool d);
              spare = rw (eq-eqb first_pool first_pool refl);
              arenas = λ w x d. rw (ne_eqb x a d);
              spares = λ w u. rw (eq-eqb a a refl, ne_eqb w 1 (omega arith), ne_eqb w 2 (omega arith), ne_eqb w 0 (omega arith));
              bases = λ x d. rw (ne_eqb x a d);
            };
            homes = λ y d. refl;
            home_p = (F.pools first_pool first_inside).home_is ∙ home_away al P r first_pool first_idle (away first_pool first_of);
            arena = record {
              open_is = rw (eq-eqb a a refl);
              mark_is = rw (eq-eqb a a refl) mark_one;
              mark_high = rw (eq-eqb a a refl) (omega (arith, pools_low));
              free_is = rw (eq-eqb a a refl) (sym all_free);
              base_is = to_same a 2 (to a 0 U.base) a refl
                  ∙ sym (base_usable P (with_arenas (a ∷ []) others (to a 1 r.mark) r.freed r) a marked'
                  (λ z. absurd (omega (arith, all_free, pools_low))));
            };
            lists = record {
              listed = F.lists.listed;
              freed = F.lists.freed;
              usable = ap (λ (l : List ℕ). a ∷ l) (F.lists.usable ∙ none);
              unused = ap (erase a) (F.lists.unused ∙ un) ∙ erase_front a others (rw (F.lists.unused ∙ un) at (K.lists.row 3 (omega arith)).row.once);
            };
            marked = marked';
            marks = λ x d. to_other a 1 r.mark x d;
            behind = [];
            front = refl;
            order = (tt, tt);
            carved_p = rw (first_of, at_zero, eq-eqb a a refl);
            carved_others = λ y l d. others_carved y d (ℕ_discrete (y / P) a);
          }
        where
          marked' : to a 1 r.mark a ≢ 0
          marked' = rw (eq-eqb a a refl) (omega arith)

          others_carved : (y : ℕ) → y ≢ first_pool → Dec (y / P ≡ a) → carved P (r ▷ set_mark a 1) y ≡ carved P r y
          others_carved y d (no q) = rw (ne_eqb (y / P) a q)
          others_carved y d (yes q) = rw (q, eq-eqb a a refl, closed) (le-ltb (y % P) 1 ne ∙ sym (le-ltb (y % P) 0 (omega arith)))
            where
              ne : 1 ≤ y % P
              ne = let z : y % P ≢ 0 = (λ e. d (sym (div-add-mod' y P) ∙ ap₂ (λ (u v : ℕ). u * P + v) q e ∙ omega arith)) in omega arith

      ask_open : Asked al A P h r c
      unfolding plan_ask take_from set_anew from_unused
      ask_open =
          let hd : at b unused_head ≡ suc a = (rw (F.lists.unused ∙ un) at (K.lists.row 3 (omega arith)).row.walk).0 in
          let u = spare_two first_pool first_inside first_idle in
          ask_anew from_unused_lem (Opened a)
          (rw (class_empty, no_usable) (front_of_lem hd la' (from_unused al A P h c) _ ∙ rw (arena_may_leave K 3 a (omega arith) la' first.is, u.0, u.1)))
          (rw (lst, none, un)) (rw (un, ne_eqb (free P r a) 1 (omega (arith, all_free, pools_low))))
          (spend_is al A P c a (take_from al A P c (Opened a) first_pool h)) (λ e. absurd (true≢false (sym e ∙ away first_pool first_of)))

-- ---- every ask for a class
pub ask_any : {al A P : ℕ} {h : Heap} {r : Plain} → Aligned al → Sound al A P h r → (c : ℕ) → c ≤ last_class al
    → Asked al A P h r c
ask_any {al} {A} {P} {h} {r} L S c lc = by_class (r.listed c) refl
  where
    by_unused : r.listed c ≡ [] → r.usable ≡ [] → (xs : List ℕ) → r.unused ≡ xs → Asked al A P h r c
    by_unused e f [] g = ask_none L (held S) lc e f g S
    by_unused e f (a ∷ xs) g = ask_open L (held S) lc e f a xs g

    by_usable : r.listed c ≡ [] → (xs : List ℕ) → r.usable ≡ xs → Asked al A P h r c
    by_usable e [] f = by_unused e f r.unused refl
    by_usable e (a ∷ us) f = ask_usable L (held S) lc e a us f

    by_class : (xs : List ℕ) → r.listed c ≡ xs → Asked al A P h r c
    by_class [] e = by_usable e r.usable refl
    by_class (p ∷ ps) e = ask_listed L S (class_low L c lc) e
