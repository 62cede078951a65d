-- Ask, where the class list is empty: once a pool is taken from its source, its arena has one free pool fewer, and
-- the pool is set to the class, or taken again for its own.
-- Assumes nothing.
use Rattle.std.specs.Prelude.{◌≡◌, refl, ◌≢◌, Bool, true, false, not, ◌&&◌, List, [], ◌∷◌, ℕ, suc, ◌+◌, ◌*◌, ◌-◌, ◌/◌, ◌%◌, ◌≤◌, ◌<◌, eqb, if◌then◌else◌}
use Rattle.std.proofs.Common.{sym, ap, ◌∙◌, subst, inr, true≢false, div-add-mod', mod-lt, arith, eq-eqb, ne_eqb, lt-ltb, le-ltb}
use Rattle.std.proofs.Math.Logic.{Ne-symm as flip}
use Rattle.std.proofs.Math.Bool.{and-false}
use Rattle.std.proofs.Math.Decide.{ℕ_discrete}
use Rattle.rules.specs.Say.{◌▷◌, only}
use Rattle.rules.specs.Books.{
  Heap,
  at,
  put,
  put_word,
  put_map_bit,
  usable_head,
  class_head,
  free_pools,
  arena_word,
  freeblock,
  class as classWord,
  nextoffset,
  maxnextoffset,
  pool_word,
  none?,
  link_to,
  offset_of,
}
use Rattle.rules.specs.Blocks.{size_of, last_class, start_of, last_start, put_link}
use Rattle.rules.specs.Lists.{leave, arena_links, arena_leaves}
use Rattle.rules.specs.Outcome.{heap_of}
use Rattle.rules.specs.Ask.{spend, alone, no_link_at, hand_out}
use Rattle.books.specs.Starts.{number_is, first_block}
use Rattle.books.specs.Known.{in_range_lem}
use Rattle.books.specs.Sizes.{Aligned, size_low, size_high, capacity_high, capacity_low, class_low}
use Rattle.sequences.specs.Update.{is_false, to, to_same, to_other, to_cong}
use Rattle.sequences.specs.Sequences.{Once, erase, erase_front, all_map}
use Rattle.sequences.specs.Rising.{Rising, rising_falls}
use Rattle.sound.specs.Books.{View, Books, put_pool_lem, put_arena, pool_alone, arena_leaves_lem, pool_to, arena_to, home_to, listed_to}
use Rattle.sound.specs.Plain.{Plain, count, in_use, carved, free, set_usable, set_chain, set_live, set_listed, set_class, set_virgin}
use Rattle.sequences.specs.Counting.{many_more, none_many}
use Rattle.sound.specs.Chains.{Blocks, taken, anew, live_below}
use Rattle.sound.specs.Sound.{base, Sound}
use Rattle.sound.specs.Held.{Says, ArenaSays, ListsSay, InClassOf, sound, in_class, arena_low, home_listed, base_usable, base_spent}
use Rattle.sound.specs.Step.{Aside, Still, BytesAfter, free_same, order_aside, homes_same, stepped, link_after, no_bytes}
use Rattle.sound.specs.Paths.{Quiet, quiet_link, count_on}

-- ---- no block of a pool with no live blocks is live, however high its number
pub no_live : {al A P : ℕ} {U : View} {m k : List ℕ} {r : Plain} → Aligned al → Says al A P U m k r → (p : ℕ)
    → p < A * P → count r p ≡ 0 → (j : ℕ) → r.live p j ≡ false
no_live {r = r} L F p l z j = is_false (r.live p j) (λ e. true≢false (sym e ∙ none_many (r.live p) 512 z j (low e)))
  where
    low : r.live p j ≡ true → j < 512
    low e = let I = in_class L F p j l e in omega (arith, live_below I.blocks j e, I.blocks.fits, capacity_high L (r.class p) I.class_low)

-- ---- "Free pools falls by 1; at 0 the arena leaves the list, next and previous 0."
abbrev pub spent_books : ℕ → List ℕ → List ℕ
spent_books a b =
    put (arena_word free_pools a) (at b (arena_word free_pools a) - 1) b
    ▷ (λ x. only (none? (at x (arena_word free_pools a))) (leave arena_links usable_head a) x)

pub spend_is : (al A P c a : ℕ) (x : Heap) → spend al A P c a x ≡ heap_of x.memory (spent_books a x.books) x.map
spend_is al A P c a x = go (none? (at (put (arena_word free_pools a) (at x.books (arena_word free_pools a) - 1) x.books) (arena_word free_pools a)))
  where
    go : (t : Bool)
        → only t (arena_leaves usable_head a)
        (heap_of x.memory (put (arena_word free_pools a) (at x.books (arena_word free_pools a) - 1) x.books)
        x.map)
        ≡ heap_of x.memory
        (only t (leave arena_links usable_head a)
        (put (arena_word free_pools a) (at x.books (arena_word free_pools a) - 1) x.books))
        x.map
    go true = refl
    go false = refl

-- the same in the plain heap: the usable arenas us without a, if it gives its last free pool
abbrev pub spent_usable : Bool → ℕ → List ℕ → List ℕ
spent_usable t a us = if t then erase a us else us

pub spend_rows : (t : Bool) (a : ℕ) (x : Plain)
    → (if t then x ▷ set_usable (erase a x.usable) else x) ≡ (x ▷ set_usable (spent_usable t a x.usable))
spend_rows true a x = refl
spend_rows false a x = refl

-- ---- pool p of arena a is taken from its source
-- the plain heap with other arenas
abbrev pub with_arenas : List ℕ → List ℕ → (ℕ → ℕ) → (ℕ → List ℕ) → Plain → Plain
with_arenas usable unused mark freed r =
    record {
      usable = usable;
      unused = unused;
      mark = mark;
      freed = freed;
      listed = r.listed;
      class = r.class;
      chain = r.chain;
      virgin = r.virgin;
      live = r.live;
    }

-- the books b say U₁ then, and the plain heap's arenas are us, un, mark and freed. Pool p, which has no live block,
-- is on no list, and its arena a is the first of the usable ones, which rise by free pools; all else is as the view U
-- and the plain heap r have it
pub record From (al A P p a : ℕ) (b : List ℕ) (U U₁ : View) (r : Plain)
    (us un : List ℕ) (mark : ℕ → ℕ) (freed : ℕ → List ℕ) : Type 0 where
  pub books : Books A (A * P) b U₁
  pub inside : p < A * P
  pub of : p / P ≡ a
  pub idle : count r p ≡ 0
  pub still : Still p a U U₁
  pub homes : (y : ℕ) → y ≢ p → U₁.home y ≡ U.home y
  pub home_p : U₁.home p ≡ 1
  pub arena : ArenaSays P U₁ (with_arenas us un mark freed r) a
  pub lists : ListsSay A U₁ (with_arenas us un mark freed r)
  pub marked : mark a ≢ 0
  pub marks : (x : ℕ) → x ≢ a → mark x ≡ r.mark x
  pub behind : List ℕ
  pub front : us ≡ a ∷ behind
  pub order : Rising (free P r) us
  pub carved_p : carved P (with_arenas us un mark freed r) p ≡ true
  pub carved_others : (y : ℕ) → y < A * P → y ≢ p → carved P (with_arenas us un mark freed r) y ≡ carved P r y

-- the plain heap with pool p set to class c
abbrev pub new_rows : ℕ → ℕ → Plain → Plain
new_rows c p x = x ▷ set_listed c (p ∷ []) ▷ set_class p c ▷ set_virgin p 2 ▷ set_chain p (1 ∷ []) ▷ set_live p 0 true

-- ---- its arena spends it, and it is set to the class, or taken again for its own
module _ {al A P p a c : ℕ} {b m q us un : List ℕ} {U U₁ : View} {r : Plain} {mark : ℕ → ℕ} {freed : ℕ → List ℕ}
    (L : Aligned al) (F : Says al A P U m q r) (O : From al A P p a b U U₁ r us un mark freed)
    (lc : c ≤ last_class al) (lst : r.listed c ≡ []) where
  abbrev s : ℕ
  s = size_of al c

  c_low : c < 64
  c_low = class_low L c lc

  lp : p < A * P
  lp = O.inside

  pools_low : 2 ≤ P
  pools_low = (in_range_lem A P F.range).2

  la : a < A
  la = rw (← O.of) (arena_low A P p pools_low O.inside)

  dead : (j : ℕ) → r.live p j ≡ false
  dead = no_live L F p O.inside O.idle

  -- its block k becomes live: it has one live block, and its arena one free pool fewer
  one_live : (k : ℕ) → k < 512 → count (r ▷ set_live p k true) p ≡ 1
  one_live k l = count_on r p k (dead k) l ∙ ap suc O.idle

  one_less : (k : ℕ) → k < 512 → suc (free P (r ▷ set_live p k true) a) ≡ free P r a
  one_less k l =
      let e : a * P + p % P ≡ p = ap (λ (x : ℕ). x * P + p % P) (sym O.of) ∙ div-add-mod' p P in
      sym (many_more (λ x. not (in_use (r ▷ set_live p k true) (a * P + x))) (λ x. not (in_use r (a * P + x))) (p % P) P (mod-lt p (omega (arith, pools_low)))
      (rw (e, lt-ltb 0 (count (r ▷ set_live p k true) p) (omega (arith, one_live k l)))) (rw (e, le-ltb 0 (count r p) (omega (arith, O.idle))))
      (λ x d. sym (rw (ne_eqb (a * P + x) p (λ z. d (omega (arith, e)))))))

  -- ---- the arena
  free_word_lem : at b (arena_word free_pools a) ≡ free P r a
  free_word_lem = O.books.arenas 2 a (omega arith) la ∙ O.arena.free_is ∙ rw (ne_eqb (mark a) 0 O.marked)

  base_a : U₁.base a ≡ 2
  base_a = O.arena.base_is ∙ base_usable P (with_arenas us un mark freed r) a O.marked (λ z. absurd (omega (arith, one_less 0 (omega arith))))

  -- what the books say once it has spent the pool
  abbrev spent_view : View
  spent_view =
      record {
        head = U₁.head;
        pool = U₁.pool;
        arena = (U₁ ▷ arena_to 2 a (at b (arena_word free_pools a) - 1)).arena;
        home = U₁.home;
        base = λ x. if eqb (free P r a) 1 && eqb x a then 0 else U₁.base x;
        listed = U₁.listed;
        freed = U₁.freed;
        arenas = λ i. if eqb (free P r a) 1 && eqb i 2 then erase a (U₁.arenas 2) else U₁.arenas i;
      }

  spent_books_lem : Books A (A * P) (spent_books a b) spent_view
  spent_books_lem = go (ℕ_discrete (free P r a) 1)
    where
      fewer : Books A (A * P) (put (arena_word free_pools a) (at b (arena_word free_pools a) - 1) b)
          (U₁ ▷ arena_to 2 a (at b (arena_word free_pools a) - 1))
      fewer = put_arena O.books 2 a (at b (arena_word free_pools a) - 1) (omega arith) la

      fewer_is : at (put (arena_word free_pools a) (at b (arena_word free_pools a) - 1) b) (arena_word free_pools a)
          ≡ free P r a - 1
      fewer_is = fewer.arenas 2 a (omega arith) la ∙ rw (eq-eqb a a refl) (ap (λ (x : ℕ). x - 1) free_word_lem)

      go : Dec (free P r a ≡ 1) → Books A (A * P) (spent_books a b) spent_view
      go (yes z) = rw (fewer_is, z) (arena_leaves_lem fewer 2 a (omega arith) la base_a)
      go (no z) = rw (fewer_is, ne_eqb (free P r a) 1 z, ne_eqb (free P r a - 1) 0 (omega (arith, one_less 0 (omega arith)))) fewer

  -- "The pool goes alone on the class list with count 1."
  alone_books : Books A (A * P) (spent_books a b ▷ put (class_head c) (link_to p) ▷ put (pool_word A 2 p) 0
      ▷ put (pool_word A 3 p) 0 ▷ put (pool_word A 0 p) 1)
      (spent_view ▷ home_to p (class_head c) ▷ listed_to c (p ∷ []) ▷ pool_to 0 p 1)
  alone_books = put_pool_lem (pool_alone spent_books_lem c p c_low lp (omega (arith, O.home_p)) (O.lists.listed c c_low ∙ lst)) 0 p 1 (omega arith) lp

  -- ---- what is said after: k is the block that is handed out, ks the chain
  abbrev new_view : (ℕ → ℕ → ℕ) → View
  new_view pools =
      record {
        head = U₁.head;
        pool = pools;
        arena = spent_view.arena;
        home = to p (class_head c) U₁.home;
        base = spent_view.base;
        listed = to c (p ∷ []) U₁.listed;
        freed = U₁.freed;
        arenas = spent_view.arenas;
      }

  abbrev rows_after : ℕ → List ℕ → (ℕ → ℕ) → (ℕ → ℕ) → Plain
  rows_after k ks classes virgins =
      record {
        usable = spent_usable (eqb (free P r a) 1) a us;
        unused = un;
        mark = mark;
        freed = freed;
        listed = to c (p ∷ []) r.listed;
        class = classes;
        chain = to p ks r.chain;
        virgin = virgins;
        live = to p (to k true (r.live p)) r.live;
      }

  settled : (k : ℕ) → k < 512 → (ks : List ℕ) (classes virgins : ℕ → ℕ) (pools : ℕ → ℕ → ℕ) {m' : List ℕ}
      → classes p ≡ c → ((y : ℕ) → y ≢ p → classes y ≡ r.class y) → ((y : ℕ) → y ≢ p → virgins y ≡ r.virgin y)
      → ((w y : ℕ) → y ≢ p → pools w y ≡ U₁.pool w y) → (pools 0 p ≡ 1) × (pools 4 p ≡ c) × (pools 7 p ≡ U₁.pool 7 p)
      → BytesAfter p m m' → InClassOf al (new_view pools) m' (rows_after k ks classes virgins) p
      → Says al A P (new_view pools) m' (put_map_bit p k 1 q) (rows_after k ks classes virgins)
  settled k lk ks classes virgins pools cls others-c others-v others-w words M I =
      stepped L F lp O.of T
      (record {
        heads = O.still.heads;
        pools = λ w y d. others-w w y d ∙ O.still.pools w y d;
        spare = words.2 ∙ O.still.spare;
        arenas = λ w x d. rw (ne_eqb x a d) (O.still.arenas w x d);
        spares = λ w u. rw (eq-eqb a a refl, ne_eqb w 2 (omega arith)) (O.still.spares w u);
        bases = λ x d. rw (ne_eqb x a d, and-false) (O.still.bases x d);
      })
      (record {
        count_is = words.0 ∙ sym (one_live k lk);
        class_is = words.1 ∙ sym cls;
        used = λ _ _. (O.carved_p, rw cls lc);
        rule = λ _. inr I;
        home_is = to_same p (class_head c) U₁.home p refl
            ∙ sym (home_listed al P r' p (omega (arith, one_live k lk)) (rw cls (omega (arith, one_live k lk, capacity_low L c lc))) ∙ ap class_head cls);
      })
      (record {
        open_is = rw (eq-eqb a a refl) O.arena.open_is;
        mark_is = rw (eq-eqb a a refl) O.arena.mark_is;
        mark_high = O.arena.mark_high;
        free_is = free_now_lem ∙ sym (rw (ne_eqb (mark a) 0 O.marked));
        base_is = base_now (ℕ_discrete (free P r a) 1);
      })
      (record {
        listed = λ i l. to_cong c U₁.listed r.listed refl i (O.lists.listed i l);
        freed = O.lists.freed;
        usable = usable_now (eqb (free P r a) 1);
        unused = rw and-false O.lists.unused;
      })
      (rw O.front (rise (ℕ_discrete (free P r a) 1)))
      (homes_same T O.carved_others (λ y l d. to_other p (class_head c) U₁.home y d ∙ O.homes y d ∙ (F.pools y l).home_is)) M k 1 lk (omega arith) refl
    where
      r' : Plain
      r' = rows_after k ks classes virgins

      T : Aside p a r r'
      T = record { marks = O.marks; classes = others-c; chains = λ y d. rw (ne_eqb y p d); virgins = others-v; lives = λ y d. rw (ne_eqb y p d) }

      free_now_lem : (new_view pools).arena 2 a ≡ free P r' a
      free_now_lem = let e : (new_view pools).arena 2 a ≡ at b (arena_word free_pools a) - 1 = rw (eq-eqb a a refl) in omega
          (arith, free_word_lem, one_less k lk)

      base_now : Dec (free P r a ≡ 1) → (new_view pools).base a ≡ base P r' a
      base_now (yes z) = let e : (new_view pools).base a ≡ 0 = rw (z, eq-eqb a a refl) in e ∙ sym (base_spent P r' a O.marked (omega (arith, one_less k lk)))
      base_now (no z) =
          let e : (new_view pools).base a ≡ 2 = rw (ne_eqb (free P r a) 1 z) base_a in
          e ∙ sym (base_usable P r' a O.marked (λ u. z (omega (arith, one_less k lk))))

      -- the arena was the first of them, and each once
      once : Once (a ∷ O.behind)
      once = rw (O.lists.usable ∙ O.front) at (O.books.lists.row 2 (omega arith)).row.once

      was_rising : Rising (free P r) (a ∷ O.behind)
      was_rising = rw O.front at O.order

      rise : Dec (free P r a ≡ 1) → Rising (free P r') (spent_usable (eqb (free P r a) 1) a (a ∷ O.behind))
      rise (yes z) = rw (z, erase_front a O.behind once) (order_aside P O.behind T O.of once.0 was_rising.1)
      rise (no z) =
          rw (ne_eqb (free P r a) 1 z)
          (rising_falls (free P r) (free P r') a O.behind (omega (arith, one_less k lk))
          (all_map {R = λ y. free P r' y ≡ free P r y} (λ y (d : a ≢ y). free_same P y T O.of (flip d)) O.behind once.0) was_rising)

      usable_now : (t : Bool) → (if t && true then erase a (U₁.arenas 2) else U₁.arenas 2) ≡ spent_usable t a us
      usable_now true = ap (erase a) O.lists.usable
      usable_now false = O.lists.usable

  -- ---- "Otherwise class is set, .. and the answer is 48."
  abbrev set_to : Heap → Heap
  set_to x =
      x
      ▷ alone al A P c p
      ▷ put_word (pool_word A classWord p) c
      ▷ put_word (pool_word A nextoffset p) (48 + 2 * size_of al c)
      ▷ put_word (pool_word A maxnextoffset p) (last_start (size_of al c))
      ▷ put_word (pool_word A freeblock p) (48 + size_of al c)
      ▷ no_link_at al A P c p (48 + size_of al c)
      ▷ hand_out al A P c p 48

  pub set_anew_lem : Sound al A P (set_to (heap_of m (spent_books a b) q))
      (new_rows c p (with_arenas (spent_usable (eqb (free P r a) 1) a us) un mark freed r))
      × Quiet al A P m (set_to (heap_of m (spent_books a b) q)).memory
      (new_rows c p (with_arenas (spent_usable (eqb (free P r a) 1) a us) un mark freed r))
  set_anew_lem = (
    sound {h = h'} L K' F',
    subst (λ (o : ℕ). Quiet al A P m (put_link o 0 m) r') place
        (quiet_link L F' p 1 0 (rw class' lc) (rw class' (omega (arith, capacity_low L c lc))) dead₁),
  )
    where
      r' : Plain
      r' = new_rows c p (with_arenas (spent_usable (eqb (free P r a) 1) a us) un mark freed r)

      h' : Heap
      h' = set_to (heap_of m (spent_books a b) q)

      class' : r'.class p ≡ c
      class' = to_same p c r.class p refl

      place : offset_of p (start_of (size_of al (r'.class p)) 1) ≡ offset_of p (48 + s)
      place = ap (λ (x : ℕ). offset_of p (start_of (size_of al x) 1)) class' ∙ omega arith

      dead₁ : r'.live p 1 ≡ false
      dead₁ = rw (eq-eqb p p refl) (dead 1)

      U' : View
      U' =
          spent_view ▷ home_to p (class_head c) ▷ listed_to c (p ∷ []) ▷ pool_to 0 p 1 ▷ pool_to 4 p c ▷ pool_to 5 p (48 + 2 * s) ▷ pool_to 6 p (last_start s)
          ▷ pool_to 1 p (48 + s)

      K' : Books A (A * P) h'.books U'
      K' =
          put_pool_lem (put_pool_lem (put_pool_lem (put_pool_lem alone_books 4 p c (omega arith) lp) 5 p (48 + 2 * s) (omega arith) lp) 6 p (last_start s)
          (omega arith) lp) 1 p
          (48 + s) (omega arith) lp

      I : InClassOf al U' h'.memory r' p
      I =
          record {
            class_low = rw class' lc;
            maxnextoffset_is = rw (eq-eqb p p refl);
            blocks = rw (eq-eqb p p refl)
                (anew s p m (r.live p) (omega (arith, size_low L c lc)) (omega (arith, size_high L c lc)) (omega (arith, F.bytes, lp)) dead);
            two = λ z. absurd (omega (arith, z, one_live 0 (omega arith)));
            one = λ _. rw (eq-eqb p p refl) (omega arith);
          }

      F' : Says al A P U' h'.memory h'.map r'
      F' =
          rw (first_block s (omega (arith, size_low L c lc)) (omega (arith, size_high L c lc))).1
          (settled 0 (omega arith) (1 ∷ []) r'.class r'.virgin U'.pool class'
          (λ y d. rw (ne_eqb y p d)) (λ y d. rw (ne_eqb y p d)) (λ w y d. rw (ne_eqb y p d))
          (rw (eq-eqb p p refl) (refl, refl, refl)) (link_after m p (48 + s) 0 (omega (arith, size_high L c lc))) I)

  -- ---- "If its class is already the wanted one, the answer is its freeblock, which becomes that block's link."
  abbrev take_for : ℕ → ℕ → Heap → Heap
  take_for f l x = x ▷ alone al A P c p ▷ put_word (pool_word A freeblock p) l ▷ hand_out al A P c p f

  pub taken_again_lem : (k j : ℕ) (js : List ℕ) → r.class p ≡ c
      → Blocks s p m (U.pool 1 p) (U.pool 5 p) (r.live p) (k ∷ j ∷ js) (r.virgin p) → U.pool 6 p ≡ last_start s
      → ((w : ℕ) → U₁.pool w p ≡ U.pool w p)
      → Sound al A P (take_for (start_of s k) (start_of s j) (heap_of m (spent_books a b) q))
      (with_arenas (spent_usable (eqb (free P r a) 1) a us) un mark freed r ▷ set_listed c (p ∷ [])
      ▷ set_chain p (j ∷ js)
      ▷ set_live p k true)
  taken_again_lem k j js cls B max words = sound {h = h'} L K' F'
    where
      r' : Plain
      r' = with_arenas (spent_usable (eqb (free P r a) 1) a us) un mark freed r ▷ set_listed c (p ∷ []) ▷ set_chain p (j ∷ js) ▷ set_live p k true

      h' : Heap
      h' = take_for (start_of s k) (start_of s j) (heap_of m (spent_books a b) q)

      k_low : k < 512
      k_low = omega (arith, B.below.0, B.fits, capacity_high L c lc)

      U' : View
      U' = spent_view ▷ home_to p (class_head c) ▷ listed_to c (p ∷ []) ▷ pool_to 0 p 1 ▷ pool_to 1 p (start_of s j)

      K' : Books A (A * P) h'.books U'
      K' = put_pool_lem alone_books 1 p (start_of s j) (omega arith) lp

      I : InClassOf al U' m r' p
      I =
          record {
            class_low = rw cls lc;
            maxnextoffset_is = rw (eq-eqb p p refl, words 6, cls) max;
            blocks = rw (eq-eqb p p refl, words 5, cls) (rw B.chained.1.0 at (taken k B));
            two = λ z. absurd (omega (arith, z, one_live k k_low));
            one = λ _. rw (eq-eqb p p refl) (omega arith);
          }

      F' : Says al A P U' m h'.map r'
      F' =
          rw (number_is s k (omega (arith, size_low L c lc)))
          (settled k k_low (j ∷ js) r.class r.virgin U'.pool cls (λ y d. refl) (λ y d. refl) (λ w y d. rw (ne_eqb y p d))
          (rw (eq-eqb p p refl) (refl, words 4 ∙ (F.pools p lp).class_is ∙ cls, refl)) (no_bytes p m) I)
