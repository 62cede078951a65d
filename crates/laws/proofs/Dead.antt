-- W-206 over a sound heap: a block, live or dead, stays one through every event, unless its pool is set to another
-- class or its arena is released. It holds because nothing else lowers a nextoffset or a mark.
-- Assumes nothing.
use Rattle.std.proofs.Math.Path.{◌≡◌, refl, sym, ap}
use Rattle.std.proofs.Common.{◌∙◌, inl, inr, true≢false}
use Rattle.std.specs.Prelude.{◌⊎◌, Bool, not, ◌&&◌, ◌||◌, List, [], ℕ, zero, suc, ◌+◌, ◌*◌, ◌/◌, ◌%◌, ◌≤◌, ◌<◌, ltb, eqb, length, set, if◌then◌else◌}
use Rattle.std.proofs.Math.Bool.{true, false}
use Rattle.std.proofs.Math.Nat.{mul-le-mul_right, suc-mul}
use Rattle.std.proofs.Math.Decide.{ℕ_discrete}
use native.Mathlib.Omega.{arith}
use Rattle.std.proofs.Math.Dec.{eqb-suc-zero}
use Rattle.std.proofs.lemmas.List.Edits.{sets}
use borrow.Author.Tests.{ne_eqb, lt-ltb, ltb-true, eqb-true, not-false}
use Rattle.rules.specs.Books.{
  Heap,
  in_range,
  exact,
  is_set,
  arenas,
  pools,
  is_edition,
  alignment_of,
  alignment,
  class,
  nextoffset,
  pool,
  carved as is_carved,
}
use Rattle.rules.specs.Blocks.{
  class_of,
  size_of,
  last_class,
  start_of,
  block_no,
  class_at,
  size_at,
  at_start,
  live,
  is_block,
  dead_number,
  live_number,
}
use Rattle.rules.specs.Outcome.{Outcome, heap_of, refused, done}
use Rattle.rules.specs.Ask.{ask_answer}
use Rattle.rules.specs.Numbers.{
  shape_number,
  room_number,
  in_order,
  offset_number,
  block_size,
  format,
  ask,
  give_back,
  resize,
  write,
}
use Rattle.books.specs.Known.{shaped, at_start_is, live_zero, live_is}
use Rattle.books.specs.Tests.{both, neither, either}
use Rattle.books.specs.Sizes.{Aligned, aligned, size_low, class_low}
use Rattle.sequences.specs.Update.{is_false, to, to_same, to_other}
use Rattle.sound.specs.Plain.{Plain, carved, plan_ask as plainAsk, ask_plain, back_plain}
use Rattle.sound.specs.Chains.{live_below}
use Rattle.sound.specs.Sound.{Sound}
use Rattle.sound.specs.Held.{held, arena_low, opened, open_word_lem, carved_word, classed}
use Rattle.laws.specs.Holding.{holding}
use Rattle.sound.specs.Fresh.{fresh_heap, fresh_sound, format_cases}
use Rattle.laws.specs.Calls.{
  ask_done,
  ask_leaves,
  ask_cases,
  plain_back,
  block_of,
  back_dead,
  back_is,
  back_leaves,
}
use Rattle.laws.specs.Resized.{copied, copied_sound, still_live, resize_moves, resize_cases}
use Rattle.laws.specs.Free.{live_held}
use Rattle.laws.specs.Refused.{tested}
use Rattle.laws.specs.History.{
  Event,
  formats,
  asks,
  gives,
  resizes,
  views,
  sizes,
  stands_in,
  writes,
  rolls,
  audits,
  compares,
  pokes,
  State,
  pool_class,
  in_open_arena,
  released,
  after,
  ended,
}
use Rattle.laws.proofs.Tied.{Tied}

-- ---- what the test of a block says
record BlockAt (al A P : ℕ) (b : List ℕ) (o : ℕ) : Type 0 where
  pub starts : at_start al A P b o ≡ true
  pub inside : o / 4096 < A * P
  pub low : class_at A b o ≤ last_class al
  pub below : o % 4096 < pool A b nextoffset (o / 4096)
  pub cut : is_carved P b (o / 4096) ≡ true

block_is : (al A P : ℕ) (b : List ℕ) (o : ℕ) → is_block al A P b o ≡ true → BlockAt al A P b o
unfolding is_block
block_is al A P b o e =
    let u = ltb (o % 4096) (pool A b nextoffset (o / 4096)) in
    let s = both (at_start al A P b o && u) (is_carved P b (o / 4096)) e in
    let t = both (at_start al A P b o) u s.0 in
    let a = at_start_is al A P b o t.0 in
    record {
      starts = t.0;
      inside = omega (arith, a.0);
      low = a.1;
      below = ltb-true (o % 4096) (pool A b nextoffset (o / 4096)) t.1;
      cut = s.1;
    }

-- ---- a sound heap, and an offset of one of its pools
module _ {al A P : ℕ} {h : Heap} {r : Plain} (L : Aligned al) (S : Sound al A P h r) where
  pools_low : 2 ≤ P
  pools_low = (shaped h A P S.rule1.range S.rule1.lengths).pools_low

  same_carved : (p : ℕ) → p < A * P → is_carved P h.books p ≡ carved P r p
  same_carved = carved_word L (held S).books (held S).says

  -- nextoffset is where the first virgin block starts
  next_is : (p : ℕ) → p < A * P → carved P r p ≡ true → pool A h.books class p ≤ last_class al
      → pool A h.books nextoffset p ≡ start_of (size_of al (pool A h.books class p)) (r.virgin p)
  next_is p l c low = (classed (S.rule8 p l (same_carved p l ∙ c)) (class_low L (pool A h.books class p) low)).blocks.next_is

  -- an arena is open exactly if its mark is not 0
  open_is : (o : ℕ) → o / 4096 < A * P → in_open_arena h o ≡ not (eqb (r.mark (o / 4096 / P)) 0)
  open_is o l =
      rw (S.rule1.pools_are, open_word_lem L (held S).books (held S).says (o / 4096 / P) (arena_low A P (o / 4096) pools_low l))
      (go (r.mark (o / 4096 / P)))
    where
      go : (mark : ℕ) → eqb (opened mark) 1 ≡ not (eqb mark 0)
      go zero = refl
      go (suc mark) = rw (eqb-suc-zero mark)

  -- a block lies in a carved pool, and so in an open arena
  in_carved : (o : ℕ) → is_block al A P h.books o ≡ true → carved P r (o / 4096) ≡ true
  in_carved o e = let t = block_is al A P h.books o e in sym (same_carved (o / 4096) t.inside) ∙ t.cut

  pub block_open : (o : ℕ) → is_block al A P h.books o ≡ true → in_open_arena h o ≡ true
  block_open o e =
      let t : o / 4096 % P < r.mark (o / 4096 / P) = ltb-true (o / 4096 % P) (r.mark (o / 4096 / P)) (in_carved o e) in
      open_is o (block_is al A P h.books o e).inside ∙ rw (ne_eqb (r.mark (o / 4096 / P)) 0 (λ z. absurd (omega arith)))

  -- a live block is a block
  live_block : (o : ℕ) → live al A P h.books h.map o ≡ true → is_block al A P h.books o ≡ true
  unfolding live is_block
  live_block o e =
      let p = o / 4096 in
      let s = size_at al A h.books o in
      let k = block_no s (o % 4096) in
      let t = live_is L A P h.books h.map o e in
      let cut = (S.rule5 p k t.pool (omega (arith, t.start.few)) t.set).in_carved in
      let on : r.live p k ≡ true = sym (S.bits p k t.pool (omega (arith, t.start.few))) ∙ t.set in
      let B = (classed (S.rule8 p t.pool cut) (class_low L (class_at A h.books o) t.class)).blocks in
      let below : o % 4096 < pool A h.books nextoffset p =
      omega (
        arith,
        B.next_is,
        t.start.place,
        mul-le-mul_right s (live_below B k on),
        suc-mul k s,
        size_low L (class_at A h.books o) t.class,
      ) in
      rw (
        (both (at_start al A P h.books o) (is_set h.map p k) e).0,
        lt-ltb (o % 4096) (pool A h.books nextoffset p) below,
        cut,
      )

-- ---- two sound heaps, and a block of the first
module _ {al A P : ℕ} {h h' : Heap} {r r' : Plain} (L : Aligned al) (S : Sound al A P h r) (S' : Sound al A P h' r')
    (o : ℕ) (e : is_block al A P h.books o ≡ true) where
  t : BlockAt al A P h.books o
  t = block_is al A P h.books o e

  -- its pool has the same class in both exactly if it has in both plain heaps
  plain_class : class_at A h'.books o ≡ class_at A h.books o → r'.class (o / 4096) ≡ r.class (o / 4096)
  plain_class same = sym (S'.classes (o / 4096) t.inside) ∙ same ∙ S.classes (o / 4096) t.inside

  -- it is a block of the second, where its pool has the same class, no fewer blocks that are not virgin, and is carved
  block_stays : class_at A h'.books o ≡ class_at A h.books o → r.virgin (o / 4096) ≤ r'.virgin (o / 4096)
      → carved P r' (o / 4096) ≡ true → is_block al A P h'.books o ≡ true
  unfolding is_block
  block_stays same more cut =
      let p = o / 4096 in
      let low : class_at A h'.books o ≤ last_class al = rw same t.low in
      let was = next_is L S p t.inside (in_carved L S o e) t.low in
      let now = next_is L S' p t.inside cut low ∙ ap (λ (c : ℕ). start_of (size_of al c) (r'.virgin p)) same in
      let s = size_of al (class_at A h.books o) in
      rw (
        same,
        t.starts,
        lt-ltb (o % 4096) (pool A h'.books nextoffset p) (omega (arith, was, now, t.below, mul-le-mul_right s more)),
        same_carved L S' p t.inside,
        cut,
      )

-- ---- from the heap h to the heap h' the block at o stays one, if its pool has the same class and its arena is open
abbrev Stays : ℕ → Heap → Heap → Type 0
Stays o h h' =
    pool_class h' o ≡ pool_class h o → in_open_arena h' o ≡ true
    → is_block (alignment h') (arenas h') (pools h') h'.books o ≡ true

-- by the shape that both heaps have
module _ {al A P : ℕ} {h h' : Heap} {r r' : Plain} (S : Sound al A P h r) (S' : Sound al A P h' r') (o : ℕ) where
  stays : (class_at A h'.books o ≡ class_at A h.books o → in_open_arena h' o ≡ true
      → is_block al A P h'.books o ≡ true)
      → Stays o h h'
  stays f =
      λ same opens.
      rw (S'.rule1.alignment_is, S'.rule1.arenas_are, S'.rule1.pools_are) (f (rw (S.rule1.arenas_are, S'.rule1.arenas_are) at same) opens)

-- a give-back of a live block leaves every class
back_class : {al A P : ℕ} {h : Heap} {r : Plain} (L : Aligned al) (S : Sound al A P h r) (o : ℕ) → o / 4096 < A * P
    → (x : ℕ) → live al A P h.books h.map x ≡ true
    → class_at A (give_back h x).heap.books o ≡ class_at A h.books o
back_class {P = P} {r = r} L S o l x on =
    let t = block_of L S x on in
    (back_leaves L S x on).sound.classes (o / 4096) l
    ∙ ap (λ (f : ℕ → ℕ). f (o / 4096)) (plain_back P r t.pool t.block x).2
    ∙ sym (S.classes (o / 4096) l)

-- ---- the calls, over a sound heap with a block at o
module _ {al A P : ℕ} {h : Heap} {r : Plain} (L : Aligned al) (S : Sound al A P h r)
    (o : ℕ) (e : is_block al A P h.books o ≡ true) where
  inside : o / 4096 < A * P
  inside = (block_is al A P h.books o e).inside

  -- a refusal changes nothing
  same_stays : Stays o h h
  same_stays = stays S S o (λ _ _. e)

  -- an ask lowers no mark, and no nextoffset but where it sets a pool to another class
  ask_block : (n : ℕ) → 1 ≤ n → n ≤ 512 → {h' : Heap} → Sound al A P h' (ask_plain al P r n)
      → class_at A h'.books o ≡ class_at A h.books o → is_block al A P h'.books o ≡ true
  ask_block n lo hi S' same =
      let G = (ask_done L S n lo hi).grows in
      block_stays L S S' o e same (G.ready_still (o / 4096) (in_carved L S o e) (plain_class L S S' o e same))
      (G.carved_still (o / 4096) inside (in_carved L S o e))

  ask_stays : (n : ℕ) → Stays o h (ask h n).heap
  ask_stays n =
      ask_cases L S n (λ (y : Outcome). Stays o h y.heap) same_stays same_stays
      (λ lo hi z. let S' = (ask_leaves L S n lo hi z).sound in stays S S' o (λ same _. ask_block n lo hi S' same))

  -- a give-back of the live block at x leaves every nextoffset, and every mark but that of the arena that it releases
  module _ (x : ℕ) (on : live al A P h.books h.map x ≡ true) where
    abbrev p : ℕ
    p = (block_of L S x on).pool

    abbrev k : ℕ
    k = (block_of L S x on).block

    S₁ : Sound al A P (give_back h x).heap (back_plain P r p k)
    S₁ = (back_leaves L S x on).sound

    back_block : in_open_arena (give_back h x).heap o ≡ true
        → is_block al A P (give_back h x).heap.books o ≡ true
    back_block opens =
        let z = plain_back P r p k x in
        block_stays L S S₁ o e (back_class L S o inside x on) (omega (arith, ap (λ (f : ℕ → ℕ). f (o / 4096)) z.3)) (cut z.4)
      where
        a : ℕ
        a = o / 4096 / P

        same_mark : (back_plain P r p k).mark a ≡ r.mark a → carved P (back_plain P r p k) (o / 4096) ≡ true
        same_mark q = ap (ltb (o / 4096 % P)) q ∙ in_carved L S o e

        other : (q : Dec (a ≡ p / P)) → to (p / P) 0 r.mark a ≡ (back_plain P r p k).mark a
            → (back_plain P r p k).mark a ≡ r.mark a
        other (no q) f = sym f ∙ to_other (p / P) 0 r.mark a q
        other (yes q) f =
            let shut : (back_plain P r p k).mark a ≡ 0 = sym f ∙ to_same (p / P) 0 r.mark a q in
            absurd (true≢false (sym opens ∙ open_is L S₁ o inside ∙ rw shut))

        cut : ((back_plain P r p k).mark ≡ r.mark) ⊎ ((back_plain P r p k).mark ≡ to (p / P) 0 r.mark)
            → carved P (back_plain P r p k) (o / 4096) ≡ true
        cut (inl q) = same_mark (ap (λ (f : ℕ → ℕ). f a) q)
        cut (inr q) = same_mark (other (ℕ_discrete a (p / P)) (sym (ap (λ (f : ℕ → ℕ). f a) q)))

  back_stays_lem : (x : ℕ) → Stays o h (give_back h x).heap
  back_stays_lem x = go (live al A P h.books h.map x) refl
    where
      go : (t : Bool) → live al A P h.books h.map x ≡ t → Stays o h (give_back h x).heap
      go true on = stays S (back_leaves L S x on).sound o (λ _. back_block x on)
      go false off = rw (back_dead L S x off) same_stays

-- a resize is an ask, a copy, which leaves the books, and a give-back, which leaves the classes
module _ {al A P : ℕ} {h : Heap} {r : Plain} (L : Aligned al) (S : Sound al A P h r)
    (o : ℕ) (e : is_block al A P h.books o ≡ true) (x n : ℕ) where
  resize_stays : Stays o h (resize h x n).heap
  resize_stays =
      resize_cases L S x n (λ (y : Outcome). Stays o h y.heap) here here here here
      (λ lo hi on q z. rw (resize_moves L S x n lo hi on z q) (moves lo hi on z))
    where
      here : Stays o h h
      here = same_stays L S o e

      moves : (lo : 1 ≤ n) (hi : n ≤ 512) (on : live al A P h.books h.map x ≡ true)
          (z : (ask_answer (plainAsk al P r (class_of al n))).number ≡ 0)
          → Stays o h (give_back (copied L S x n lo hi on z) x).heap
      moves lo hi on z = stays S (back_leaves L C x on₁).sound o go
        where
          C : Sound al A P (copied L S x n lo hi on z) (ask_plain al P r n)
          C = copied_sound L S x n lo hi on z

          on₁ : live al A P (copied L S x n lo hi on z).books (copied L S x n lo hi on z).map x ≡ true
          on₁ = still_live L S x n lo hi on z

          go : class_at A (give_back (copied L S x n lo hi on z) x).heap.books o ≡ class_at A h.books o
              → in_open_arena (give_back (copied L S x n lo hi on z) x).heap o ≡ true
              → is_block al A P (give_back (copied L S x n lo hi on z) x).heap.books o ≡ true
          go same opens =
              let l = (block_is al A P h.books o e).inside in
              back_block L C o (ask_block L S o e n lo hi C (sym (back_class L C o l x on₁) ∙ same)) x on₁ opens

-- ---- every event
module _ (m₀ : List ℕ) {x : State} (T : Tied m₀ x)
    (o : ℕ) (b : is_block (alignment_of x.told) T.A T.P x.heap.books o ≡ true) where
  L : Aligned (alignment_of x.told)
  L = aligned x.told

  here : Stays o x.heap x.heap
  here = same_stays L T.sound o b

  -- a format that is done closes every arena
  format_stays : (A P e : ℕ) → Stays o x.heap (format x.heap A P e).heap
  format_stays A P e =
      format_cases x.heap A P e (λ (y : Outcome). Stays o x.heap y.heap) here here
      (λ range known f _ opens. absurd (true≢false (sym opens ∙ shut range known f)))
    where
      shut : in_range A P ≡ true → is_edition e ≡ true → exact A P x.heap ≡ true
          → in_open_arena (fresh_heap x.heap.memory A P e) o ≡ false
      shut range known f =
          let long = (shaped x.heap A P range f).memory in
          let l = (block_is (alignment_of x.told) T.A T.P x.heap.books o b).inside in
          open_is (aligned e) (fresh_sound A P e x.heap.memory range known long) o
          (omega (arith, long, l, (held T.sound).says.bytes))

  -- a write and a holder's byte change memory alone
  memory_stays : (m : List ℕ) → Stays o x.heap (heap_of m x.heap.books x.heap.map)
  memory_stays m = λ _ _. let shape = T.sound.rule1 in rw (shape.alignment_is, shape.arenas_are, shape.pools_are) b

  write_stays : (y : ℕ) (text : List ℕ) → Stays o x.heap (write x.heap y text).heap
  unfolding write
  write_stays y text =
      tested (λ (z : Outcome). Stays o x.heap z.heap) x.heap
      (in_order (shape_number x.heap) 0 (offset_number x.heap y) (room_number (length text) (block_size x.heap y)))
      (done y (heap_of (sets x.heap.memory y text) x.heap.books x.heap.map))
      (λ j. here) (λ _. memory_stays (sets x.heap.memory y text))

  pub event_stays : (e : Event) → Stays o x.heap (after x e).heap
  unfolding after
  event_stays (formats A P e) = format_stays A P e
  event_stays (asks n) = ask_stays L T.sound o b n
  event_stays (gives y) = back_stays_lem L T.sound o b y
  event_stays (resizes y n) = resize_stays L T.sound o b y n
  event_stays (views y) = here
  event_stays (sizes y) = here
  event_stays (stands_in y phrase) = here
  event_stays (writes y text) = write_stays y text
  event_stays (rolls words) = here
  event_stays audits = here
  event_stays (compares t other list lent) = here
  event_stays (pokes y d v) =
      either (λ (s : State). Stays o x.heap s.heap) (ltb d (length (x.ledger y))) _ _
      (λ _. memory_stays (set x.heap.memory (y + d) v)) (λ _. here)

-- ---- which number an offset gets
module _ {al A P : ℕ} {h : Heap} {r : Plain} (L : Aligned al) (S : Sound al A P h r) (o : ℕ) where
  number_is : (k : ℕ) → (give_back h o).answer.number ≡ k → live_number al A P h.books h.map o ≡ k
  unfolding live_number
  number_is k z = go (live al A P h.books h.map o) refl
    where
      go : (t : Bool) → live al A P h.books h.map o ≡ t → (if t then 0 else dead_number al A P h.books o) ≡ k
      go true e = sym (ap (λ (y : Outcome). y.answer.number) (back_is L S o e)) ∙ z
      go false e = sym (ap (λ (y : Outcome). y.answer.number) (back_dead L S o e)) ∙ z

  -- 0: it is live. 10: it is not live, and there is a block
  pub done_live : (give_back h o).answer.number ≡ 0 → live al A P h.books h.map o ≡ true
  done_live z = live_zero al A P h.books h.map o (number_is 0 z)

  pub ten_block : (give_back h o).answer.number ≡ 10 → is_block al A P h.books o ≡ true
  unfolding live_number
  ten_block z = go (live al A P h.books h.map o) (is_block al A P h.books o) (number_is 10 z)
    where
      go : (t u : Bool) → ◌≡◌ {A = ℕ} (if t then 0 else if u then 10 else 5) 10 → u ≡ true
      go true u q = absurd (omega arith)
      go false true q = refl
      go false false q = absurd (omega arith)

  pub block_ten : live al A P h.books h.map o ≡ false → is_block al A P h.books o ≡ true
      → (give_back h o).answer.number ≡ 10
  block_ten e b = ap (λ (y : Outcome). y.answer.number) (back_dead L S o e) ∙ rw b

  -- a second give-back, right after the first
  pub twice : live al A P h.books h.map o ≡ true
      → give_back (give_back h o).heap o
      ≡ refused (if released h (give_back h o).heap o then 5 else 10) (give_back h o).heap
  twice on = back_dead L S₁ o off ∙ ap (λ (k : ℕ). refused k once) (by_arena (in_open_arena once o) refl)
    where
      once : Heap
      once = (give_back h o).heap

      S₁ : Sound al A P once (back_plain P r (block_of L S o on).pool (block_of L S o on).block)
      S₁ = (back_leaves L S o on).sound

      off : live al A P once.books once.map o ≡ false
      off =
          is_false (live al A P once.books once.map o)
          (λ u. live_held L S₁ o u ((back_leaves L S o on).holds o ∙ to_same o [] (holding al A P h) o refl))

      b : is_block al A P h.books o ≡ true
      b = live_block L S o on

      was_open : in_open_arena h o ≡ true
      was_open = block_open L S o b

      shut : in_open_arena once o ≡ false → is_block al A P once.books o ≡ false
      shut f = is_false (is_block al A P once.books o) (λ u. true≢false (sym (block_open L S₁ o u) ∙ f))

      by_arena : (t : Bool) → in_open_arena once o ≡ t
          → dead_number al A P once.books o ≡ (if released h once o then 5 else 10)
      by_arena true f = rw (back_block L S o b o on f, was_open, f)
      by_arena false f = rw (shut f, was_open, f)

-- ---- what it says that an event does not end a dead block
pub record NotEnded (x y : State) (o : ℕ) : Type 0 where
  pub held : length (y.ledger o) ≡ 0
  pub class : pool_class y.heap o ≡ pool_class x.heap o
  pub arena : in_open_arena x.heap o ≡ true → in_open_arena y.heap o ≡ true

pub not_ended : (x : State) (e : Event) (o : ℕ) → ended x e o ≡ false → NotEnded x (after x e) o
unfolding ended
not_ended x e o n =
    let y = after x e in
    let t = neither (not (eqb (length (y.ledger o)) 0) || not (eqb (pool_class y.heap o) (pool_class x.heap o))) _ n in
    let u = neither (not (eqb (length (y.ledger o)) 0)) _ t.0 in
    record {
      held = eqb-true (length (y.ledger o)) 0 (not-false _ u.0);
      class = eqb-true (pool_class y.heap o) (pool_class x.heap o) (not-false _ u.1);
      arena = λ w. not-false (in_open_arena y.heap o) (rw w at t.1);
    }
