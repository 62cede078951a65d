-- W-201's audit says yes exactly where a heap holds a plain heap soundly. Where it says yes, that is the plain heap
-- which is read off it: its lists and chains as long as they should be, its virgin blocks from nextoffset on.
-- Assumes nothing.
use Rattle.std.specs.Prelude.{◌≡◌, Bool, ◌&&◌, List, ℕ, ◌*◌, ◌≤◌, ◌<◌, ltb, if◌then◌else◌}
use Rattle.std.proofs.Math.Path.{refl, sym}
use Rattle.std.proofs.Common.{◌∙◌}
use Rattle.std.proofs.Math.Logic.{inl, inr}
use Rattle.std.proofs.Math.Bool.{true, false, not}
use Rattle.std.proofs.Math.Decide.{ℕ_discrete}
use native.Mathlib.Omega.{arith}
use Rattle.std.proofs.Math.Dec.{leb, eqb}
use borrow.Author.Tests.{eq-eqb, ne_eqb, lt-ltb, le-ltb, leb-true, eqb-true}
use Rattle.rules.specs.Say.{all_below}
use Rattle.rules.specs.Books.{
  Heap,
  at,
  is_set,
  arenas,
  pools,
  alignment,
  usable_head,
  unused_head,
  class_head,
  open_word,
  carve_mark,
  free_pools,
  freed_head,
  arena_next,
  arena_previous,
  arena_word,
  arena,
  count as countWord,
  freeblock,
  pool_next,
  pool_previous,
  class,
  nextoffset,
  maxnextoffset,
  no_class,
  pool_word,
  pool,
  none?,
  linked,
  carved as is_carved,
}
use Rattle.rules.specs.Blocks.{size_of, last_class}
use Rattle.rules.specs.Numbers.{shape_number}
use Rattle.rules.specs.Audit.{
  set_bits,
  is_freed,
  is_full,
  rule1,
  rule2,
  rule3,
  rule4,
  rule5,
  freed_member,
  freed_list,
  usable_member,
  unused_member,
  arena_list,
  class_member,
  class_list,
  pool_keeps6,
  arena_keeps6,
  rule6,
  rule7,
  all_else_zero,
  virgin,
  is_divided,
  pool_keeps8,
  rule8,
  arena_keeps9,
  rule9,
  broken,
  audit_by,
  audit,
}
use Rattle.books.specs.Tests.{both}
use Rattle.books.specs.Passing.{before_zero}
use Rattle.books.specs.Known.{in_range_lem}
use Rattle.books.specs.Sizes.{Aligned, aligned}
use Rattle.sequences.specs.Sequences.{All, all_map}
use Rattle.sequences.specs.Rising.{Rising, rising_same, LinkRises, links_rising}
use Rattle.sequences.specs.Counting.{every_is, implied}
use Rattle.sequences.specs.Families.{At}
use Rattle.sequences.specs.Walks.{list_read, Whole, holds_is, doubly_read, singly_read}
use Rattle.sound.specs.Books.{ArenaHead}
use Rattle.sound.specs.Plain.{Plain, count, free}
use Rattle.sound.specs.Sound.{home, base, arena_rows, Shape, Open, Lists, Unset, PoolRule, Sound}
use Rattle.sound.specs.Divided.{chain_of, divided_is}
use Rattle.sound.specs.Grounds.{
  unbroken,
  zero_shape,
  shape_zero,
  zeros_are,
  are_zeros,
  closed_are,
  are_closed,
  open_are,
  are_open,
  bits_are,
  are_bits,
  counts_are,
  are_counts,
  Ground,
  count_same,
}
use Rattle.sound.specs.Members.{pool_same, arena_member, arena_same, arena_member_lem, usable_free}
use Rattle.sound.specs.Passes.{are_lists, are_pools, is_order}

-- ---- the plain heap that is read off a heap
abbrev pub plain_by : ℕ → ℕ → ℕ → Heap → Plain
plain_by al A P h =
    record {
      usable = list_read (arena_word arena_next) (usable_member h.books) A h.books usable_head;
      unused = list_read (arena_word arena_next) (unused_member h.books) A h.books unused_head;
      mark = λ a. arena h.books carve_mark a;
      freed = λ a. list_read (pool_word A pool_next) (freed_member P h.books h.map a) (A * P) h.books (arena_word freed_head a);
      listed = λ c. list_read (pool_word A pool_next) (class_member al A P h.books h.map c) (A * P) h.books (class_head c);
      class = λ n. pool A h.books class n;
      chain = λ n. chain_of (size_of al (pool A h.books class n)) A h.memory h.books h.map n;
      virgin = λ n. virgin (size_of al (pool A h.books class n)) A h.books n;
      live = λ n k. ltb k 512 && is_set h.map n k;
    }

abbrev pub plain_of : Heap → Plain
plain_of h = plain_by (alignment h) (arenas h) (pools h) h

-- ---- a heap of which every rule holds
module _ (al A P : ℕ) (h : Heap) where
  abbrev b : List ℕ
  b = h.books

  abbrev map : List ℕ
  map = h.map

  abbrev r : Plain
  r = plain_by al A P h

  record Passed : Type 0 where
    shape : Shape al A P h
    test2 : rule2 A P b ≡ true
    test3 : rule3 A b ≡ true
    test4 : rule4 A P b map ≡ true
    test5 : rule5 al A P b map ≡ true
    test6 : rule6 al A P b map ≡ true
    test7 : rule7 A P b map ≡ true
    test8 : rule8 al A P h.memory b map ≡ true
    test9 : rule9 A b ≡ true

  module _ (L : Aligned al) (T : Passed) where
    G : Ground al A P h r
    G =
        record {
          pools_low = (in_range_lem A P T.shape.range).2;
          marks = λ a l. refl;
          classes = λ n l. refl;
          bits = λ n k l u. rw (lt-ltb k 512 u);
          rule2 = zeros_are A P b T.test2;
          rule3 = closed_are A b T.test3;
          rule5 = bits_are al A P b map T.test5;
        }

    beyond : (n k : ℕ) → n < A * P → 512 ≤ k → r.live n k ≡ false
    beyond n k l u = rw (le-ltb k 512 u)

    opens : (a : ℕ) → a < A → arena b open_word a ≡ 1 → Open P b r a
    opens = open_are G T.test4

    counts : (n : ℕ) → n < A * P → pool A b countWord n ≡ count r n
    counts = counts_are G T.test7

    -- ---- rule 6
    zeros : (x y : ℕ) → (eqb x 0 && eqb y 0) ≡ true → (x ≡ 0) × (y ≡ 0)
    zeros x y e = let t = both (eqb x 0) (eqb y 0) e in (eqb-true x 0 t.0, eqb-true y 0 t.1)

    lists : Lists al A P b r
    unfolding rule6 pool_keeps6 arena_keeps6
    lists =
        let t₀ = both _ (all_below (arena_keeps6 b) A) T.test6 in
        let t₁ = both _ (all_below (pool_keeps6 al A P b map) (A * P)) t₀.0 in
        let t₂ = both _ (all_below (class_list al A P b map) 64) t₁.0 in
        let t₃ = both _ (arena_list A b (unused_member b) unused_head) t₂.0 in
        let t₄ = both (all_below (freed_list A P b map) A) (arena_list A b (usable_member b) usable_head) t₃.0 in
        record {
          listed = doubly_read {member = class_member al A P b map} (λ c n k l. (pool_same L G n l).listed c k)
              (λ c k. holds_is (pool_word A pool_next) (pool_word A pool_previous) (class_member al A P b map c) (A * P) b true (class_head c)
              (every_is (class_list al A P b map) 64 t₂.1 c k));
          freed = singly_read {member = freed_member P b map} (λ a n k l. (pool_same L G n l).freed a)
              (λ a k. holds_is (pool_word A pool_next) (pool_word A pool_previous) (freed_member P b map a) (A * P) b false (arena_word freed_head a)
              (every_is (freed_list A P b map) A t₄.0 a k));
          arenas = doubly_read {member = arena_member b} (arena_member_lem G opens) (λ i k. of_arenas i k (ℕ_discrete i 2) t₄.1 t₃.1);
          full = λ n l e. zeros (pool A b pool_next n) (pool A b pool_previous n)
              (implied (is_full al A P b map n) _ (every_is (pool_keeps6 al A P b map) (A * P) t₁.1 n l)
              ((pool_same L G n l).full ∙ eq-eqb (home al P r n) 0 e));
          spent = λ a l e. zeros (arena b arena_next a) (arena b arena_previous a)
              (implied (eqb (arena b open_word a) 1 && eqb (arena b free_pools a) 0) _ (every_is (arena_keeps6 b) A t₀.1 a l)
              ((arena_same G opens a l).spent ∙ eq-eqb (base P r a) 0 e));
        }
      where
        of_arenas : (i : ℕ) → ArenaHead i → Dec (i ≡ 2) → arena_list A b (usable_member b) usable_head ≡ true
            → arena_list A b (unused_member b) unused_head ≡ true
            → Whole (arena_word arena_next) (arena_word arena_previous) (arena_member b i) A b true i (arena_rows r i)
        of_arenas i k (yes q) e f = rw q (holds_is (arena_word arena_next) (arena_word arena_previous) (usable_member b) A b true usable_head e)
        of_arenas i k (no q) e f =
            let z : i ≡ 3 = omega arith in
            rw z (holds_is (arena_word arena_next) (arena_word arena_previous) (unused_member b) A b true unused_head f)

    -- ---- rule 8
    unset : (n : ℕ) → all_else_zero A b n ≡ true → pool A b class n ≡ no_class
        → Unset (pool A b countWord n) (pool A b freeblock n) (pool A b class n)
        (pool A b nextoffset n) (pool A b maxnextoffset n)
    unfolding all_else_zero
    unset n e none =
        let t₀ = both _ (eqb (pool A b 7 n) 0) e in
        let t₁ = both _ (eqb (pool A b maxnextoffset n) 0) t₀.0 in
        let t₂ = both _ (eqb (pool A b nextoffset n) 0) t₁.0 in
        let t₃ = both _ (eqb (pool A b pool_previous n) 0) t₂.0 in
        let t₄ = both (eqb (pool A b countWord n) 0) (eqb (pool A b freeblock n) 0) t₃.0 in
        record {
          count_is = eqb-true (pool A b countWord n) 0 t₄.0;
          class_is = none;
          freeblock_is = eqb-true (pool A b freeblock n) 0 t₄.1;
          nextoffset_is = eqb-true (pool A b nextoffset n) 0 t₂.1;
          maxnextoffset_is = eqb-true (pool A b maxnextoffset n) 0 t₁.1;
        }

    pool_is : (n : ℕ) → n < A * P → is_carved P b n ≡ true
        → PoolRule al n h.memory (pool A b countWord n) (pool A b freeblock n) (pool A b class n)
        (pool A b nextoffset n) (pool A b maxnextoffset n) (r.live n) (r.chain n) (r.virgin n)
    unfolding pool_keeps8
    pool_is n l c =
        go (is_freed P b map n && eqb (pool A b class n) no_class) refl
        (implied (is_carved P b n) _ (every_is (pool_keeps8 al A P h.memory b map) (A * P) T.test8 n l) c)
      where
        go : (t : Bool) → (is_freed P b map n && eqb (pool A b class n) no_class) ≡ t
            → (if t then all_else_zero A b n
            else leb (pool A b class n) (last_class al)
            && is_divided al A P h.memory b map (size_of al (pool A b class n)) n) ≡ true
            → PoolRule al n h.memory (pool A b countWord n) (pool A b freeblock n) (pool A b class n)
            (pool A b nextoffset n) (pool A b maxnextoffset n) (r.live n) (r.chain n) (r.virgin n)
        go true q e =
            inl (unset n e (eqb-true (pool A b class n) no_class (both (is_freed P b map n) (eqb (pool A b class n) no_class) q).1))
        go false q e =
            let t = both (leb (pool A b class n) (last_class al)) (is_divided al A P h.memory b map (size_of al (pool A b class n)) n) e in
            let z : pool A b countWord n ≡ set_bits map n = counts n l ∙ sym (count_same G n l) in
            inr (rw z (divided_is L A P h.memory b map n c (leb-true (pool A b class n) (last_class al) t.0)
            (r.live n) (λ k. G.bits n k l) (λ k. beyond n k l) t.1))

    -- ---- rule 9
    order : Rising (free P r) r.usable
    unfolding arena_keeps9
    order =
        rising_same (arena b free_pools) (free P r) r.usable
        (all_map {R = λ a. free P r a ≡ arena b free_pools a} (λ a (t : At A (base P r) usable_head a). sym (usable_free G opens a t).1) r.usable members)
        (links_rising (arena b arena_next) (arena b arena_previous) (arena b free_pools) (at b usable_head) 0 r.usable
        (lists.arenas.row 2 (omega arith)).row.walk
        (all_map {R = LinkRises (arena b arena_next) (arena b free_pools)}
        (λ a (t : At A (base P r) usable_head a) d. leb-true (arena b free_pools a) (arena b free_pools (linked (arena b arena_next a)))
        (implied (usable_member b a && not (none? (arena b arena_next a))) _ (every_is (arena_keeps9 b) A T.test9 a t.low)
        (rw ((usable_free G opens a t).0, ne_eqb (arena b arena_next a) 0 d)))) r.usable members))
      where
        members : All (At A (base P r) usable_head) r.usable
        members = lists.arenas.members 2 (omega arith)

    passed_sound : Sound al A P h r
    passed_sound =
        record {
          marks = G.marks;
          classes = G.classes;
          bits = G.bits;
          beyond = beyond;
          rule1 = T.shape;
          rule2 = G.rule2;
          rule3 = G.rule3;
          rule4 = opens;
          rule5 = G.rule5;
          rule6 = lists;
          rule7 = counts;
          rule8 = pool_is;
          rule9 = order;
        }

-- ---- the answer
-- "says yes": then the heap holds what is read off it, soundly
pub yes_sound : (h : Heap) → audit h ≡ 0 → Sound (alignment h) (arenas h) (pools h) h (plain_of h)
unfolding audit_by rule1
yes_sound h e =
    let t₁ = before_zero (broken 1 (rule1 h)) _ e in
    let t₂ = before_zero (broken 2 (rule2 (arenas h) (pools h) h.books)) _ t₁.1 in
    let t₃ = before_zero (broken 3 (rule3 (arenas h) h.books)) _ t₂.1 in
    let t₄ = before_zero (broken 4 (rule4 (arenas h) (pools h) h.books h.map)) _ t₃.1 in
    let t₅ = before_zero (broken 5 (rule5 (alignment h) (arenas h) (pools h) h.books h.map)) _ t₄.1 in
    let t₆ = before_zero (broken 6 (rule6 (alignment h) (arenas h) (pools h) h.books h.map)) _ t₅.1 in
    let t₇ = before_zero (broken 7 (rule7 (arenas h) (pools h) h.books h.map)) _ t₆.1 in
    let t₈ = before_zero (broken 8 (rule8 (alignment h) (arenas h) (pools h) h.memory h.books h.map)) _ t₇.1 in
    passed_sound (alignment h) (arenas h) (pools h) h (aligned _)
    (record {
      shape = zero_shape h (eqb-true (shape_number h) 0 (unbroken (rule1 h) 0 t₁.0));
      test2 = unbroken _ 1 t₂.0;
      test3 = unbroken _ 2 t₃.0;
      test4 = unbroken _ 3 t₄.0;
      test5 = unbroken _ 4 t₅.0;
      test6 = unbroken _ 5 t₆.0;
      test7 = unbroken _ 6 t₇.0;
      test8 = unbroken _ 7 t₈.0;
      test9 = unbroken _ 8 t₈.1;
    })

-- and it says so of every heap that holds a plain heap soundly
pub sound_yes : {al A P : ℕ} {h : Heap} {r : Plain} → Aligned al → Sound al A P h r → audit h ≡ 0
unfolding audit_by rule1
sound_yes {al} {A} {P} {h} {r} L S =
    rw (
      S.rule1.alignment_is,
      S.rule1.arenas_are,
      S.rule1.pools_are,
      shape_zero S.rule1,
      are_zeros A P h.books S.rule2,
      are_closed A h.books S.rule3,
      are_open ground S.rule4,
      are_bits al A P h.books h.map S.rule5,
      are_lists L ground S.rule4 S.rule6,
      are_counts ground S.rule7,
      are_pools L ground S.rule4 S.rule6 S.beyond S.rule7 S.rule8,
      is_order L ground S.rule4 S.rule6 S.rule9,
    )
  where
    ground : Ground al A P h r
    ground =
        record {
          pools_low = (in_range_lem A P S.rule1.range).2;
          marks = S.marks;
          classes = S.classes;
          bits = S.bits;
          rule2 = S.rule2;
          rule3 = S.rule3;
          rule5 = S.rule5;
        }
