-- Rules 6, 8 and 9 of W-201's audit pass wherever `Sound` has them, whatever the plain heap: its lists are those that
-- the audit reads, its chains too, and the usable arenas rise by their words as they do by their free pools.
-- Assumes nothing.
use Rattle.std.specs.Prelude.{◌≡◌, true, false, ◌&&◌, List, ℕ, ◌*◌, ◌/◌, ◌≤◌, ◌<◌, leb, if◌then◌else◌}
use Rattle.std.proofs.Math.Path.{sym}
use Rattle.std.proofs.Common.{◌∙◌, inl, inr, arith}
use Rattle.std.proofs.Math.Bool.{not, and-false}
use Rattle.std.proofs.Math.Dec.{eqb}
use borrow.Author.Tests.{eq-eqb, ne_eqb, le-leb, le-ltb, eqb-true, eqb-false, not-true}
use Rattle.rules.specs.Books.{
  Heap,
  at,
  usable_head,
  open_word,
  free_pools,
  arena_next,
  arena_previous,
  arena,
  count as countWord,
  freeblock,
  pool_next,
  pool_previous,
  class,
  nextoffset,
  maxnextoffset,
  no_class,
  pool,
  none?,
  linked,
  carved as is_carved,
}
use Rattle.rules.specs.Blocks.{size_of, last_class}
use Rattle.rules.specs.Audit.{
  set_bits,
  is_freed,
  is_full,
  freed_member,
  freed_list,
  usable_member,
  class_member,
  class_list,
  pool_keeps6,
  arena_keeps6,
  rule6,
  all_else_zero,
  is_divided,
  pool_keeps8,
  rule8,
  arena_keeps9,
  rule9,
}
use Rattle.books.specs.Tests.{both}
use Rattle.books.specs.Sizes.{Aligned, class_low}
use Rattle.sequences.specs.Sequences.{All, all_map, all_in}
use Rattle.sequences.specs.Rising.{Rising, rising_same, LinkRises, rising_links}
use Rattle.sequences.specs.Counting.{is_every, is_implied}
use Rattle.sequences.specs.Families.{At}
use Rattle.sequences.specs.Walks.{read_doubly, read_singly}
use Rattle.sound.specs.Plain.{Plain, count, free}
use Rattle.sound.specs.Sound.{home, base, Open, Lists, PoolRule}
use Rattle.sound.specs.Divided.{is_divided_lem}
use Rattle.sound.specs.Held.{arena_low, home_freed}
use Rattle.sound.specs.Grounds.{Ground, count_same, carved_same, used_same}
use Rattle.sound.specs.Members.{pool_same, arena_member, arena_same, arena_member_lem, usable_free}

module _ {al A P : ℕ} {h : Heap} {r : Plain} (L : Aligned al) (G : Ground al A P h r)
    (rule4 : (a : ℕ) → a < A → arena h.books open_word a ≡ 1 → Open P h.books r a) (R : Lists al A P h.books r) where
  abbrev b : List ℕ
  b = h.books

  abbrev map : List ℕ
  map = h.map

  -- ---- rule 6
  zeros : (x y : ℕ) → (x ≡ 0) × (y ≡ 0) → (eqb x 0 && eqb y 0) ≡ true
  zeros x y t = rw (eq-eqb x 0 t.0, eq-eqb y 0 t.1)

  pub are_lists : rule6 al A P b map ≡ true
  unfolding rule6 pool_keeps6 arena_keeps6
  are_lists =
      rw (
        is_every (freed_list A P b map) A (read_singly {member = freed_member P b map} (λ a n k l. (pool_same L G n l).freed a) R.freed),
        read_doubly {member = arena_member b} (arena_member_lem G rule4) R.arenas 2 (omega arith),
        read_doubly {member = arena_member b} (arena_member_lem G rule4) R.arenas 3 (omega arith),
        is_every (class_list al A P b map) 64
            (read_doubly {member = class_member al A P b map} (λ c n k l. (pool_same L G n l).listed c k) R.listed),
        is_every (pool_keeps6 al A P b map) (A * P) (λ n l. is_implied (is_full al A P b map n) _
            (λ q. zeros (pool A b pool_next n) (pool A b pool_previous n)
            (R.full n l (eqb-true (home al P r n) 0 (sym (pool_same L G n l).full ∙ q))))),
        is_every (arena_keeps6 b) A (λ a l. is_implied (eqb (arena b open_word a) 1 && eqb (arena b free_pools a) 0) _
            (λ q. zeros (arena b arena_next a) (arena b arena_previous a)
            (R.spent a l (eqb-true (base P r a) 0 (sym (arena_same G rule4 a l).spent ∙ q))))),
      )

  -- ---- rule 8
  module _ (beyond : (n k : ℕ) → n < A * P → 512 ≤ k → r.live n k ≡ false)
      (counts : (n : ℕ) → n < A * P → pool A b countWord n ≡ count r n) where
    -- pool n, which is carved
    module _ (n : ℕ) (l : n < A * P) (c : is_carved P b n ≡ true) where
      -- a freed one is on its arena's list, and so has previous 0
      behind : count r n ≡ 0 → pool A b pool_previous n ≡ 0
      behind z =
          let u = arena_low A P n G.pools_low l in
          all_in (λ y. pool A b pool_previous y ≡ 0) n (r.freed (n / P)) (R.freed.row (n / P) u).behind
          (R.freed.all (n / P) u n l (home_freed al P r n z (sym (carved_same G n l) ∙ c)))

      is_pool : PoolRule al n h.memory (pool A b countWord n) (pool A b freeblock n) (pool A b class n)
          (pool A b nextoffset n) (pool A b maxnextoffset n) (r.live n) (r.chain n) (r.virgin n)
          → (if is_freed P b map n && eqb (pool A b class n) no_class then all_else_zero A b n
          else leb (pool A b class n) (last_class al)
          && is_divided al A P h.memory b map (size_of al (pool A b class n)) n) ≡ true
      unfolding all_else_zero
      is_pool (inl U) =
          let z : count r n ≡ 0 = sym (counts n l) ∙ U.count_is in
          rw (
            c,
            used_same G n l ∙ le-ltb 0 (count r n) (omega arith),
            eq-eqb (pool A b class n) no_class U.class_is,
            eq-eqb (pool A b countWord n) 0 U.count_is,
            eq-eqb (pool A b freeblock n) 0 U.freeblock_is,
            eq-eqb (pool A b pool_previous n) 0 (behind z),
            eq-eqb (pool A b nextoffset n) 0 U.nextoffset_is,
            eq-eqb (pool A b maxnextoffset n) 0 U.maxnextoffset_is,
            eq-eqb (pool A b 7 n) 0 (G.rule2.pools n l),
          )
      is_pool (inr I) =
          let q : set_bits map n ≡ pool A b countWord n = count_same G n l ∙ sym (counts n l) in
          let d = ne_eqb (pool A b class n) no_class (λ e. absurd (omega (arith, e, class_low L (pool A b class n) I.class_low))) in
          rw (d, and-false, le-leb (pool A b class n) (last_class al) I.class_low)
          (is_divided_lem L A P h.memory b map n c I.class_low (r.live n) (λ k. G.bits n k l) (λ k. beyond n k l) (r.chain n) (r.virgin n) (rw q I))

    pub are_pools : ((n : ℕ) → n < A * P → is_carved P b n ≡ true
        → PoolRule al n h.memory (pool A b countWord n) (pool A b freeblock n) (pool A b class n)
        (pool A b nextoffset n) (pool A b maxnextoffset n) (r.live n) (r.chain n) (r.virgin n))
        → rule8 al A P h.memory b map ≡ true
    unfolding pool_keeps8
    are_pools f =
        is_every (pool_keeps8 al A P h.memory b map) (A * P) (λ n l. is_implied (is_carved P b n) _ (λ c. is_pool n l c (f n l c)))

  -- ---- rule 9
  pub is_order : Rising (free P r) r.usable → rule9 A b ≡ true
  unfolding arena_keeps9
  is_order rising =
      is_every (arena_keeps9 b) A (λ a l. is_implied (usable_member b a && not (none? (arena b arena_next a))) _
      (λ q. let t = both (usable_member b a) (not (none? (arena b arena_next a))) q in
      le-leb (arena b free_pools a) (arena b free_pools (linked (arena b arena_next a)))
      (all_in (LinkRises (arena b arena_next) (arena b free_pools)) a r.usable links
      (R.arenas.all 2 (omega arith) a l (eqb-true (base P r a) usable_head (sym (arena_same G rule4 a l).usable ∙ t.0)))
      (eqb-false (arena b arena_next a) 0 (not-true (none? (arena b arena_next a)) t.1)))))
    where
      links : All (LinkRises (arena b arena_next) (arena b free_pools)) r.usable
      links =
          rising_links (arena b arena_next) (arena b arena_previous) (arena b free_pools) (at b usable_head) 0 r.usable
          (R.arenas.row 2 (omega arith)).row.walk
          (rising_same (free P r) (arena b free_pools) r.usable
          (all_map {R = λ a. arena b free_pools a ≡ free P r a} (λ a (t : At A (base P r) usable_head a). (usable_free G rule4 a t).1)
          r.usable (R.arenas.members 2 (omega arith))) rising)
