-- The members that W-201's audit asks for, by the heap, and homes and bases, by the plain heap: a record is a member of
-- a list exactly if its home, or base, is the list's head; and a pool is full, or an open arena without free pools,
-- exactly if that is 0.
-- Assumes nothing.
use Rattle.std.specs.Prelude.{◌≡◌, ◌⊎◌, Bool, true, false, ◌&&◌, List, ℕ, ◌*◌, ◌/◌, ◌≤◌, ◌<◌, eqb, if◌then◌else◌}
use Rattle.std.proofs.Math.Path.{refl}
use Rattle.std.proofs.Common.{sym, ◌∙◌, inl, inr, arith, eq-eqb, ne_eqb, lt-ltb, le-ltb, eqb-true}
use Rattle.std.proofs.Math.Bool.{and-true, and-false}
use Rattle.std.proofs.Math.Decide.{ℕ_discrete, dec_le, dec_lt}
use Rattle.std.proofs.Math.Dec.{ltb}
use Rattle.rules.specs.Books.{Heap, usable_head, unused_head, class_head, open_word, free_pools, freed_head, arena_word, arena}
use Rattle.rules.specs.Blocks.{size_of, capacity}
use Rattle.rules.specs.Audit.{in_use as is-used, has_spare, is_full, freed_member, usable_member, unused_member, class_member}
use Rattle.books.specs.Tests.{both}
use Rattle.books.specs.Sizes.{Aligned, class_low, blocks_are}
use Rattle.sequences.specs.Update.{same_test}
use Rattle.sequences.specs.Families.{At}
use Rattle.sound.specs.Books.{ArenaHead}
use Rattle.sound.specs.Plain.{Plain, count, carved, free}
use Rattle.sound.specs.Sound.{home, base, Open}
use Rattle.sound.specs.Held.{home_listed, home_full, home_freed, home_away, base_unused, base_usable, base_spent}
use Rattle.sound.specs.Grounds.{Ground, count_same, carved_same, used_set, used_same}

-- ---- of a pool: which list it is a member of, and whether it is full
module _ {al A P : ℕ} {h : Heap} {r : Plain} (L : Aligned al) (G : Ground al A P h r) where
  abbrev b : List ℕ
  b = h.books

  abbrev map : List ℕ
  map = h.map

  pub record PoolSame (n : ℕ) : Type 0 where
    pub listed : (c : ℕ) → c < 64 → class_member al A P b map c n ≡ eqb (home al P r n) (class_head c)
    pub freed : (a : ℕ) → freed_member P b map a n ≡ eqb (home al P r n) (arena_word freed_head a)
    pub full : is_full al A P b map n ≡ eqb (home al P r n) 0

  pub pool_same : (n : ℕ) → n < A * P → PoolSame n
  unfolding has_spare
  pool_same n l = go (dec_le 1 (count r n)) (dec_lt (count r n) (capacity (size_of al (r.class n)))) (carved P r n) refl
    where
      spare_same : 1 ≤ count r n → has_spare al A b map n ≡ ltb (count r n) (capacity (size_of al (r.class n)))
      spare_same u = rw (count_same G n l, G.classes n l, blocks_are al (r.class n) (used_set G n l u).1)

      go : Dec (1 ≤ count r n) → Dec (count r n < capacity (size_of al (r.class n))) → (t : Bool) → carved P r n ≡ t
          → PoolSame n
      go (yes u) (yes v) t e =
          let used : is-used P b map n ≡ true = used_same G n l ∙ lt-ltb 0 (count r n) u in
          let spare : has_spare al A b map n ≡ true = spare_same u ∙ lt-ltb (count r n) (capacity (size_of al (r.class n))) v in
          let at_home = home_listed al P r n u v in
          record {
            listed = λ c k. rw (used, spare, G.classes n l, at_home, same_test class_head (λ x y e. omega arith) (r.class n) c) (simp and-true);
            freed = λ a. rw (
              used,
              at_home,
              ne_eqb (class_head (r.class n)) (arena_word freed_head a)
                  (λ q. absurd (omega (arith, q, class_low L (r.class n) (used_set G n l u).1))),
            ) (simp and-false);
            full = rw (used, spare, at_home, ne_eqb (class_head (r.class n)) 0 (omega arith));
          }
      go (yes u) (no v) t e =
          let used : is-used P b map n ≡ true = used_same G n l ∙ lt-ltb 0 (count r n) u in
          let spare : has_spare al A b map n ≡ false = spare_same u ∙ le-ltb (count r n) (capacity (size_of al (r.class n))) (omega arith) in
          let at_home = home_full al P r n u (omega arith) in
          record {
            listed = λ c k. rw (used, spare, at_home, ne_eqb 0 (class_head c) (omega arith), and-false);
            freed = λ a. rw (used, at_home, ne_eqb 0 (arena_word freed_head a) (omega arith)) (simp and-false);
            full = rw (used, spare, at_home);
          }
      go (no u) d true e =
          let used : is-used P b map n ≡ false = used_same G n l ∙ le-ltb 0 (count r n) (omega arith) in
          let at_home = home_freed al P r n (omega arith) e in
          record {
            listed = λ c k. rw (used, at_home, ne_eqb (arena_word freed_head (n / P)) (class_head c) (omega arith), and-false);
            freed = λ a. rw (used, carved_same G n l, e, at_home, same_test (arena_word freed_head) (λ x y e. omega arith) (n / P) a, and-true);
            full = rw (used, at_home, ne_eqb (arena_word freed_head (n / P)) 0 (omega arith));
          }
      go (no u) d false e =
          let used : is-used P b map n ≡ false = used_same G n l ∙ le-ltb 0 (count r n) (omega arith) in
          let at_home = home_away al P r n (omega arith) e in
          record {
            listed = λ c k. rw (used, at_home, ne_eqb 1 (class_head c) (omega arith), and-false);
            freed = λ a. rw (used, carved_same G n l, e, at_home, ne_eqb 1 (arena_word freed_head a) (omega arith), and-false);
            full = rw (used, at_home);
          }

-- ---- of an arena, where rule 4 holds: which list it is a member of, and whether it is open without free pools
-- the members of the two lists, by their heads
abbrev pub arena_member : List ℕ → ℕ → ℕ → Bool
arena_member b i = if eqb i usable_head then usable_member b else unused_member b

module _ {al A P : ℕ} {h : Heap} {r : Plain} (G : Ground al A P h r)
    (rule4 : (a : ℕ) → a < A → arena h.books open_word a ≡ 1 → Open P h.books r a) where
  pub record ArenaSame (a : ℕ) : Type 0 where
    pub usable : usable_member h.books a ≡ eqb (base P r a) usable_head
    pub unused : unused_member h.books a ≡ eqb (base P r a) unused_head
    pub spent : (eqb (arena h.books open_word a) 1 && eqb (arena h.books free_pools a) 0) ≡ eqb (base P r a) 0

  pub arena_same : (a : ℕ) → a < A → ArenaSame a
  arena_same a l = go (G.rule2.opens a l) (ℕ_discrete (free P r a) 0)
    where
      go : (arena h.books open_word a ≡ 0) ⊎ (arena h.books open_word a ≡ 1) → Dec (free P r a ≡ 0) → ArenaSame a
      go (inl e) d =
          let at_base = base_unused P r a (sym (G.marks a l) ∙ (G.rule3 a l e).mark) in
          record { usable = rw (e, at_base); unused = rw (e, at_base); spent = rw (e, at_base) }
      go (inr e) (yes z) =
          let o = rule4 a l e in
          let at_base = base_spent P r a (λ q. absurd (omega (arith, o.mark_low, G.marks a l))) z in
          let words = o.free_pools_lem ∙ z in
          record { usable = rw (e, words, at_base); unused = rw (e, at_base); spent = rw (e, words, at_base) }
      go (inr e) (no z) =
          let o = rule4 a l e in
          let at_base = base_usable P r a (λ q. absurd (omega (arith, o.mark_low, G.marks a l))) z in
          record {
            usable = rw (e, o.free_pools_lem, lt-ltb 0 (free P r a) (omega arith), at_base);
            unused = rw (e, at_base);
            spent = rw (e, o.free_pools_lem, ne_eqb (free P r a) 0 z, at_base);
          }

  pub arena_member_lem : (i a : ℕ) → ArenaHead i → a < A → arena_member h.books i a ≡ eqb (base P r a) i
  arena_member_lem i a k l = go (ℕ_discrete i 2)
    where
      go : Dec (i ≡ 2) → arena_member h.books i a ≡ eqb (base P r a) i
      go (yes q) = rw q (arena_same a l).usable
      go (no q) = let e : i ≡ 3 = omega arith in rw e (arena_same a l).unused

  -- a usable arena passes the test, and its word has its free pools
  pub usable_free : (a : ℕ) → At A (base P r) usable_head a
      → (usable_member h.books a ≡ true) × (arena h.books free_pools a ≡ free P r a)
  usable_free a t =
      let e : usable_member h.books a ≡ true = (arena_same a t.low).usable ∙ eq-eqb (base P r a) usable_head t.is in
      let o = (both (eqb (arena h.books open_word a) 1) (ltb 0 (arena h.books free_pools a)) e).0 in
      (e, (rule4 a t.low (eqb-true (arena h.books open_word a) 1 o)).free_pools_lem)
