-- What the audit's survey finds and keeps: numbers in locals, the list that each record is to be on, by its head, and
-- that the members which the rules ask for are those.
-- Assumes nothing.
use Rattle.std.specs.Prelude.{◌≡◌, Bool, not, List, ℕ, ◌+◌, ◌*◌, ◌/◌, ◌<◌, leb, eqb, length, set, if◌then◌else◌}
use Rattle.std.proofs.Math.Path.{refl}
use Rattle.std.proofs.Common.{sym, ◌∙◌, arith, get_or-set_same, get_or-set_other}
use Rattle.std.proofs.Math.Bool.{true, false, and-true, and-false}
use Rattle.std.proofs.Math.Decide.{ℕ_discrete, dec_lt}
use Rattle.std.proofs.Math.Dec.{ltb}
use borrow.Author.Tests.{eq-eqb, ne_eqb, lt-ltb, le-ltb, leb-true}
use Rattle.rules.specs.Say.{how_many}
use Rattle.rules.specs.Books.{
  Heap,
  at,
  alignment_of,
  usable_head,
  unused_head,
  class_head,
  open_word,
  free_pools,
  freed_head,
  arena_word,
  arena,
  class,
  pool,
  carved,
}
use Rattle.rules.specs.Blocks.{size_of, last_class, capacity}
use Rattle.rules.specs.Audit.{
  set_bits,
  in_use,
  blocks_of,
  has_spare,
  is_full,
  freed_member,
  usable_member,
  unused_member,
  class_member,
}
use Rattle.rules.specs.Outcome.{heap_of}
use Rattle.books.specs.Sizes.{Aligned, class_low}
use Rattle.sequences.specs.Update.{same_test}
use Rattle.audit.specs.declared.lent.Lent.{Lent}
use Rattle.audit.specs.Turns.{counts, passes}

-- ---- numbers that are kept: the first n of xs are those of f
abbrev pub Filled : (ℕ → ℕ) → ℕ → List ℕ → Type 0
Filled f n xs = (i : ℕ) → i < n → at xs i ≡ f i

-- how many of the first n are of each head, where one more is of the head h
pub tallied : (homes : List ℕ) (n h : ℕ) (xs : List ℕ) → h < length xs → h ≡ at homes n
    → Filled (λ k. how_many (λ y. eqb (at homes y) k) n) 256 xs
    → Filled (λ k. how_many (λ y. eqb (at homes y) k) (n + 1)) 256 (set xs h (at xs h + 1))
tallied homes n h xs l e F k u = go (ℕ_discrete k h)
  where
    go : Dec (k ≡ h) → at (set xs h (at xs h + 1)) k ≡ how_many (λ y. eqb (at homes y) k) (n + 1)
    go (yes q) =
        let one = counts (λ y. eqb (at homes y) h) n (eq-eqb (at homes n) h (sym e)) in
        rw q (get_or-set_same xs h (at xs h + 1) 0 l ∙ omega (arith, F h (omega arith), one))
    go (no q) =
        get_or-set_other xs h k (at xs h + 1) 0 q ∙ F k u ∙ sym (passes (λ y. eqb (at homes y) k) n (ne_eqb (at homes n) k (λ f. q (sym f ∙ sym e))))

-- ---- where a record belongs
-- the head of the list that pool n, with so many set bits, is to be on: its class's, where it has live and spare
-- blocks, or its arena's, where it is carved and has no set bit. A full pool is at 0, and one not carved at 1
unfoldable pub home_by : ℕ → ℕ → ℕ → List ℕ → ℕ → ℕ → ℕ
home_by al A P b n live =
    if carved P b n then
    (if eqb live 0 then arena_word freed_head (n / P)
    else if ltb live (blocks_of al (pool A b class n)) then class_head (pool A b class n) else 0)
    else 1

abbrev pub home_of : ℕ → ℕ → ℕ → List ℕ → List ℕ → ℕ → ℕ
home_of al A P b map n = home_by al A P b n (set_bits map n)

-- the head of the list that arena a is to be on. An open one without free pools is at 0, and one whose open word is
-- neither 0 nor 1 at 1
unfoldable pub arena_home_of : List ℕ → ℕ → ℕ
arena_home_of b a =
    if eqb (arena b open_word a) 0 then unused_head
    else if eqb (arena b open_word a) 1 then (if eqb (arena b free_pools a) 0 then 0 else usable_head)
    else 1

-- ---- what a heap that is lent holds, and the alignment of its shape
abbrev pub heap_in : Lent → Heap
heap_in h = heap_of h.memory.now h.books.now h.map.now

abbrev pub alignment_in : Lent → ℕ
alignment_in h = alignment_of h.shape.edition

-- ---- what the survey of a heap has found
pub record Surveyed (heap : Lent) (counts homes : List ℕ) : Type 0 where
  pub counts_long : length counts ≡ heap.shape.arenas * heap.shape.pools
  pub homes_long : length homes ≡ heap.shape.arenas * heap.shape.pools
  pub counted : Filled (set_bits heap.map.now) (heap.shape.arenas * heap.shape.pools) counts
  pub homed : Filled (home_of (alignment_in heap) heap.shape.arenas heap.shape.pools heap.books.now heap.map.now)
      (heap.shape.arenas * heap.shape.pools)
      homes

-- ---- members by their heads
-- a number of blocks above any is a class's
pub has_blocks : {al : ℕ} → Aligned al → (c k : ℕ) → k < blocks_of al c → c < 64
unfolding blocks_of
has_blocks {al} L c k l = go (leb c (last_class al)) refl l
  where
    go : (t : Bool) → leb c (last_class al) ≡ t → k < (if t then capacity (size_of al c) else 0) → c < 64
    go true e u = class_low L c (leb-true c (last_class al) e)
    go false e u = absurd (omega arith)

module _ {al : ℕ} (L : Aligned al) (A P : ℕ) (b map : List ℕ) (n : ℕ) where
  pub record Home : Type 0 where
    pub listed : (c : ℕ) → c < 64 → class_member al A P b map c n ≡ eqb (home_of al A P b map n) (class_head c)
    pub freed : (a : ℕ) → freed_member P b map a n ≡ eqb (home_of al A P b map n) (arena_word freed_head a)
    pub full : is_full al A P b map n ≡ eqb (home_of al A P b map n) 0
    pub is_carved : carved P b n ≡ not (eqb (home_of al A P b map n) 1)

  pub home_is : Home
  unfolding in_use has_spare home_by
  home_is = go (carved P b n) (ℕ_discrete (set_bits map n) 0) (dec_lt (set_bits map n) (blocks_of al (pool A b class n))) refl
    where
      go : (t : Bool) → Dec (set_bits map n ≡ 0) → Dec (set_bits map n < blocks_of al (pool A b class n))
          → carved P b n ≡ t → Home
      go false d u e =
          record {
            listed = λ c l. rw (e, ne_eqb 1 (class_head c) (omega arith), and-false);
            freed = λ a. rw (e, ne_eqb 1 (arena_word freed_head a) (omega arith), and-false);
            full = rw e;
            is_carved = rw e;
          }
      go true (yes z) u e =
          record {
            listed = λ c l. rw (e, z, ne_eqb (arena_word freed_head (n / P)) (class_head c) (omega arith), and-false);
            freed = λ a. rw (e, z, and-true) (sym (same_test (arena_word freed_head) (λ x y q. omega (arith, q)) (n / P) a));
            full = rw (e, z, ne_eqb (arena_word freed_head (n / P)) 0 (omega arith));
            is_carved = rw (e, z, ne_eqb (arena_word freed_head (n / P)) 1 (omega arith));
          }
      go true (no z) (yes u) e =
          let c₀ = pool A b class n in
          let low = has_blocks L c₀ (set_bits map n) u in
          let used : ltb 0 (set_bits map n) ≡ true = lt-ltb 0 (set_bits map n) (omega arith) in
          record {
            listed = λ c l. rw (
              e,
              used,
              ne_eqb (set_bits map n) 0 z,
              lt-ltb (set_bits map n) (blocks_of al c₀) u,
              ← same_test class_head (λ x y q. omega (arith, q)) c₀ c,
            ) (simp and-true);
            freed = λ a. rw (
              e,
              used,
              ne_eqb (set_bits map n) 0 z,
              lt-ltb (set_bits map n) (blocks_of al c₀) u,
              ne_eqb (class_head c₀) (arena_word freed_head a) (λ q. absurd (omega (arith, q, low))),
              and-false,
            );
            full = rw (e, used, ne_eqb (set_bits map n) 0 z, lt-ltb (set_bits map n) (blocks_of al c₀) u, ne_eqb (class_head c₀) 0 (omega arith));
            is_carved = rw (e, ne_eqb (set_bits map n) 0 z, lt-ltb (set_bits map n) (blocks_of al c₀) u, ne_eqb (class_head c₀) 1 (omega arith));
          }
      go true (no z) (no u) e =
          let c₀ = pool A b class n in
          let used : ltb 0 (set_bits map n) ≡ true = lt-ltb 0 (set_bits map n) (omega arith) in
          let none : ltb (set_bits map n) (blocks_of al c₀) ≡ false = le-ltb (set_bits map n) (blocks_of al c₀) (omega arith) in
          record {
            listed = λ c l. rw (e, used, ne_eqb (set_bits map n) 0 z, none, ne_eqb 0 (class_head c) (omega arith), and-false);
            freed = λ a. rw (e, used, ne_eqb (set_bits map n) 0 z, none, ne_eqb 0 (arena_word freed_head a) (omega arith), and-false);
            full = rw (e, used, ne_eqb (set_bits map n) 0 z, none);
            is_carved = rw (e, ne_eqb (set_bits map n) 0 z, none);
          }

module _ (b : List ℕ) (a : ℕ) where
  pub record ArenaHome : Type 0 where
    pub usable : usable_member b a ≡ eqb (arena_home_of b a) usable_head
    pub unused : unused_member b a ≡ eqb (arena_home_of b a) unused_head

  pub arena_home_is : ArenaHome
  unfolding arena_home_of
  arena_home_is = go (ℕ_discrete (arena b open_word a) 0) (ℕ_discrete (arena b open_word a) 1) (ℕ_discrete (arena b free_pools a) 0)
    where
      go : Dec (arena b open_word a ≡ 0) → Dec (arena b open_word a ≡ 1) → Dec (arena b free_pools a ≡ 0) → ArenaHome
      go (yes e) u v = record { usable = rw e; unused = rw e }
      go (no e) (yes u) (yes v) = record { usable = rw (u, v); unused = rw (u, v) }
      go (no e) (yes u) (no v) =
          record {
            usable = rw (u, ne_eqb (arena b free_pools a) 0 v, lt-ltb 0 (arena b free_pools a) (omega arith));
            unused = rw (u, ne_eqb (arena b free_pools a) 0 v);
          }
      go (no e) (no u) v =
          record {
            usable = rw (ne_eqb (arena b open_word a) 0 e, ne_eqb (arena b open_word a) 1 u);
            unused = rw (ne_eqb (arena b open_word a) 0 e, ne_eqb (arena b open_word a) 1 u);
          }
