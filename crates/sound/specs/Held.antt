-- `Sound`, taken apart for the paths and put together again after them: what the books say (`Books`), and that it
-- says the plain heap (`Says`), arena by arena, pool by pool and list by list.
-- Assumes nothing.
use Rattle.std.specs.Prelude.{◌≡◌, ◌≢◌, ◌⊎◌, Bool, ◌&&◌, List, [], ◌∷◌, ℕ, zero, suc, ◌*◌, ◌/◌, ◌%◌, ◌≤◌, ◌<◌, length, if◌then◌else◌}
use Rattle.std.proofs.Math.Path.{refl, ap}
use Rattle.std.proofs.Common.{sym, ◌∙◌, inl, inr, true≢false, div-lt_iff_lt-mul, arith}
use Rattle.std.proofs.Math.Bool.{true, false}
use Rattle.std.proofs.Math.Decide.{ℕ_discrete, dec_le}
use Rattle.std.proofs.Math.Dec.{ltb, eqb, eqb-suc-zero}
use borrow.Author.Tests.{eq-eqb, ne_eqb, lt-ltb, le-ltb, ltb-true, ltb-false, eqb-true, eqb-false}
use Rattle.rules.specs.Books.{
  Heap,
  at,
  in_range,
  exact,
  memory_length,
  books_length,
  map_length,
  is_set,
  edition_word,
  edition,
  is_edition,
  alignment_of,
  usable_head,
  unused_head,
  class_head,
  open_word,
  carve_mark,
  free_pools,
  freed_head,
  arena_next,
  arena_previous,
  arena_word,
  arena,
  pool_word,
  pool,
  carved as is_carved,
}
use Rattle.rules.specs.Blocks.{size_of, last_class, capacity}
use Rattle.books.specs.Known.{Shaped, shaped, in_range_lem}
use Rattle.books.specs.Sizes.{Aligned, capacity_high, class_low}
use Rattle.sequences.specs.Update.{is_false}
use Rattle.sequences.specs.Sequences.{All, In, all_map}
use Rattle.sequences.specs.Rising.{Rising}
use Rattle.sequences.specs.Linked.{Doubly}
use Rattle.sequences.specs.Families.{At, Family}
use Rattle.sound.specs.Books.{View, Books, ArenaHead}
use Rattle.sound.specs.Plain.{Plain, count, in_use, carved, free}
use Rattle.sequences.specs.Counting.{many_has}
use Rattle.sound.specs.Chains.{Blocks, live_below}
use Rattle.sound.specs.Sound.{home, base, arena_rows, Shape, BitSet, Lists, InClass, PoolRule, Sound}

-- ---- where a pool and an arena belong
module _ (al P : ℕ) (r : Plain) (n : ℕ) where
  -- a pool with live and spare blocks; a full one; a freed one; one that is not carved
  pub home_listed : 1 ≤ count r n → count r n < capacity (size_of al (r.class n))
      → home al P r n ≡ class_head (r.class n)
  unfolding home
  home_listed l u = rw (lt-ltb 0 (count r n) l, lt-ltb (count r n) (capacity (size_of al (r.class n))) u)

  pub home_full : 1 ≤ count r n → capacity (size_of al (r.class n)) ≤ count r n → home al P r n ≡ 0
  unfolding home
  home_full l u = rw (lt-ltb 0 (count r n) l, le-ltb (count r n) (capacity (size_of al (r.class n))) u)

  pub home_freed : count r n ≡ 0 → carved P r n ≡ true → home al P r n ≡ arena_word freed_head (n / P)
  unfolding home
  home_freed e c = rw (e, c)

  pub home_away : count r n ≡ 0 → carved P r n ≡ false → home al P r n ≡ 1
  unfolding home
  home_away e c = rw (e, c)

  -- and what a home says
  pub listed_is : (c : ℕ) → home al P r n ≡ class_head c → c < 64
      → (1 ≤ count r n) × (count r n < capacity (size_of al (r.class n))) × (r.class n ≡ c)
  unfolding home
  listed_is c e l = go (in_use r n) (ltb (count r n) (capacity (size_of al (r.class n)))) (carved P r n) refl refl e
    where
      go : (t u v : Bool) → in_use r n ≡ t → ltb (count r n) (capacity (size_of al (r.class n))) ≡ u
          → (if t then (if u then class_head (r.class n) else 0) else if v then arena_word 3 (n / P) else 1)
          ≡ class_head c
          → (1 ≤ count r n) × (count r n < capacity (size_of al (r.class n))) × (r.class n ≡ c)
      go true true v p q f = (ltb-true 0 (count r n) p, ltb-true (count r n) _ q, omega arith)
      go true false v p q f = absurd (omega arith)
      go false u true p q f = absurd (omega arith)
      go false u false p q f = absurd (omega arith)

  pub freed_is : (a : ℕ) → home al P r n ≡ arena_word freed_head a → (1 ≤ count r n → r.class n < 64)
      → (count r n ≡ 0) × (carved P r n ≡ true) × (n / P ≡ a)
  unfolding home
  freed_is a e low = go (in_use r n) (ltb (count r n) (capacity (size_of al (r.class n)))) (carved P r n) refl refl e
    where
      go : (t u v : Bool) → in_use r n ≡ t → carved P r n ≡ v
          → (if t then (if u then class_head (r.class n) else 0) else if v then arena_word 3 (n / P) else 1)
          ≡ arena_word 3 a
          → (count r n ≡ 0) × (carved P r n ≡ true) × (n / P ≡ a)
      go true true v p q f = absurd (omega (arith, low (ltb-true 0 (count r n) p)))
      go true false v p q f = absurd (omega arith)
      go false u true p q f = (omega (arith, ltb-false 0 (count r n) p), q, omega arith)
      go false u false p q f = absurd (omega arith)

module _ (P : ℕ) (r : Plain) (a : ℕ) where
  -- a closed arena; an open one with free pools; an open one without
  pub base_unused : r.mark a ≡ 0 → base P r a ≡ unused_head
  unfolding base
  base_unused e = rw e

  pub base_usable : r.mark a ≢ 0 → free P r a ≢ 0 → base P r a ≡ usable_head
  unfolding base
  base_usable d e = rw (ne_eqb (r.mark a) 0 d, ne_eqb (free P r a) 0 e)

  pub base_spent : r.mark a ≢ 0 → free P r a ≡ 0 → base P r a ≡ 0
  unfolding base
  base_spent d e = rw (ne_eqb (r.mark a) 0 d, e)

  pub usable_is : base P r a ≡ usable_head → (r.mark a ≢ 0) × (free P r a ≢ 0)
  unfolding base
  usable_is e = go (eqb (r.mark a) 0) (eqb (free P r a) 0) refl refl e
    where
      go : (t u : Bool) → eqb (r.mark a) 0 ≡ t → eqb (free P r a) 0 ≡ u
          → (if t then unused_head else if u then 0 else usable_head) ≡ usable_head → (r.mark a ≢ 0) × (free P r a ≢ 0)
      go true u p q k = absurd (omega arith)
      go false true p q k = absurd (omega arith)
      go false false p q k = (eqb-false (r.mark a) 0 p, eqb-false (free P r a) 0 q)

  pub unused_is : base P r a ≡ unused_head → r.mark a ≡ 0
  unfolding base
  unused_is e = go (eqb (r.mark a) 0) (eqb (free P r a) 0) refl e
    where
      go : (t u : Bool) → eqb (r.mark a) 0 ≡ t → (if t then unused_head else if u then 0 else usable_head) ≡ unused_head
          → r.mark a ≡ 0
      go true u p k = eqb-true (r.mark a) 0 p
      go false true p k = absurd (omega arith)
      go false false p k = absurd (omega arith)

-- ---- the view U, memory m and map k say the plain heap r
-- an arena's first and third words, by its mark
abbrev pub opened : ℕ → ℕ
opened mark = if eqb mark 0 then 0 else 1

abbrev pub free_word : ℕ → Plain → ℕ → ℕ
free_word P r a = if eqb (r.mark a) 0 then 0 else free P r a

-- so the same pools are carved in the books b and in the plain heap
carved_by : (P : ℕ) (b : List ℕ) (r : Plain) (n : ℕ) → arena b open_word (n / P) ≡ opened (r.mark (n / P))
    → arena b carve_mark (n / P) ≡ r.mark (n / P) → is_carved P b n ≡ carved P r n
unfolding is_carved
carved_by P b r n e f = rw (e, f) (go (r.mark (n / P)))
  where
    go : (mark : ℕ) → (eqb (opened mark) 1 && ltb (n % P) mark) ≡ ltb (n % P) mark
    go zero = sym (le-ltb (n % P) 0 (omega arith))
    go (suc mark) = rw (eqb-suc-zero mark)

-- rule 8 of pool n; and its second half, that the pool is in a class
abbrev pub PoolRuleOf : ℕ → View → List ℕ → Plain → ℕ → Type 0
PoolRuleOf al U m r n =
    PoolRule al n m (count r n) (U.pool 1 n) (r.class n)
    (U.pool 5 n) (U.pool 6 n) (r.live n) (r.chain n) (r.virgin n)

abbrev pub InClassOf : ℕ → View → List ℕ → Plain → ℕ → Type 0
InClassOf al U m r n =
    InClass al n m (count r n) (U.pool 1 n) (r.class n)
    (U.pool 5 n) (U.pool 6 n) (r.live n) (r.chain n) (r.virgin n)

-- what is said of arena a
pub record ArenaSays (P : ℕ) (U : View) (r : Plain) (a : ℕ) : Type 0 where
  pub open_is : U.arena 0 a ≡ opened (r.mark a)
  pub mark_is : U.arena 1 a ≡ r.mark a
  pub mark_high : r.mark a ≤ P
  pub free_is : U.arena 2 a ≡ free_word P r a
  pub base_is : U.base a ≡ base P r a

-- of pool n
pub record PoolSays (al P : ℕ) (U : View) (m : List ℕ) (r : Plain) (n : ℕ) : Type 0 where
  pub count_is : U.pool 0 n ≡ count r n
  pub class_is : U.pool 4 n ≡ r.class n
  pub used : (j : ℕ) → r.live n j ≡ true → (carved P r n ≡ true) × (r.class n ≤ last_class al)
  pub rule : carved P r n ≡ true → PoolRuleOf al U m r n
  pub home_is : U.home n ≡ home al P r n

-- of the lists
pub record ListsSay (A : ℕ) (U : View) (r : Plain) : Type 0 where
  pub listed : (c : ℕ) → c < 64 → U.listed c ≡ r.listed c
  pub freed : (a : ℕ) → a < A → U.freed a ≡ r.freed a
  pub usable : U.arenas 2 ≡ r.usable
  pub unused : U.arenas 3 ≡ r.unused

pub record Says (al A P : ℕ) (U : View) (m k : List ℕ) (r : Plain) : Type 0 where
  pub range : in_range A P ≡ true
  pub bytes : length m ≡ memory_length A P
  pub maps : length k ≡ map_length A P
  pub arenas_are : U.head 0 ≡ A
  pub pools_are : U.head 1 ≡ P
  pub alignment_is : alignment_of (U.head edition_word) ≡ al
  pub an_edition : is_edition (U.head edition_word) ≡ true
  pub spare_zeros : (i : ℕ) → edition_word < i → i < 72 → U.head i ≡ 0
  pub arena_zeros : (w a : ℕ) → 6 ≤ w → w < 8 → a < A → U.arena w a ≡ 0
  pub pool_zeros : (n : ℕ) → n < A * P → U.pool 7 n ≡ 0
  pub arenas : (a : ℕ) → a < A → ArenaSays P U r a
  pub pools : (n : ℕ) → n < A * P → PoolSays al P U m r n
  pub bits : (n j : ℕ) → n < A * P → j < 512 → is_set k n j ≡ r.live n j
  pub lists : ListsSay A U r
  pub order : Rising (free P r) r.usable

-- the view of the books b, by the plain heap r
abbrev pub view_of : ℕ → ℕ → ℕ → List ℕ → Plain → View
view_of al A P b r =
    record {
      head = λ i. at b i;
      pool = λ w n. at b (pool_word A w n);
      arena = λ w a. at b (arena_word w a);
      home = home al P r;
      base = base P r;
      listed = r.listed;
      freed = r.freed;
      arenas = arena_rows r;
    }

pub record Held (al A P : ℕ) (h : Heap) (r : Plain) : Type 0 where
  pub view : View
  pub books : Books A (A * P) h.books view
  pub says : Says al A P view h.memory h.map r

pub arena_low : (A P n : ℕ) → 2 ≤ P → n < A * P → n / P < A
arena_low A P n p l = (div-lt_iff_lt-mul {k = P} {x = n} {y = A} (omega arith)).1 l

-- ---- a sound heap, taken apart
pub held : {al A P : ℕ} {h : Heap} {r : Plain} → Sound al A P h r → Held al A P h r
held {al} {A} {P} {h} {r} S =
    record {
      view = view_of al A P h.books r;
      books = record {
        words = K.books ∙ omega arith;
        first = λ i l. refl;
        spare = λ i l u. refl;
        pools = λ w n k l. refl;
        arenas = λ w a k l. refl;
        listed = S.rule6.listed;
        freed = S.rule6.freed;
        lists = S.rule6.arenas;
        loose = S.rule6.full;
        spent = S.rule6.spent;
      };
      says = record {
        range = S.rule1.range;
        bytes = K.memory;
        maps = K.map;
        arenas_are = S.rule1.arenas_are;
        pools_are = S.rule1.pools_are;
        alignment_is = S.rule1.alignment_is;
        an_edition = S.rule1.an_edition;
        spare_zeros = S.rule2.spare;
        arena_zeros = S.rule2.arenas;
        pool_zeros = S.rule2.pools;
        arenas = arena_is;
        pools = λ n l. record {
          count_is = S.rule7 n l;
          class_is = S.classes n l;
          used = λ j e. used' n j l e (dec_le 512 j);
          rule = λ c. rw (S.rule7 n l, S.classes n l) at (S.rule8 n l (carved_is n l ∙ c));
          home_is = refl;
        };
        bits = S.bits;
        lists = record { listed = λ c l. refl; freed = λ a l. refl; usable = refl; unused = refl };
        order = S.rule9;
      };
    }
  where
    K : Shaped A P (length h.memory) (length h.books) (length h.map)
    K = shaped h A P S.rule1.range S.rule1.lengths

    arena_is : (a : ℕ) → a < A → ArenaSays P (view_of al A P h.books r) r a
    arena_is a l = go (S.rule2.opens a l)
      where
        go : (arena h.books open_word a ≡ 0) ⊎ (arena h.books open_word a ≡ 1)
            → ArenaSays P (view_of al A P h.books r) r a
        go (inl e) =
            let z : r.mark a ≡ 0 = sym (S.marks a l) ∙ (S.rule3 a l e).mark in
            record { open_is = e ∙ rw z; mark_is = S.marks a l; mark_high = omega arith; free_is = (S.rule3 a l e).free ∙ rw z; base_is = refl }
        go (inr e) =
            let o = S.rule4 a l e in
            let d : r.mark a ≢ 0 = (λ z. absurd (omega (arith, o.mark_low, S.marks a l))) in
            record {
              open_is = e ∙ rw (ne_eqb (r.mark a) 0 d);
              mark_is = S.marks a l;
              mark_high = omega (arith, o.mark_high, S.marks a l);
              free_is = o.free_pools_lem ∙ rw (ne_eqb (r.mark a) 0 d);
              base_is = refl;
            }

    carved_is : (n : ℕ) → n < A * P → is_carved P h.books n ≡ carved P r n
    carved_is n l = let t = arena_is (n / P) (arena_low A P n K.pools_low l) in carved_by P h.books r n t.open_is t.mark_is

    used' : (n j : ℕ) → n < A * P → r.live n j ≡ true → Dec (512 ≤ j)
        → (carved P r n ≡ true) × (r.class n ≤ last_class al)
    used' n j l e (yes d) = absurd (true≢false (sym e ∙ S.beyond n j l d))
    used' n j l e (no d) =
        let t = S.rule5 n j l (omega arith) (S.bits n j l (omega arith) ∙ e) in
        (sym (carved_is n l) ∙ t.in_carved, rw (S.classes n l) at t.in_class)

-- ---- rule 8
-- a pool of a class below 64 keeps its second half
pub classed : {al n : ℕ} {m : List ℕ} {count free class next max : ℕ} {live : ℕ → Bool} {chain : List ℕ} {virgin : ℕ}
    → PoolRule al n m count free class next max live chain virgin → class < 64
    → InClass al n m count free class next max live chain virgin
classed (inl t) l = absurd (omega (arith, t.class_is))
classed (inr t) l = t

-- memory may change where the blocks of a pool stand
pub rule_memory : {al n : ℕ} {m m' : List ℕ} {count free class next max : ℕ}
    {live : ℕ → Bool} {chain : List ℕ} {virgin : ℕ}
    → (class ≤ last_class al → Blocks (size_of al class) n m free next live chain virgin
    → Blocks (size_of al class) n m' free next live chain virgin)
    → PoolRule al n m count free class next max live chain virgin
    → PoolRule al n m' count free class next max live chain virgin
rule_memory f (inl t) = inl t
rule_memory f (inr t) =
    inr (record { class_low = t.class_low; maxnextoffset_is = t.maxnextoffset_is; blocks = f t.class_low t.blocks; two = t.two; one = t.one })

-- a pool of the plain heap that has a live block is in a class, with its blocks
pub in_class : {al A P : ℕ} {U : View} {m k : List ℕ} {r : Plain} → Aligned al → Says al A P U m k r → (n j : ℕ)
    → n < A * P → r.live n j ≡ true → InClassOf al U m r n
in_class {r = r} L F n j l e = let t = (F.pools n l).used j e in classed ((F.pools n l).rule t.0) (class_low L (r.class n) t.1)

-- ---- and put together
opened_cases : (mark : ℕ) → (opened mark ≡ 0) ⊎ (opened mark ≡ 1)
opened_cases zero = inl refl
opened_cases (suc mark) = inr (rw (eqb-suc-zero mark))

closed_mark : (mark : ℕ) → opened mark ≡ 0 → mark ≡ 0
closed_mark zero e = refl
closed_mark (suc mark) e = absurd (omega (arith, rw (eqb-suc-zero mark) at e))

pub open_mark : (mark : ℕ) → opened mark ≡ 1 → mark ≢ 0
open_mark mark e z = omega (arith, rw z at e)

module _ {al A P : ℕ} {h : Heap} {U : View} {r : Plain} (L : Aligned al)
    (K : Books A (A * P) h.books U) (F : Says al A P U h.memory h.map r) where
  shape : Shape al A P h
  unfolding exact
  shape =
      record {
        arenas_are = K.first 0 (omega arith) ∙ F.arenas_are;
        pools_are = K.first 1 (omega arith) ∙ F.pools_are;
        alignment_is = ap alignment_of edition_word_lem ∙ F.alignment_is;
        range = F.range;
        an_edition = ap is_edition edition_word_lem ∙ F.an_edition;
        lengths = rw (
          eq-eqb (length h.memory) (memory_length A P) F.bytes,
          eq-eqb (length h.books) (books_length A P) (K.words ∙ omega arith),
          eq-eqb (length h.map) (map_length A P) F.maps,
        );
      }
    where
      edition_word_lem : edition h ≡ U.head edition_word
      edition_word_lem = K.spare edition_word (omega arith) (omega arith)

  pools_low : 2 ≤ P
  pools_low = (in_range_lem A P F.range).2

  mark_word : (a : ℕ) → a < A → arena h.books 1 a ≡ r.mark a
  mark_word a l = K.arenas 1 a (omega arith) l ∙ (F.arenas a l).mark_is

  pub open_word_lem : (a : ℕ) → a < A → arena h.books 0 a ≡ opened (r.mark a)
  open_word_lem a l = K.arenas 0 a (omega arith) l ∙ (F.arenas a l).open_is

  free_word_lem : (a : ℕ) → a < A → arena h.books 2 a ≡ free_word P r a
  free_word_lem a l = K.arenas 2 a (omega arith) l ∙ (F.arenas a l).free_is

  -- a usable arena is open and has free pools, as many as its word says
  pub usable_word : (a : ℕ) → At A U.base usable_head a
      → (r.mark a ≢ 0) × (free P r a ≢ 0) × (arena h.books free_pools a ≡ free P r a)
  usable_word a t =
      let u = usable_is P r a (sym (F.arenas a t.low).base_is ∙ t.is) in
      (u.0, u.1, free_word_lem a t.low ∙ rw (ne_eqb (r.mark a) 0 u.0))

  -- the usable list is the plain heap's, and has every open arena with free pools
  pub usable_row : Doubly (arena_word arena_next) (arena_word arena_previous) h.books usable_head r.usable
  usable_row = rw F.lists.usable at (K.lists.row 2 (omega arith))

  pub usable_members : All (At A U.base usable_head) r.usable
  usable_members = rw F.lists.usable at (K.lists.members 2 (omega arith))

  pub usable_in : (a : ℕ) → a < A → r.mark a ≢ 0 → free P r a ≢ 0 → In a r.usable
  usable_in a l d e = rw F.lists.usable at (K.lists.all 2 (omega arith) a l ((F.arenas a l).base_is ∙ base_usable P r a d e))

  -- the same pools are carved
  pub carved_word : (n : ℕ) → n < A * P → is_carved P h.books n ≡ carved P r n
  carved_word n l = let u = arena_low A P n pools_low l in carved_by P h.books r n (open_word_lem (n / P) u) (mark_word (n / P) u)

  class_word : (n : ℕ) → n < A * P → pool A h.books 4 n ≡ r.class n
  class_word n l = K.pools 4 n (omega arith) l ∙ (F.pools n l).class_is

  count_word : (n : ℕ) → n < A * P → pool A h.books 0 n ≡ count r n
  count_word n l = K.pools 0 n (omega arith) l ∙ (F.pools n l).count_is

  -- a pool in use is of a class, and so of one below 64
  used_class : (n : ℕ) → n < A * P → 1 ≤ count r n → r.class n ≤ last_class al
  used_class n l some = let t = many_has (r.live n) 512 some in ((F.pools n l).used t.number t.yes).1

  pub use_class : (n : ℕ) → n < A * P → 1 ≤ count r n → r.class n < 64
  use_class n l some = class_low L (r.class n) (used_class n l some)

  -- so no pool is listed above the last class, and the heads there are 0
  pub head_zero : (c : ℕ) → last_class al < c → c < 64 → at h.books (class_head c) ≡ 0
  head_zero c above low = rw (none (U.listed c) (K.listed.members c low)) at (K.listed.row c low).row.walk
    where
      none : (xs : List ℕ) → All (At (A * P) U.home (class_head c)) xs → xs ≡ []
      none [] t = refl
      none (x ∷ xs) t =
          let u = listed_is al P r x c (sym (F.pools x t.0.low).home_is ∙ t.0.is) low in
          absurd (omega (arith, above, u.2, used_class x t.0.low u.0))

  -- a closed arena has no freed pools
  pub no_freed : (a : ℕ) → a < A → r.mark a ≡ 0 → U.freed a ≡ []
  no_freed a l z = go (U.freed a) (K.freed.members a l)
    where
      go : (xs : List ℕ) → All (At (A * P) U.home (arena_word freed_head a)) xs → xs ≡ []
      go [] c = refl
      go (x ∷ xs) c =
          let t = freed_is al P r x a (sym (F.pools x c.0.low).home_is ∙ c.0.is) (use_class x c.0.low) in
          absurd (omega (arith, ltb-true (x % P) (r.mark (x / P)) t.1, ap r.mark t.2))

  bit_set : (n j : ℕ) → n < A * P → j < 512 → is_set h.map n j ≡ true → BitSet al A P h.books n j
  bit_set n j l u e =
      let on : r.live n j ≡ true = sym (F.bits n j l u) ∙ e in
      let c = (F.pools n l).used j on in
      let I = in_class L F n j l on in
      record {
        in_carved = carved_word n l ∙ c.0;
        in_class = rw (class_word n l) c.1;
        at_block = rw (class_word n l) (omega (arith, live_below I.blocks j on, I.blocks.fits));
      }

  lists : Lists al A P h.books r
  lists =
      record {
        listed = renamed F.lists.listed (λ y l. (F.pools y l).home_is) K.listed;
        freed = renamed F.lists.freed (λ y l. (F.pools y l).home_is) K.freed;
        arenas = renamed (λ i k. by_head i k (ℕ_discrete i 2)) (λ a l. (F.arenas a l).base_is) K.lists;
        full = λ n l e. K.loose n l ((F.pools n l).home_is ∙ e);
        spent = λ a l e. K.spent a l ((F.arenas a l).base_is ∙ e);
      }
    where
      -- the same lists and homes, by other names
      renamed : {Meets : ℕ → List ℕ → Type 0} {H : ℕ → Type 0} {place : ℕ → ℕ}
          {N : ℕ} {at_home at-home' : ℕ → ℕ} {rows rows' : ℕ → List ℕ}
          → ((i : ℕ) → H i → rows i ≡ rows' i) → ((y : ℕ) → y < N → at_home y ≡ at-home' y)
          → Family Meets H place N at_home rows → Family Meets H place N at-home' rows'
      renamed {place = place} {N = N} {at_home = at_home} {at-home' = at-home'} {rows = rows} e f G =
          record {
            row = λ i k. rw (← e i k) (G.row i k);
            members = λ i k. rw (← e i k)
                (all_map {R = At N at-home' (place i)}
                (λ y (t : At N at_home (place i) y). record { low = t.low; is = sym (f y t.low) ∙ t.is }) (rows i) (G.members i k));
            all = λ i k y l g. rw (← e i k) (G.all i k y l (f y l ∙ g));
          }

      by_head : (i : ℕ) → ArenaHead i → Dec (i ≡ 2) → U.arenas i ≡ arena_rows r i
      by_head i k (yes q) = rw q F.lists.usable
      by_head i k (no q) = let e : i ≡ 3 = omega arith in rw e F.lists.unused

  pub sound : Sound al A P h r
  sound =
      record {
        marks = mark_word;
        classes = class_word;
        bits = F.bits;
        beyond = λ n j l u. is_false (r.live n j) (λ e. beyond n j l u (in_class L F n j l e) e);
        rule1 = shape;
        rule2 = record {
          opens = λ a l. rw (open_word_lem a l) (opened_cases (r.mark a));
          spare = λ i u v. K.spare i (omega arith) v ∙ F.spare_zeros i u v;
          arenas = λ w a u v l. K.arenas w a (omega arith) l ∙ F.arena_zeros w a u v l;
          pools = λ n l. K.pools 7 n (omega arith) l ∙ F.pool_zeros n l;
        };
        rule3 = λ a l e. let z = closed_mark (r.mark a) (sym (open_word_lem a l) ∙ e) in
            record { mark = mark_word a l ∙ z; free = free_word_lem a l ∙ rw z; freed = rw (no_freed a l z) at (K.freed.row a l).walk };
        rule4 = λ a l e. let d : r.mark a ≢ 0 = open_mark (r.mark a) (sym (open_word_lem a l) ∙ e) in
            record {
              mark_low = rw (mark_word a l) (omega arith);
              mark_high = rw (mark_word a l) (F.arenas a l).mark_high;
              free_pools_lem = free_word_lem a l ∙ rw (ne_eqb (r.mark a) 0 d);
            };
        rule5 = bit_set;
        rule6 = lists;
        rule7 = count_word;
        rule8 = λ n l c. rw (count_word n l, class_word n l, K.pools 1 n (omega arith) l, K.pools 5 n (omega arith) l, K.pools 6 n (omega arith) l)
            ((F.pools n l).rule (sym (carved_word n l) ∙ c));
        rule9 = F.order;
      }
    where
      -- a live block has a number below 506
      beyond : (n j : ℕ) → n < A * P → 512 ≤ j → InClassOf al U h.memory r n → r.live n j ≡ true → ⊥
      beyond n j l u I e = omega (arith, live_below I.blocks j e, I.blocks.fits, capacity_high L (r.class n) I.class_low)
