-- Format: the books that it writes, word by word, and that they hold the fresh plain heap, whatever the buffers held.
-- Assumes nothing.
use Rattle.std.specs.Prelude.{
  ◌≡◌,
  refl,
  ◌≢◌,
  ◌⊎◌,
  Bool,
  true,
  false,
  List,
  [],
  ◌∷◌,
  ◌++◌,
  ℕ,
  zero,
  suc,
  ◌+◌,
  ◌*◌,
  ◌-◌,
  ◌%◌,
  ◌≤◌,
  ◌<◌,
  eqb,
  replicate,
  if◌then◌else◌,
}
use Rattle.std.proofs.Common.{sym, ◌∙◌, inl, inr, eq-eqb, ne_eqb, le-ltb, ltb-true}
use Rattle.std.proofs.Math.Path.{ap}
use Rattle.std.proofs.lemmas.Bool.{false≢true}
use Rattle.std.proofs.Math.Decide.{ℕ_discrete}
use native.Mathlib.Omega.{arith}
use Rattle.std.proofs.Math.ListN.{length, length-append, get_or-append}
use Rattle.std.proofs.lemmas.List.{length-replicate, get_or-replicate}
use Rattle.std.proofs.Math.Seq.{get_or-append-add}
use Rattle.rules.specs.Books.{
  Heap,
  at,
  in_range,
  exact,
  memory_length,
  map_length,
  is_set,
  map_word,
  edition_word,
  is_edition,
  alignment_of,
  class_head,
  arena_word,
  pool_word,
  link_to,
  no_class,
}
use Rattle.rules.specs.Format.{fresh_arenas, fresh_pools, fresh_heads, fresh_books}
use Rattle.rules.specs.Outcome.{Outcome, heap_of, done, refused, passing}
use Rattle.rules.specs.Numbers.{◌before◌, range_number, edition_number, length_number, fit_number, format}
use Rattle.bits.specs.Bit.{no_bit}
use Rattle.books.specs.Known.{in_range_lem}
use Rattle.books.specs.Records.{length_arenas, length_pools}
use Rattle.books.specs.Sizes.{aligned}
use Rattle.sequences.specs.Sequences.{All, Once, In, Seg}
use Rattle.sequences.specs.Linked.{Doubly}
use Rattle.sequences.specs.Families.{At}
use Rattle.sound.specs.Books.{Books, ArenaHead}
use Rattle.sound.specs.Plain.{count, from, fresh}
use Rattle.sequences.specs.Counting.{many_none}
use Rattle.sound.specs.Sound.{home, base, arena_rows, Sound}
use Rattle.sound.specs.Held.{Says, view_of, home_away, base_unused, sound}

-- ---- the records, of eight words each
-- what holds of each of the eight words of a record
each_word : (Q : ℕ → Type 0) → Q 0 × Q 1 × Q 2 × Q 3 × Q 4 × Q 5 × Q 6 × Q 7 → (w : ℕ) → w < 8 → Q w
each_word Q q zero u = q.0
each_word Q q (suc zero) u = q.1
each_word Q q (suc (suc zero)) u = q.2
each_word Q q (suc (suc (suc zero))) u = q.3
each_word Q q (suc (suc (suc (suc zero)))) u = q.4
each_word Q q (suc (suc (suc (suc (suc zero))))) u = q.5
each_word Q q (suc (suc (suc (suc (suc (suc zero)))))) u = q.6
each_word Q q (suc (suc (suc (suc (suc (suc (suc zero))))))) u = q.7
each_word Q q (suc (suc (suc (suc (suc (suc (suc (suc w)))))))) u = absurd (omega arith)

-- word w of the record after the first
eight : (a w : ℕ) → 8 * suc a + w ≡ suc (suc (suc (suc (suc (suc (suc (suc (8 * a + w))))))))
eight a w = omega arith

arena_words : (i k a w : ℕ) → a < k → w < 8
    → at (fresh_arenas i k) (8 * a + w)
    ≡ (if eqb w 4 then (if eqb (k - suc a) 0 then 0 else link_to (i + a + 1)) else if eqb w 5 then i + a else 0)
arena_words i zero a w l u = absurd (omega arith)
arena_words i (suc k) (suc a) w l u =
    let e : suc k - suc (suc a) ≡ k - suc a = omega arith in
    let f : i + suc a + 1 ≡ suc i + a + 1 = omega arith in
    let g : i + suc a ≡ suc i + a = omega arith in
    rw (eight a w, e, f, g) (arena_words (suc i) k a w (omega arith) u)
arena_words i (suc k) zero w l u =
    let e : 8 * 0 + w ≡ w = omega arith in
    let f : suc k - 1 ≡ k = omega arith in
    let g : i + 0 + 1 ≡ i + 1 = omega arith in
    let h : i + 0 ≡ i = omega arith in
    rw (e, f, g, h)
    (each_word (λ w. at (fresh_arenas i (suc k)) w ≡ (if eqb w 4 then (if eqb k 0 then 0 else link_to (i + 1)) else if eqb w 5 then i else 0))
    (refl, refl, refl, refl, refl, refl, refl, refl) w u)

pool_words : (k n w : ℕ) → n < k → w < 8 → at (fresh_pools k) (8 * n + w) ≡ (if eqb w 4 then no_class else 0)
pool_words zero n w l u = absurd (omega arith)
pool_words (suc k) (suc n) w l u = rw (eight n w) (pool_words k n w (omega arith) u)
pool_words (suc k) zero w l u =
    let e : 8 * 0 + w ≡ w = omega arith in
    rw e (each_word (λ w. at (fresh_pools (suc k)) w ≡ (if eqb w 4 then no_class else 0)) (refl, refl, refl, refl, refl, refl, refl, refl) w u)

-- ---- the books, word by word
module _ (A P e : ℕ) where
  abbrev heads : List ℕ
  heads = fresh_heads A P e

  abbrev records : List ℕ
  records = fresh_arenas 0 A ++ fresh_pools (A * P)

  length_heads : length heads ≡ 72
  length_heads = refl

  length_fresh : length (fresh_books A P e) ≡ 72 + 8 * A + 8 * (A * P)
  unfolding fresh_books
  length_fresh =
      omega (arith, length-append heads records, length_heads, length-append (fresh_arenas 0 A) (fresh_pools (A * P)), length_arenas 0 A, length_pools (A * P))

  head_word : (i : ℕ) → i < 72 → at (fresh_books A P e) i ≡ at heads i
  unfolding fresh_books
  head_word i l = get_or-append heads records 0 i (rw length_heads l)

  first_words : (at (fresh_books A P e) 0 ≡ A)
      × (at (fresh_books A P e) 1 ≡ P)
      × (at (fresh_books A P e) 2 ≡ 0)
      × (at (fresh_books A P e) 3 ≡ 1)
  first_words = (head_word 0 (omega arith), head_word 1 (omega arith), head_word 2 (omega arith), head_word 3 (omega arith))

  class_heads : (i : ℕ) → 4 ≤ i → i < edition_word → at (fresh_books A P e) i ≡ 0
  class_heads i u v =
      let q : i ≡ suc (suc (suc (suc (i - 4)))) = omega arith in
      head_word i (omega arith)
      ∙ ap (at heads) q
      ∙ get_or-append (replicate 64 0) (e ∷ 0 ∷ 0 ∷ 0 ∷ []) 0 (i - 4) (omega arith)
      ∙ get_or-replicate 64 (i - 4) 0 0 (omega arith)

  pub edition_word_lem : at (fresh_books A P e) edition_word ≡ e
  edition_word_lem = head_word edition_word (omega arith)

  spare_heads : (i : ℕ) → edition_word < i → i < 72 → at (fresh_books A P e) i ≡ 0
  spare_heads i u v =
      let q : i ≡ suc (suc (suc (suc (64 + suc (i - 69))))) = omega arith in
      head_word i v
      ∙ ap (at heads) q
      ∙ get_or-append-add (replicate 64 0) (e ∷ 0 ∷ 0 ∷ 0 ∷ []) (suc (i - 69)) 0
      ∙ get_or-replicate 3 (i - 69) 0 0 (omega arith)

  arena_word_lem : (w a : ℕ) → w < 8 → a < A
      → at (fresh_books A P e) (arena_word w a)
      ≡ (if eqb w 4 then (if eqb (A - suc a) 0 then 0 else link_to (0 + a + 1)) else if eqb w 5 then 0 + a else 0)
  unfolding fresh_books
  arena_word_lem w a u l =
      let q : arena_word w a ≡ 72 + (8 * a + w) = omega arith in
      ap (at (heads ++ records)) q
      ∙ get_or-append-add heads records (8 * a + w) 0
      ∙ get_or-append (fresh_arenas 0 A) (fresh_pools (A * P)) 0 (8 * a + w) (omega (arith, length_arenas 0 A))
      ∙ arena_words 0 A a w l u

  pool_word_lem : (w n : ℕ) → w < 8 → n < A * P
      → at (fresh_books A P e) (pool_word A w n) ≡ (if eqb w 4 then no_class else 0)
  unfolding fresh_books
  pool_word_lem w n u l =
      let q : pool_word A w n ≡ 72 + (8 * A + (8 * n + w)) = omega arith in
      let f : 8 * A + (8 * n + w) ≡ length (fresh_arenas 0 A) + (8 * n + w) = ap (λ (x : ℕ). x + (8 * n + w)) (sym (length_arenas 0 A)) in
      ap (at (heads ++ records)) q
      ∙ get_or-append-add heads records (8 * A + (8 * n + w)) 0
      ∙ ap (at records) f
      ∙ get_or-append-add (fresh_arenas 0 A) (fresh_pools (A * P)) (8 * n + w) 0
      ∙ pool_words (A * P) n w l u

-- ---- the unused list is every arena in rising order
all_from_low : (Q : ℕ → Type 0) (i k : ℕ) → ((y : ℕ) → i ≤ y → y < i + k → Q y) → All Q (from i k)
all_from_low Q i zero f = tt
all_from_low Q i (suc k) f = (f i (omega arith) (omega arith), all_from_low Q (suc i) k (λ y l h. f y (omega arith) (omega arith)))

once_from : (i k : ℕ) → Once (from i k)
once_from i zero = tt
once_from i (suc k) = (all_from_low (λ y. i ≢ y) (suc i) k (λ y l h. omega arith), once_from (suc i) k)

in_from : (i k y : ℕ) → i ≤ y → y < i + k → In y (from i k)
in_from i zero y l u = absurd (omega arith)
in_from i (suc k) y l u = go (ℕ_discrete y i) (λ v. in_from (suc i) k y v (omega arith))
  where
    go : Dec (y ≡ i) → (suc i ≤ y → In y (from (suc i) k)) → (y ≡ i) ⊎ In y (from (suc i) k)
    go (yes q) f = inl q
    go (no q) f = inr (f (omega arith))

module _ (A P e : ℕ) (low : 1 ≤ A) where
  next : (a : ℕ) → suc a < A → at (fresh_books A P e) (arena_word 4 a) ≡ suc (suc a)
  next a l = arena_word_lem A P e 4 a (omega arith) (omega arith) ∙ rw (ne_eqb (A - suc a) 0 (omega arith)) (omega arith)

  last : (a : ℕ) → suc a ≡ A → at (fresh_books A P e) (arena_word 4 a) ≡ 0
  last a q = arena_word_lem A P e 4 a (omega arith) (omega arith) ∙ rw (eq-eqb (A - suc a) 0 (omega arith))

  previous : (a : ℕ) → a < A → at (fresh_books A P e) (arena_word 5 a) ≡ a
  previous a l = arena_word_lem A P e 5 a (omega arith) l ∙ omega arith

  walk : (i k : ℕ) → i + suc k ≡ A
      → Seg (λ a. at (fresh_books A P e) (arena_word 4 a)) (λ a. at (fresh_books A P e) (arena_word 5 a))
      (suc i) i (from i (suc k))
  walk i zero q = (refl, (previous i (omega arith), last i (omega arith)))
  walk i (suc k) q = (refl, (previous i (omega arith), rw (next i (omega arith)) (walk (suc i) k (omega arith))))

  unused_row : Doubly (arena_word 4) (arena_word 5) (fresh_books A P e) 3 (from 0 A)
  unused_row = go A refl
    where
      go : (k : ℕ) → k ≡ A → Doubly (arena_word 4) (arena_word 5) (fresh_books A P e) 3 (from 0 k)
      go zero q = absurd (omega arith)
      go (suc k) q = record { row = record { walk = rw (first_words A P e).3 (walk 0 k (omega arith)); once = once_from 0 (suc k) } }

-- ---- the fresh heap, with memory m
abbrev pub fresh_heap : List ℕ → ℕ → ℕ → ℕ → Heap
fresh_heap m A P e = heap_of m (fresh_books A P e) (replicate (map_length A P) 0)

module _ (A P e : ℕ) (m : List ℕ)
    (range : in_range A P ≡ true) (known : is_edition e ≡ true) (bytes : length m ≡ memory_length A P) where
  abbrev al : ℕ
  al = alignment_of e

  arenas_low : 1 ≤ A
  arenas_low = (in_range_lem A P range).0

  no_live : (n : ℕ) → count (fresh A) n ≡ 0
  no_live n = many_none (λ j. false) 512 (λ j _. refl)

  away : (n : ℕ) → home al P (fresh A) n ≡ 1
  away n = home_away al P (fresh A) n (no_live n) (le-ltb (n % P) 0 (omega arith))

  unused : (a : ℕ) → base P (fresh A) a ≡ 3
  unused a = base_unused P (fresh A) a refl

  dark : (n j : ℕ) → n < A * P → j < 512 → is_set (replicate (map_length A P) 0) n j ≡ false
  dark n j l u = rw (get_or-replicate {A = ℕ} (map_length A P) (map_word n j) 0 0 (omega arith), no_bit (j % 64))

  zero_arena : (w a : ℕ) → w < 8 → w ≢ 4 → w ≢ 5 → a < A → at (fresh_books A P e) (arena_word w a) ≡ 0
  zero_arena w a u d d' l = arena_word_lem A P e w a u l ∙ rw (ne_eqb w 4 d, ne_eqb w 5 d')

  zero_pool : (w n : ℕ) → w < 8 → w ≢ 4 → n < A * P → at (fresh_books A P e) (pool_word A w n) ≡ 0
  zero_pool w n u d l = pool_word_lem A P e w n u l ∙ rw (ne_eqb w 4 d)

  books : Books A (A * P) (fresh_books A P e) (view_of al A P (fresh_books A P e) (fresh A))
  books =
      record {
        words = length_fresh A P e;
        first = λ i l. refl;
        spare = λ i l u. refl;
        pools = λ w n g l. refl;
        arenas = λ w a g l. refl;
        listed = record {
          row = λ c l. record { row = record { walk = class_heads A P e (class_head c) (omega arith) (omega arith); once = tt } };
          members = λ c l. tt;
          all = λ c l y u q. absurd (omega (arith, away y));
        };
        freed = record {
          row = λ a l. record { walk = zero_arena 3 a (omega arith) (omega arith) (omega arith) l; once = tt; behind = tt };
          members = λ a l. tt;
          all = λ a l y u q. absurd (omega (arith, away y));
        };
        lists = record { row = λ i h. row' i h (ℕ_discrete i 2); members = λ i h. members' i h (ℕ_discrete i 2); all = all' };
        loose = λ n l q. absurd (omega (arith, away n));
        spent = λ a l q. absurd (omega (arith, unused a));
      }
    where
      row' : (i : ℕ) → ArenaHead i → Dec (i ≡ 2)
          → Doubly (arena_word 4) (arena_word 5) (fresh_books A P e) i (arena_rows (fresh A) i)
      row' i h (yes q) = rw q (record { row = record { walk = (first_words A P e).2; once = tt } })
      row' i h (no q) = let q₁ : i ≡ 3 = omega arith in rw q₁ (unused_row A P e arenas_low)

      members' : (i : ℕ) → ArenaHead i → Dec (i ≡ 2) → All (At A (base P (fresh A)) i) (arena_rows (fresh A) i)
      members' i h (yes q) = rw q tt
      members' i h (no q) =
          let q₁ : i ≡ 3 = omega arith in
          rw q₁ (all_from_low (At A (base P (fresh A)) 3) 0 A (λ y _ l. record { low = omega arith; is = unused y }))

      all' : (i : ℕ) → ArenaHead i → (y : ℕ) → y < A → base P (fresh A) y ≡ i → In y (arena_rows (fresh A) i)
      all' i h y l b = let q : i ≡ 3 = sym b ∙ unused y in rw q (in_from 0 A y (omega arith) (omega arith))

  says : Says al A P (view_of al A P (fresh_books A P e) (fresh A)) m (replicate (map_length A P) 0) (fresh A)
  says =
      record {
        range = range;
        bytes = bytes;
        maps = length-replicate (map_length A P) 0;
        arenas_are = (first_words A P e).0;
        pools_are = (first_words A P e).1;
        alignment_is = ap alignment_of (edition_word_lem A P e);
        an_edition = ap is_edition (edition_word_lem A P e) ∙ known;
        spare_zeros = spare_heads A P e;
        arena_zeros = λ w a u v l. zero_arena w a v (omega arith) (omega arith) l;
        pool_zeros = λ n l. zero_pool 7 n (omega arith) (omega arith) l;
        arenas = λ a l. record {
          open_is = zero_arena 0 a (omega arith) (omega arith) (omega arith) l;
          mark_is = zero_arena 1 a (omega arith) (omega arith) (omega arith) l;
          mark_high = omega arith;
          free_is = zero_arena 2 a (omega arith) (omega arith) (omega arith) l;
          base_is = refl;
        };
        pools = λ n l. record {
          count_is = zero_pool 0 n (omega arith) (omega arith) l ∙ sym (no_live n);
          class_is = pool_word_lem A P e 4 n (omega arith) l;
          used = λ j on. absurd (false≢true on);
          rule = λ c. absurd (omega (arith, ltb-true (n % P) 0 c));
          home_is = refl;
        };
        bits = dark;
        lists = record { listed = λ c l. refl; freed = λ a l. refl; usable = refl; unused = refl };
        order = tt;
      }

  -- format leaves the fresh plain heap
  pub fresh_sound : Sound al A P (fresh_heap m A P e) (fresh A)
  fresh_sound = sound (aligned e) books says

-- what holds of a format that is refused, for A, P or the edition or for a length, and of one that is done
pub format_cases : (h : Heap) (A P e : ℕ) (F : Outcome → Type 0) → F (refused 1 h) → F (refused 2 h)
    → (in_range A P ≡ true → is_edition e ≡ true → exact A P h ≡ true → F (done 0 (fresh_heap h.memory A P e)))
    → F (format h A P e)
unfolding format fit_number range_number edition_number length_number
format_cases h A P e F one two made = go (in_range A P) (is_edition e) (exact A P h) refl refl refl
  where
    go : (t u v : Bool) → in_range A P ≡ t → is_edition e ≡ u → exact A P h ≡ v
        → F (passing ((if t then 0 else 1) before (if u then 0 else 1) before (if v then 0 else 2)) (λ k. refused k h)
        (done 0 (fresh_heap h.memory A P e)))
    go false u v p q r = one
    go true false v p q r = one
    go true true false p q r = two
    go true true true p q r = made p q r
