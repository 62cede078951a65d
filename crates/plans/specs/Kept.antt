-- W-204: an ask, on any heap at all, leaves words 0, 1 and 68 of the books and every length as they were; so the tests
-- of the shape, once passed, stay passed. It holds because an ask writes class heads, the arenas' two heads, and
-- records. And asks one by one leave their row as long as it was.
-- Assumes nothing.
use Rattle.std.specs.Prelude.{◌≡◌, refl, ◌≢◌, Bool, true, false, List, [], ◌∷◌, ℕ, zero, suc, ◌+◌, ◌-◌, ◌*◌, ◌≤◌, ◌<◌, length}
use Rattle.std.proofs.Common.{sym, ap, ◌∙◌, arith, length-set, get_or-set_other, le-leb, lt-ltb, eq-eqb}
use Rattle.rules.specs.declared.Request.{Request}
use Rattle.rules.specs.declared.Source.{Source}
use Rattle.rules.specs.declared.Source.TheVariants.{Freed, Carved, Opened}
use Rattle.rules.specs.declared.AskPlan.{AskPlan}
use Rattle.rules.specs.declared.AskPlan.TheVariants.{NoRoom, Damaged, Follow, Ready, Last, Again, Anew}
use Rattle.rules.specs.Say.{only}
use Rattle.rules.specs.Books.{
  Heap,
  at,
  put,
  on_memory,
  on_books,
  on_map,
  put_map_bit,
  arenas,
  pools,
  edition,
  alignment,
  in_range,
  exact,
  usable_head,
  unused_head,
  class_head,
  arena_word,
  open_word,
  carve_mark,
  free_pools,
  freed_head,
  arena,
  pool_word,
  count,
  freeblock,
  pool_next,
  pool_previous,
  class,
  nextoffset,
  maxnextoffset,
  no_class,
  pool,
  none?,
}
use Rattle.rules.specs.Blocks.{put_link, class_of, size_of, last_start}
use Rattle.rules.specs.Lists.{leave, join, arena_links, pool_links, next_at, previous_at}
use Rattle.rules.specs.Outcome.{passing, refused}
use Rattle.rules.specs.Ask.{take_from, arena_of, spend, alone, after_ask, ask_step, plan_ask}
use Rattle.rules.specs.Numbers.{
  range_number,
  edition_number,
  length_number,
  reach_number,
  in_order,
  shape_number,
  size_number,
  ask,
}
use Rattle.rules.specs.Batch.{one_by_one}
use Rattle.books.specs.Lists.{leave_keeps, join_keeps, length_leave_by, length_join_by}
use Rattle.books.specs.Known.{Shaped, size_zero}
use Rattle.books.specs.Passing.{order_zero}
use Rattle.books.specs.Sizes.{aligned, has_class, class_low}

-- a place that an ask may write, on any books; and one that it does not
abbrev Written : ℕ → Type 0
Written i = (2 ≤ i) × (i ≢ 68)

abbrev pub Away : ℕ → Type 0
Away j = (i : ℕ) → Written i → j ≢ i

-- what stays from the heap h to the heap h'
pub record Kept (h h' : Heap) : Type 0 where
  pub memory : length h'.memory ≡ length h.memory
  pub books : length h'.books ≡ length h.books
  pub map : length h'.map ≡ length h.map
  pub word : (j : ℕ) → Away j → at h'.books j ≡ at h.books j

-- ---- a change of a heap that keeps these, and one after another
pub record Keeps (f : Heap → Heap) : Type 0 where
  pub kept : (h : Heap) → Kept h (f h)

same : (h : Heap) → Kept h h
same h = record { memory = refl; books = refl; map = refl; word = λ j d. refl }

infixl 15 ◌then◌
◌then◌ : {f g : Heap → Heap} → Keeps f → Keeps g → Keeps (λ h. g (f h))
◌then◌ {f} {g} p q = record {
  kept = λ h. record {
    memory = (q.kept (f h)).memory ∙ (p.kept h).memory;
    books = (q.kept (f h)).books ∙ (p.kept h).books;
    map = (q.kept (f h)).map ∙ (p.kept h).map;
    word = λ j d. (q.kept (f h)).word j d ∙ (p.kept h).word j d;
  };
}

-- one of the books alone
on_books_lem : (f : List ℕ → List ℕ) → ((b : List ℕ) → length (f b) ≡ length b)
    → ((b : List ℕ) (j : ℕ) → Away j → at (f b) j ≡ at b j) → Keeps (on_books f)
on_books_lem f long word = record {
  kept = λ h. record { memory = refl; books = long h.books; map = refl; word = word h.books };
}

writes : (i : ℕ) (v : List ℕ → ℕ) → Written i → Keeps (on_books (λ b. put i (v b) b))
writes i v w =
    on_books_lem (λ b. put i (v b) b) (λ b. length-set b i (v b)) (λ b j d. get_or-set_other b i j (v b) 0 (d i w))

leaves : (base head n : ℕ) → 69 ≤ base → Written head → Keeps (on_books (leave base head n))
leaves base head n low first =
    on_books_lem (leave base head n) (λ b. length_leave_by base head (at b (next_at base n)) (at b (previous_at base n)) n b)
    (λ b j d. leave_keeps base head (at b (next_at base n)) (at b (previous_at base n)) n b j
    (d head first, d _ (omega arith), d _ (omega arith), d _ (omega arith), d _ (omega arith)))

joins : (base head n : ℕ) → 69 ≤ base → Written head → Keeps (on_books (join base head n))
joins base head n low first =
    on_books_lem (join base head n) (λ b. length_join_by base head (at b head) 0 n b)
    (λ b j d. join_keeps base head (at b head) 0 n b j
    (d head first, d _ (omega arith), d _ (omega arith), d _ (omega arith)))

links : (o v : ℕ) → Keeps (on_memory (put_link o v))
unfolding put_link
links o v = record { kept = λ h. record { memory = simp length-set; books = refl; map = refl; word = λ j d. refl } }

bits : (p k d : ℕ) → Keeps (on_map (put_map_bit p k d))
bits p k d = record {
  kept = λ h. record { memory = refl; books = refl; map = length-set h.map _ _; word = λ j e. refl };
}

-- ---- an ask's changes, path by path
taken : (al A P c : ℕ) (s : Source) (p : ℕ) → Keeps (take_from al A P c s p)
unfolding take_from
taken al A P c (Freed a) p = writes (arena_word freed_head a) (λ b. pool A b pool_next p) (omega arith)
taken al A P c (Carved a) p =
    writes (pool_word A class p) (λ b. no_class) (omega arith)
    then writes (arena_word carve_mark a) (λ b. at b (arena_word carve_mark a) + 1) (omega arith)
taken al A P c (Opened a) p =
    leaves arena_links unused_head a (omega arith) (omega arith)
    then joins arena_links usable_head a (omega arith) (omega arith)
    then writes (arena_word open_word a) (λ b. 1) (omega arith)
    then writes (arena_word carve_mark a) (λ b. 0) (omega arith)
    then writes (arena_word freed_head a) (λ b. 0) (omega arith)
    then writes (arena_word free_pools a) (λ b. P) (omega arith)
    then writes (pool_word A class p) (λ b. no_class) (omega arith)
    then writes (arena_word carve_mark a) (λ b. at b (arena_word carve_mark a) + 1) (omega arith)

left_at_zero : (a : ℕ) (t : Bool) (h : Heap) → Kept h (only t (on_books (leave arena_links usable_head a)) h)
left_at_zero a true h = (leaves arena_links usable_head a (omega arith) (omega arith)).kept h
left_at_zero a false h = same h

spent : (al A P c a : ℕ) → Keeps (spend al A P c a)
spent al A P c a =
    writes (arena_word free_pools a) (λ b. at b (arena_word free_pools a) - 1) (omega arith)
    then record { kept = λ h. left_at_zero a (none? (arena h.books free_pools a)) h }

set_alone : (al A P c p : ℕ) → c < 64 → Keeps (alone al A P c p)
set_alone al A P c p low =
    writes (class_head c) (λ b. p + 1) (omega arith)
    then writes (pool_word A pool_next p) (λ b. 0) (omega arith)
    then writes (pool_word A pool_previous p) (λ b. 0) (omega arith)
    then writes (pool_word A count p) (λ b. 1) (omega arith)

after_ask_lem : (al A P c : ℕ) (q : AskPlan) → c < 64 → Keeps (after_ask al A P c q)
unfolding after_ask
after_ask_lem al A P c NoRoom low = record { kept = same }
after_ask_lem al A P c Damaged low = record { kept = same }
after_ask_lem al A P c (Follow p f l) low =
    writes (pool_word A count p) (λ b. at b (pool_word A count p) + 1) (omega arith)
    then writes (pool_word A freeblock p) (λ b. l) (omega arith)
    then bits p _ 1
after_ask_lem al A P c (Ready p f m) low =
    writes (pool_word A count p) (λ b. at b (pool_word A count p) + 1) (omega arith)
    then writes (pool_word A freeblock p) (λ b. m) (omega arith)
    then writes (pool_word A nextoffset p) (λ b. m + size_of al c) (omega arith)
    then links _ 0
    then bits p _ 1
after_ask_lem al A P c (Last p f) low =
    writes (pool_word A count p) (λ b. at b (pool_word A count p) + 1) (omega arith)
    then writes (pool_word A freeblock p) (λ b. 0) (omega arith)
    then leaves (pool_links A) (class_head c) p (omega arith) (omega arith)
    then bits p _ 1
after_ask_lem al A P c (Again a p f l) low =
    taken al A P c (Freed a) p
    then spent al A P c a
    then set_alone al A P c p low
    then writes (pool_word A freeblock p) (λ b. l) (omega arith)
    then bits p _ 1
after_ask_lem al A P c (Anew s p) low =
    taken al A P c s p
    then spent al A P c (arena_of al A P c s)
    then set_alone al A P c p low
    then writes (pool_word A class p) (λ b. c) (omega arith)
    then writes (pool_word A nextoffset p) (λ b. 48 + 2 * size_of al c) (omega arith)
    then writes (pool_word A maxnextoffset p) (λ b. last_start (size_of al c)) (omega arith)
    then writes (pool_word A freeblock p) (λ b. 48 + size_of al c) (omega arith)
    then links _ 0
    then bits p _ 1

-- ---- an ask, on any heap
pub ask_kept : (h : Heap) (n : ℕ) → Kept h (ask h n).heap
unfolding ask ask_step
ask_kept h n = by_number (in_order (shape_number h) (size_number n) 0 0) refl
  where
    by_number : (k : ℕ) → in_order (shape_number h) (size_number n) 0 0 ≡ k
        → Kept h (passing k (λ j. refused j h) (ask_step (alignment h) (arenas h) (pools h) h n)).heap
    by_number zero e =
        let L = aligned (edition h) in
        let size = size_zero n (order_zero (shape_number h) (size_number n) 0 0 e).1 in
        let c = class_of (alignment h) n in
        (after_ask_lem (alignment h) (arenas h) (pools h) c (plan_ask (alignment h) (arenas h) (pools h) h c)
        (class_low L _ (has_class L n size.1))).kept h
    by_number (suc k) e = same h

-- words 0 and 1, and word 68, are no place that it writes
zero_away : Away 0
zero_away i w = omega (arith, w.0)

one_away : Away 1
one_away i w = omega (arith, w.0)

edition_away : Away 68
edition_away i w e = w.1 (sym e)

module _ {h h' : Heap} (k : Kept h h') where
  pub arenas_kept : arenas h' ≡ arenas h
  arenas_kept = k.word 0 zero_away

  pub pools_kept : pools h' ≡ pools h
  pools_kept = k.word 1 one_away

  pub edition_kept : edition h' ≡ edition h
  edition_kept = k.word 68 edition_away

  -- so 1 and 2 are as they were
  pub shape_kept : shape_number h' ≡ shape_number h
  unfolding shape_number reach_number range_number edition_number length_number exact
  shape_kept = rw (k.memory, k.books, k.map, arenas_kept, pools_kept, edition_kept)

-- ---- what is known of a heap once 1 and 2 are tested, and stays known
abbrev pub Tested : Heap → Type 0
Tested h = Shaped (arenas h) (pools h) (length h.memory) (length h.books) (length h.map) × (edition h ≤ 1)

pub tested_kept : {h h' : Heap} → Kept h h' → Tested h → Tested h'
tested_kept {h} {h'} k t = rw (k.memory, k.books, k.map, arenas_kept k, pools_kept k, edition_kept k) t

pub shape_passes : (h : Heap) → Tested h → shape_number h ≡ 0
unfolding shape_number reach_number range_number edition_number length_number in_range exact
shape_passes h t =
    let s = t.0 in
    rw (
      lt-ltb 1 (length h.books) (omega (arith, s.books)),
      le-leb 1 (arenas h) s.arenas_low,
      le-leb (arenas h) 16 s.arenas_high,
      le-leb 2 (pools h) s.pools_low,
      le-leb (pools h) 64 s.pools_high,
      lt-ltb 68 (length h.books) (omega (arith, s.books)),
      le-leb (edition h) 1 t.1,
      eq-eqb _ _ s.memory,
      eq-eqb _ _ s.books,
      eq-eqb _ _ s.map,
    )

-- ---- asks one by one leave as many requests
pub as_many : (h : Heap) (row : List Request) → length (one_by_one h row).row ≡ length row
unfolding one_by_one
as_many h [] = refl
as_many h (r ∷ rest) = ap suc (as_many (ask h r.size).heap rest)
