-- What an ask and a give-back leave of a pool's class, whatever the heap holds and at any alignment: a give-back keeps
-- every pool's, and so does an ask, but for the pool that it sets anew.
-- Assumes nothing.
use Rattle.std.specs.Prelude.{◌≡◌, ◌≢◌, Bool, true, false, ◌&&◌, ◌||◌, ℕ, ◌+◌, ◌*◌, ◌-◌, ◌/◌, ◌≤◌, ◌<◌, eqb, length, replicate}
use Rattle.std.proofs.Math.Path.{refl}
use Rattle.std.proofs.Common.{◌∙◌, subst, arith, length-set, get_or-set_same}
use Rattle.std.proofs.Math.Logic.{inr}
use mathlib.Core.List.{List}
use Rattle.std.proofs.Math.Decide.{ℕ_discrete}
use Rattle.std.proofs.Math.Dec.{leb}
use Rattle.rules.specs.declared.Source.{Source}
use Rattle.rules.specs.declared.Source.TheVariants.{Freed, Carved, Opened}
use Rattle.rules.specs.declared.AskPlan.{AskPlan}
use Rattle.rules.specs.declared.AskPlan.TheVariants.{NoRoom, Damaged, Follow, Ready, Last, Again, Anew}
use Rattle.rules.specs.declared.BackPlan.{BackPlan}
use Rattle.rules.specs.declared.BackPlan.TheVariants.{Damaged as Broken, Joins, Stays, Empties, Moves, Returns, Releases}
use Rattle.rules.specs.Say.{only}
use Rattle.rules.specs.Books.{
  Heap,
  at,
  books_length,
  usable_head,
  unused_head,
  class_head,
  free_pools,
  freed_head,
  arena_word,
  arena,
  count,
  freeblock,
  class,
  pool_word,
  pool,
  none?,
}
use Rattle.rules.specs.Blocks.{size_of, is_start}
use Rattle.rules.specs.Lists.{next_at, leave, may_leave, may_join, arena_links, pool_links, arena_leaves}
use Rattle.rules.specs.Ask.{take_from, arena_of, spend, alone, after_ask}
use Rattle.rules.specs.GiveBack.{settling, emptying, plan_back, take_back, empty, after_back}
use Rattle.rules.specs.Outcome.{heap_of}
use Rattle.books.specs.Lists.{Links, leave_low, length_leave_by, length_join_by}
use Rattle.books.specs.Records.{other_word}
use Rattle.books.specs.Tests.{either, after}
use Rattle.plans.specs.Fits.{FitsSource, FitsAsk}
use Rattle.asks.specs.HandOut.{Spends, usable_stays, taken_spends, fewer, spend_stays, spend_leaves, spend_links}
use Rattle.steps.specs.Arenas.{FitsArena, fits_settling, zeroed_keeps}
use Rattle.steps.specs.Backs.{last_fits}
use Rattle.records.specs.Calls.{Same, none_written, put_kept, sets_kept, leave_kept, join_kept, go_in_kept}

-- in books of A arenas, the class of pool y is the same
abbrev pub Still : ℕ → ℕ → List ℕ → List ℕ → Type 0
Still A y b b' = Same (λ j. j ≡ pool_word A class y) b b'

-- ---- an ask for class c
module _ (al A P c : ℕ) (h : Heap) where
  -- whether its arena leaves the list or not, the books keep their length, and the map is the same
  only_long : (t : Bool) (a : ℕ) (g : Heap) → length (only t (arena_leaves usable_head a) g).books ≡ length g.books
  only_long true a g = length_leave_by arena_links usable_head _ _ a g.books
  only_long false a g = refl

  only_map : (t : Bool) (a : ℕ) (g : Heap) → (only t (arena_leaves usable_head a) g).map ≡ g.map
  only_map true a g = refl
  only_map false a g = refl

  -- pool p is taken from its source, its arena spends it, and it goes alone on the class list
  abbrev listed : Source → ℕ → Heap
  listed s p = alone al A P c p (spend al A P c (arena_of al A P c s) (take_from al A P c s p h))

  length_listed : (s : Source) (p : ℕ) → length (listed s p).books ≡ length h.books
  unfolding take_from
  length_listed (Freed a) p = simp (length-set, only_long)
  length_listed (Carved a) p = simp (length-set, only_long)
  length_listed (Opened a) p = simp (length-set, only_long, length_leave_by, length_join_by)

  pub listed_map : (s : Source) (p : ℕ) → (listed s p).map ≡ h.map
  unfolding take_from
  listed_map (Freed a) p = simp only_map
  listed_map (Carved a) p = simp only_map
  listed_map (Opened a) p = simp only_map

  -- the pool that it sets anew is of the wanted class
  pub anew_class : (s : Source) (p : ℕ) → p < A * P → length h.books ≡ books_length A P
      → pool A (after_ask al A P c (Anew s p) h).books class p ≡ c
  unfolding after_ask
  anew_class s p there l =
      simp other_word (get_or-set_same (listed s p).books (pool_word A class p) c 0 (omega (arith, length_listed s p, l)))

module _ (al A P c y : ℕ) (few : c ≤ 63) where
  -- pool p is taken from its source
  freed_still : (a p : ℕ) (h : Heap) → a < A → Still A y h.books (take_from al A P c (Freed a) p h).books
  unfolding take_from
  freed_still a p h there = put_kept _ _ (λ j l. omega arith) none_written

  take_still : (s : Source) (p : ℕ) (h : Heap) → y ≢ p → FitsSource A P h.books s p
      → Still A y h.books (take_from al A P c s p h).books
  unfolding take_from
  take_still (Freed a) p h d (gives, next) = freed_still a p h gives.there
  take_still (Carved a) p h d (gives, place, mark) =
      put_kept _ _ (λ j l. omega (arith, gives.there)) (put_kept _ _ (λ j l. omega arith) none_written)
  take_still (Opened a) p h d (there, place, links, empty) =
      let old : at (leave arena_links unused_head a h.books) usable_head ≡ 0 = usable_stays _ _ a h.books ∙ empty in
      put_kept _ _ (λ j l. omega arith) (put_kept _ _ (λ j l. omega arith)
      (put_kept _ _ (λ j l. omega arith) (put_kept _ _ (λ j l. omega arith) (put_kept _ _ (λ j l. omega arith) (put_kept _ _ (λ j l. omega arith)
      (join_kept _ _ _ (λ j l. omega (arith, old))
      (leave_kept _ _ _ (λ j l. omega (arith, links.next, links.previous)) none_written)))))))

  -- its arena a spends it
  spend_still : {b : List ℕ} (a : ℕ) (h : Heap) → Spends A a h.books → arena_word free_pools a < length h.books
      → Still A y b h.books → Still A y b (spend al A P c a h).books
  spend_still {b} a h spends inside k = go (ℕ_discrete (arena h.books free_pools a - 1) 0)
    where
      Q : Heap → Type 0
      Q g = Still A y b g.books

      there : a < A
      there = spends.there

      less : Still A y b (fewer A a h.books inside)
      less = put_kept _ _ (λ j l. omega (arith, there)) k

      go : Dec (arena h.books free_pools a - 1 ≡ 0) → Still A y b (spend al A P c a h).books
      go (no d) = subst Q ((spend_stays A a h.books inside al P c d).same h.memory h.map) less
      go (yes e) =
          let last = spend_links A a h.books inside (spends.links (omega (arith, spends.some))) in
          subst Q ((spend_leaves A a h.books inside al P c e).same h.memory h.map)
          (leave_kept _ _ _ (λ j l. omega (arith, there, last.next, last.previous)) less)

  -- and it goes alone on the class list
  listed_still : (s : Source) (p : ℕ) (h : Heap) → 2 ≤ P → 72 + 8 * A ≤ length h.books
      → FitsSource A P h.books s p → Still A y h.books (take_from al A P c s p h).books
      → Still A y h.books (listed al A P c h s p).books
  unfolding take_from
  listed_still s p h some long fits k =
      let taken = take_from al A P c s p h in
      let a = arena_of al A P c s in
      let spends : Spends A a taken.books = taken_spends al A P c p h.books taken.books s some long fits (record { same = writes s }) in
      put_kept _ _ (λ j l. omega arith) (put_kept _ _ (λ j l. omega arith) (put_kept _ _ (λ j l. omega arith) (put_kept _ _ (λ j l. omega arith)
      (spend_still a taken spends (omega (arith, length_taken s, spends.there)) k))))
    where
      writes : (s : Source) (m k : List ℕ)
          → heap_of m (take_from al A P c s p h).books k ≡ take_from al A P c s p (heap_of m h.books k)
      writes (Freed a) m k = refl
      writes (Carved a) m k = refl
      writes (Opened a) m k = refl

      length_taken : (s : Source) → length (take_from al A P c s p h).books ≡ length h.books
      length_taken (Freed a) = simp length-set
      length_taken (Carved a) = simp length-set
      length_taken (Opened a) = simp (length-set, length_leave_by, length_join_by)

-- a pool that the path does not set anew
abbrev pub NotAnew : AskPlan → ℕ → Type 0
NotAnew NoRoom y = Unit
NotAnew Damaged y = Unit
NotAnew (Follow p f l) y = Unit
NotAnew (Ready p f m) y = Unit
NotAnew (Last p f) y = Unit
NotAnew (Again a p f l) y = Unit
NotAnew (Anew s p) y = y ≢ p

module _ (al A P c : ℕ) (some : 2 ≤ P) (few : c ≤ 63) (h : Heap) (long : 72 + 8 * A ≤ length h.books) where
  pub ask_still : (q : AskPlan) → FitsAsk A P (size_of al c) c h.books h.map q → (y : ℕ) → NotAnew q y
      → Still A y h.books (after_ask al A P c q h).books
  unfolding after_ask
  ask_still NoRoom t y d = none_written
  ask_still Damaged t y d = none_written
  ask_still (Follow p f l) t y d = put_kept _ _ (λ j l. omega arith) (put_kept _ _ (λ j l. omega arith) none_written)
  ask_still (Ready p f m) t y d =
      put_kept _ _ (λ j l. omega arith) (put_kept _ _ (λ j l. omega arith) (put_kept _ _ (λ j l. omega arith) none_written))
  ask_still (Last p f) t y d =
      leave_kept _ _ _ (λ j l. omega arith) (put_kept _ _ (λ j l. omega arith) (put_kept _ _ (λ j l. omega arith) none_written))
  ask_still (Again a p f l) t y d =
      put_kept _ _ (λ j l. omega arith)
      (listed_still al A P c y few (Freed a) p h some long t.0 (freed_still al A P c y few a p h t.0.0.there))
  ask_still (Anew s p) t y d =
      put_kept _ _ (λ j l. omega arith) (put_kept _ _ (λ j l. omega arith) (put_kept _ _ (λ j l. omega arith) (put_kept _ _ (λ j l. omega arith)
      (listed_still al A P c y few s p h some long t.0 (take_still al A P c y few s p h d t.0)))))

-- ---- a give-back of a block of class c, of pool p, on whatever path
module _ (al A P c p f y : ℕ) (few : c ≤ 63) (home : p / P < A) (h : Heap) where
  abbrev F : BackPlan → Type 0
  F q = Still A y h.books (after_back al A P c p f q h).books

  taken_still : Still A y h.books (take_back al A P c p f h).books
  taken_still = put_kept _ _ (λ j l. omega arith) (put_kept _ _ (λ j l. omega arith) none_written)

  -- the books when its pool is emptied; what the path knows of the arenas' lists still holds of them
  abbrev last : List ℕ
  last = (empty al A P c p f (take_back al A P c p f h)).books

  emptied_still : Still A y h.books last
  emptied_still =
      put_kept _ _ (λ j l. omega arith) (put_kept _ _ (λ j l. omega arith) (put_kept _ _ (λ j l. omega arith) (put_kept _ _ (λ j l. omega arith)
      (leave_kept _ _ _ (λ j l. omega arith) taken_still))))

  left_still : Links A arena_links (p / P) last → Still A y h.books (leave arena_links usable_head (p / P) last)
  left_still t = leave_kept _ _ _ (λ j l. omega (arith, t.next, t.previous)) emptied_still

  -- what becomes of the arena
  settled_still : (q : BackPlan) → FitsArena A last (p / P) q → F q
  unfolding after_back
  settled_still Broken t = none_written
  settled_still Joins t = absurd t
  settled_still Stays t = absurd t
  settled_still Empties t = emptied_still
  settled_still (Moves q) t =
      go_in_kept _ _ _ (λ j l. omega (arith, t.1, leave_low A arena_links usable_head (p / P) (next_at arena_links q) last t.0 t.2))
      (left_still t.0)
  settled_still Returns t = join_kept _ _ _ (λ j l. omega (arith, t)) emptied_still
  settled_still Releases t =
      join_kept _ _ _ (λ j l. omega (arith, (zeroed_keeps (p / P) last).1, t.1))
      (sets_kept (arena_word 0 (p / P)) (replicate 8 0) (λ j l. inr (omega arith)) (left_still t.0))

  emptying_still : F (emptying al A P h.books c p)
  unfolding emptying after_back
  emptying_still =
      after F (may_leave (A * P) (pool_links A) p h.books) _ _ none_written
      (λ _. after F (leb (arena h.books freed_head (p / P)) (A * P)) _ _ none_written
      (λ _. after F (leb (arena h.books free_pools (p / P)) (P - 1)) _ _ none_written
      (λ _. settled_still (settling A h.books (p / P) P)
      (last_fits A P c p f h.books few home (settling A h.books (p / P) P) (fits_settling A h.books (p / P) P)))))

  pub back_still : F (plan_back al A P h.books c p)
  unfolding plan_back after_back
  back_still =
      after F (none? (pool A h.books freeblock p) || is_start (size_of al c) (pool A h.books freeblock p)) _ _ none_written
      (λ _. after F (leb 1 (pool A h.books count p) && leb (pool A h.books count p) 506) _ _ none_written
      (λ _. either F (none? (pool A h.books freeblock p)) _ _
      (λ _. after F (may_join (A * P) (class_head c) h.books) _ _ none_written (λ _. join_kept _ _ _ (λ j l. omega arith) taken_still))
      (λ _. either F (eqb (pool A h.books count p) 1) _ _ (λ _. emptying_still) (λ _. taken_still))))
