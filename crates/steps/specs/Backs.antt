-- The books after each part of a give-back, and the words that a part leaves as they were for the next.
-- Assumes nothing.
use Rattle.std.specs.Prelude.{◌≡◌, ◌≢◌, Bool, true, ◌&&◌, List, [], Result, Ok, Err, ⊤, ℕ, ◌+◌, ◌*◌, ◌-◌, ◌/◌, ◌%◌, ◌≤◌, ◌<◌, leb, length}
use Rattle.std.proofs.Common.{◌∙◌, arith, leb-true, length-set, get_or-set_other}
use Rattle.rules.specs.declared.Answer.{Answer}
use Rattle.rules.specs.declared.BackPlan.{BackPlan}
use Rattle.rules.specs.declared.BackPlan.TheVariants.{Damaged, Joins, Stays, Empties, Moves, Returns, Releases}
use Rattle.rules.specs.Say.{◌▷◌}
use Rattle.rules.specs.Books.{
  Heap,
  at,
  put,
  usable_head,
  unused_head,
  class_head,
  free_pools,
  freed_head,
  arena_word,
  arena,
  count,
  freeblock,
  pool_next,
  pool_previous,
  pool_word,
  pool,
}
use Rattle.rules.specs.Blocks.{size_of, block_no, class_at}
use Rattle.rules.specs.Lists.{next_at, previous_at, leave, arena_links, pool_links}
use Rattle.rules.specs.GiveBack.{take_back, empty}
use Rattle.rules.specs.Outcome.{heap_of, answer_of}
use Rattle.books.specs.declared.pool.Pool.{Pool}
use Rattle.books.specs.declared.refusal.Refusal.{Refusal}
use Rattle.books.specs.Refusals.{number_of}
use Rattle.books.specs.declared.numbers.Block.{Block}
use Rattle.books.specs.Sizes.{Aligned, size_low, size_high, class_low}
use Rattle.books.specs.Known.{BlockAt}
use Rattle.books.specs.Records.{pool_at, may_give, links_lead, leads}
use Rattle.books.specs.Starts.{Start}
use Rattle.books.specs.Tests.{both}
use Rattle.books.specs.Lists.{Links, before_links, leave_keeps, length_leave_by, pool_leave_keeps}
use Rattle.steps.specs.Arenas.{FitsArena}

-- ---- what a give-back of offset o answers, by its result
abbrev pub gave : ℕ → Result ⊤ Refusal → Answer
gave o (Ok _) = answer_of 0 o
gave o (Err refusal) = answer_of (number_of refusal) 0

-- two heaps are the same where their three buffers are
pub heap_is : {m m' b b' k k' : List ℕ} → m ≡ m' → b ≡ b' → k ≡ k' → ◌≡◌ {A = Heap} (heap_of m b k) (heap_of m' b' k')
heap_is {m} {m'} {b} {b'} {k} {k'} e f g = cc

-- ---- what a give-back knows once its tests have passed
-- the block at offset o is there, and its pool, whose record is q, counts it, at the alignment al
pub record Counted (al A P o : ℕ) (block : Block) (q : Pool) (b : List ℕ) : Type 0 where
  pub loaded : q ≡ pool_at A b (o / 4096)
  pub class : q.class ≤ 63
  pub low : 8 ≤ size_of al q.class
  pub high : size_of al q.class ≤ 512
  pub there : o / 4096 < A * P
  pub start : Start (size_of al q.class) (o % 4096)
  pub number : block.number ≡ block_no (size_of al q.class) (o % 4096)
  pub size : block.size ≡ size_of al q.class
  pub some : 1 ≤ q.count

-- a live block is one if the test of the count has passed
pub counted : {al : ℕ} → Aligned al → (A P o : ℕ) (block : Block) (q : Pool) (b m : List ℕ)
    → q ≡ pool_at A b (o / 4096) → BlockAt al A P b m o block → may_give q ≡ true → Counted al A P o block q b
counted L A P o block q b m loaded t gives =
    record {
      loaded = loaded;
      class = rw loaded (omega (arith, class_low L (class_at A b o) t.live.class));
      low = rw loaded (size_low L (class_at A b o) t.live.class);
      high = rw loaded (size_high L (class_at A b o) t.live.class);
      there = t.live.pool;
      start = rw loaded t.live.start;
      number = rw loaded t.number;
      size = rw loaded t.size;
      some = leb-true 1 q.count (both (leb 1 q.count) (leb q.count 506) gives).0;
    }

-- the pool of record q may leave its class list and return to its arena a
abbrev pub may_empty : ℕ → ℕ → ℕ → Pool → List ℕ → Bool
may_empty A P a q b = links_lead q (A * P) && leb (arena b freed_head a) (A * P) && leb (arena b free_pools a) (P - 1)

-- pool p has the links of the record q, and may do so
pub record FitsEmpty (A P p : ℕ) (q : Pool) (b : List ℕ) : Type 0 where
  pub next : pool A b pool_next p ≡ q.next
  pub previous : pool A b pool_previous p ≡ q.previous
  pub links : (q.next ≤ A * P) × (q.previous ≤ A * P)
  pub head : arena b freed_head (p / P) ≤ A * P
  pub free : arena b free_pools (p / P) ≤ P - 1

pub fits_empty : (A P a p : ℕ) (q : Pool) (b : List ℕ) → q ≡ pool_at A b p → a ≡ p / P
    → may_empty A P a q b ≡ true
    → FitsEmpty A P p q b
fits_empty A P a p q b loaded home e =
    let t = both (links_lead q (A * P) && leb (arena b freed_head a) (A * P)) (leb (arena b free_pools a) (P - 1)) e in
    let u = both (links_lead q (A * P)) (leb (arena b freed_head a) (A * P)) t.0 in
    record {
      next = rw loaded;
      previous = rw loaded;
      links = leads q (A * P) u.0;
      head = rw (← home) (leb-true _ (A * P) u.1);
      free = rw (← home) (leb-true _ (P - 1) t.1);
    }

-- ---- the books' part of each write
abbrev pub taken_back : ℕ → ℕ → ℕ → List ℕ → List ℕ
taken_back A p f b = (take_back 0 A 0 0 p f (heap_of [] b [])).books

-- pool p at the front of arena a's freed pools: what `empty` writes after leaving
abbrev pub freed_first : ℕ → ℕ → ℕ → List ℕ → List ℕ
freed_first A a p b =
    b
    ▷ (λ x. put (pool_word A pool_next p) (arena x freed_head a) x)
    ▷ put (pool_word A pool_previous p) 0
    ▷ put (arena_word freed_head a) (p + 1)
    ▷ (λ x. put (arena_word free_pools a) (at x (arena_word free_pools a) + 1) x)

abbrev pub emptied : ℕ → ℕ → ℕ → ℕ → List ℕ → List ℕ
emptied A P c p b = (empty 0 A P c p 0 (heap_of [] b [])).books

-- ---- the pool's freeblock and count are all that the block's return writes
module _ (A p f : ℕ) (b : List ℕ) where
  pub taken_keeps : (j : ℕ) → j ≢ pool_word A freeblock p → j ≢ pool_word A count p → at (taken_back A p f b) j ≡ at b j
  taken_keeps j g h = simp (get_or-set_other, g, h)

  pub length_taken : length (taken_back A p f b) ≡ length b
  length_taken = simp length-set

-- ---- the return of the pool to its arena leaves the first heads and the arenas' links
module _ (A P c p : ℕ) (b : List ℕ) where
  -- word j stands before the pool records and is neither the class head nor the arena's freed-pool head or free pools
  pub emptied_keeps : (j : ℕ) → j < 72 + 8 * A → j ≢ class_head c → j ≢ arena_word freed_head (p / P)
      → j ≢ arena_word free_pools (p / P)
      → at (emptied A P c p b) j ≡ at b j
  emptied_keeps j h k l m =
      let base = pool_links A in
      let next = at b (next_at base p) in
      let previous = at b (previous_at base p) in
      let o : j < pool_links A = omega arith in
      let d : (j ≢ pool_word A pool_previous p) × (j ≢ pool_word A pool_next p) = (omega arith, omega arith) in
      simp (get_or-set_other, m, l, d.0, d.1)
      (leave_keeps base (class_head c) next previous p b j
      (k, (before_links base j (previous - 1) o).0, (before_links base j (next - 1) o).1, (before_links base j p o).0, (before_links base j p o).1))

  pub length_emptied : length (emptied A P c p b) ≡ length b
  length_emptied = simp (length-set, length_leave_by)

-- ---- leaving the class list keeps the books' length and the arena's free pools
pub left_keeps : (A c p a : ℕ) (b : List ℕ) → a < A → class_head c < 72
    → (length (leave (pool_links A) (class_head c) p b) ≡ length b)
    × (arena (leave (pool_links A) (class_head c) p b) free_pools a ≡ arena b free_pools a)
left_keeps A c p a b l h = (length_leave_by (pool_links A) (class_head c) _ _ p b, pool_leave_keeps A (class_head c) _ _ p b free_pools a h l (omega arith))

-- ---- what the next part of a give-back knows of the books that the parts before it leave
module _ (A P c p f : ℕ) (b : List ℕ) where
  pub taken_before : (j : ℕ) → j < 72 + 8 * A → at (taken_back A p f b) j ≡ at b j
  taken_before j h = taken_keeps A p f b j (omega arith) (omega arith)

  pub taken_fits : (q : Pool) → p / P < A → FitsEmpty A P p q b → FitsEmpty A P p q (taken_back A p f b)
  taken_fits q l t = record {
    next = taken_keeps A p f b (pool_word A pool_next p) (omega arith) (omega arith) ∙ t.next;
    previous = taken_keeps A p f b (pool_word A pool_previous p) (omega arith) (omega arith) ∙ t.previous;
    links = t.links;
    head = rw (taken_before (arena_word freed_head (p / P)) (omega arith)) t.head;
    free = rw (taken_before (arena_word free_pools (p / P)) (omega arith)) t.free;
  }

  abbrev last : List ℕ
  last = emptied A P c p (taken_back A p f b)

  pub last_length : length last ≡ length b
  last_length = length_emptied A P c p (taken_back A p f b) ∙ length_taken A p f b

  -- a head of the arenas' lists, and the links of the pool's arena
  last_head : (j : ℕ) → j < 4 → at last j ≡ at b j
  last_head j h = emptied_keeps A P c p (taken_back A p f b) j (omega arith) (omega arith) (omega arith) (omega arith) ∙ taken_before j (omega arith)

  last_link_lem : c ≤ 63 → (j : ℕ) → j < 72 + 8 * A → 76 ≤ j → j ≢ arena_word freed_head (p / P)
      → j ≢ arena_word free_pools (p / P) → at last j ≡ at b j
  last_link_lem few j h k d e = emptied_keeps A P c p (taken_back A p f b) j h (omega arith) d e ∙ taken_before j h

  last_links : c ≤ 63 → p / P < A → Links A arena_links (p / P) b → Links A arena_links (p / P) last
  last_links few l t =
      record {
        next = rw (last_link_lem few (next_at arena_links (p / P)) (omega arith) (omega arith) (omega arith) (omega arith)) t.next;
        previous = rw (last_link_lem few (previous_at arena_links (p / P)) (omega arith) (omega arith) (omega arith) (omega arith)) t.previous;
      }

  -- so what the arena's path knows can be tested before the first write
  pub last_fits : c ≤ 63 → p / P < A → (plan : BackPlan) → FitsArena A b (p / P) plan → FitsArena A last (p / P) plan
  last_fits few l Damaged t = tt
  last_fits few l Joins t = t
  last_fits few l Stays t = t
  last_fits few l Empties t = tt
  last_fits few l (Moves q) t = (
    last_links few l t.0,
    t.1,
    rw (last_link_lem few (next_at arena_links q) (omega arith) (omega arith) (omega arith) (omega arith)) t.2,
  )
  last_fits few l Returns t = rw (last_head usable_head (omega arith)) t
  last_fits few l Releases t = (last_links few l t.0, rw (last_head unused_head (omega arith)) t.1)
