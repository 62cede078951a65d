-- What the writes of an ask leave, said by the changes of a heap that the rules name, and what each of them knows.
-- Assumes nothing.
use Rattle.std.specs.Prelude.{◌≡◌, ◌≢◌, true, List, [], ℕ, ◌+◌, ◌*◌, ◌-◌, ◌≤◌, ◌<◌, length}
use Rattle.std.proofs.Common.{sym, ap, subst, ◌∙◌, arith, length-set, get_or-set_same, get_or-set_other, eq-eqb, ne_eqb}
use Rattle.rules.specs.declared.Source.{Source}
use Rattle.rules.specs.declared.Source.TheVariants.{Freed, Carved, Opened}
use Rattle.rules.specs.Say.{◌▷◌}
use Rattle.rules.specs.Books.{
  Heap,
  at,
  put,
  on_memory,
  on_map,
  put_map_bit,
  usable_head,
  unused_head,
  class_head,
  open_word,
  carve_mark,
  free_pools,
  freed_head,
  arena_word,
  arena,
  count,
  freeblock,
  pool_next,
  pool_previous,
  class,
  no_class,
  nextoffset,
  pool_word,
  pool,
  put_word,
  rise,
  offset_of,
}
use Rattle.rules.specs.Blocks.{is_start, block_no}
use Rattle.rules.specs.Lists.{next_at, previous_at, leave_by, leave, join, arena_links, pool_links, arena_leaves, arena_joins, pool_leaves}
use Rattle.rules.specs.Outcome.{heap_of, answer_of, outcome}
use Rattle.rules.specs.Ask.{carve, take_from, arena_of, spend}
use Rattle.books.specs.Lists.{pool_leaves_lem, leave_keeps, length_leave_by, length_join_by, Links}
use Rattle.books.specs.declared.pool.Pool.{Pool}
use Rattle.books.specs.Records.{pool_at, put_pool, taken, exposed, take_stored, expose_stored, other_word}
use Rattle.books.specs.Starts.{Start, start_is}
use Rattle.plans.specs.Fits.{Gives, FitsSource}

-- the books b' are what the change f of a heap makes of the books b, whatever its memory and map hold
pub record Writes (f : Heap → Heap) (b b' : List ℕ) : Type 0 where
  pub same : (m k : List ℕ) → heap_of m b' k ≡ f (heap_of m b k)

-- one change after another
pub chain : {f g : Heap → Heap} {b b' b'' : List ℕ} → Writes f b b' → Writes g b' b'' → Writes (λ h. g (f h)) b b''
chain {g = g} first second = record { same = λ m k. second.same m k ∙ ap g (first.same m k) }

-- and then a link in memory
pub with_link : (g : List ℕ → List ℕ) (m m' b k : List ℕ) (h : Heap) → m' ≡ g m → heap_of m b k ≡ h
    → heap_of m' b k ≡ on_memory g h
with_link g m m' b k h link left = ap (λ (x : List ℕ). heap_of x b k) link ∙ ap (on_memory g) left

-- and last the bit of the block that is handed out, whose offset is the answer
pub handed : (s p f : ℕ) (h h' : Heap) (r : ℕ) (k : List ℕ) → h ≡ h' → r ≡ offset_of p f
    → k ≡ put_map_bit p (block_no s f) 1 h.map
    → outcome (answer_of 0 r) (heap_of h.memory h.books k)
    ≡ outcome (answer_of 0 (offset_of p f)) (on_map (put_map_bit p (block_no s f) 1) h')
handed s p f h h' r k left answer set =
    rw (answer, set) (ap (λ (x : Heap). outcome (answer_of 0 (offset_of p f)) (on_map (put_map_bit p (block_no s f) 1) x)) left)

-- ---- a block's start passes the test
pub starts : (s o : ℕ) → Start s o → is_start s o ≡ true
starts s o t = rw t.place at (start_is s (block_no s o) t.number)

-- ---- the record q of pool n was loaded from b, and b' are the books with what a method made of it stored there
module _ (A n : ℕ) (q t : Pool) (b b' : List ℕ) (loaded : q ≡ pool_at A b n) (stored : b' ≡ put_pool A n t b) where
  -- a block was taken
  pub take_writes : (link : ℕ) → t ≡ taken q link
      → Writes (λ h. h ▷ rise (pool_word A count n) ▷ put_word (pool_word A freeblock n) link) b b'
  take_writes link e = record { same = λ m k. rw (stored, e, loaded) (ap (λ (x : List ℕ). heap_of m x k) (take_stored A n b link)) }

  -- a block was taken, and the one at nextoffset, i, exposed
  pub expose_writes : (i size : ℕ) → i ≡ q.nextoffset → t ≡ exposed q size
      → Writes (λ h. h ▷ rise (pool_word A count n) ▷ put_word (pool_word A freeblock n) i
      ▷ put_word (pool_word A nextoffset n) (i + size)) b b'
  expose_writes i size next e =
      record { same = λ m k. rw (stored, e, next, loaded) (ap (λ (x : List ℕ). heap_of m x k) (expose_stored A n b size)) }

  -- the last block was taken, and then the pool left the list of class c, by the links of its record
  pub last_writes : (c : ℕ) (b'' : List ℕ) → t ≡ taken q 0
      → b'' ≡ leave_by (pool_links A) (class_head c) q.next q.previous n b'
      → Writes (λ h. h ▷ rise (pool_word A count n) ▷ put_word (pool_word A freeblock n) 0 ▷ pool_leaves A c n) b b''
  last_writes c b'' e left =
      record {
        same = λ m k. rw (left, stored, e, loaded)
            (ap (λ (x : List ℕ). heap_of m (leave_by (pool_links A) (class_head c) (pool A b pool_next n) (pool A b pool_previous n) n x) k)
            (take_stored A n b 0)
            ∙ ap (λ (x : List ℕ). heap_of m x k)
            (sym (pool_leaves_lem A (class_head c) (pool A b pool_next n) (pool A b pool_previous n) n _ (simp other_word) (simp other_word))));
      }

-- ---- an arena is opened
-- "the unused head leaves its list and joins the usable one (open 1, carve mark and freed-pool head 0, free pools P)"
abbrev pub opened : ℕ → ℕ → Heap → Heap
opened P a h =
    h
    ▷ arena_leaves unused_head a
    ▷ arena_joins usable_head a
    ▷ put_word (arena_word open_word a) 1
    ▷ put_word (arena_word carve_mark a) 0
    ▷ put_word (arena_word freed_head a) 0
    ▷ put_word (arena_word free_pools a) P

-- leaving the unused list does not write the usable head
pub usable_stays : (next previous a : ℕ) (b : List ℕ)
    → at (leave_by arena_links unused_head next previous a b) usable_head ≡ at b usable_head
usable_stays next previous a b = leave_keeps arena_links unused_head next previous a b usable_head (omega arith)

-- the words of its record by which a pool is then carved
module _ (P a : ℕ) (b m k : List ℕ) (inside : arena_word 8 a ≤ length b) where
  abbrev usable : List ℕ
  usable = b ▷ leave arena_links unused_head a ▷ join arena_links usable_head a

  long : length usable ≡ length b
  long = simp (length_join_by, length_leave_by)

  pub opened_mark : arena (opened P a (heap_of m b k)).books carve_mark a ≡ 0
  opened_mark =
      simp other_word
      (get_or-set_same (usable ▷ put (arena_word open_word a) 1) (arena_word carve_mark a) 0 0 (simp length-set (omega (arith, long))))

  opened_free : arena (opened P a (heap_of m b k)).books free_pools a ≡ P
  opened_free =
      get_or-set_same
      (usable ▷ put (arena_word open_word a) 1 ▷ put (arena_word carve_mark a) 0 ▷ put (arena_word freed_head a) 0)
      (arena_word free_pools a)
      P
      0
      (simp length-set (omega (arith, long)))

-- ---- an arena that has given a pool
-- arena a has a free pool to spend, and can leave its list if that is the last
pub record Spends (A a : ℕ) (b : List ℕ) : Type 0 where
  pub there : a < A
  pub some : 1 ≤ arena b free_pools a
  pub links : arena b free_pools a ≡ 1 → Links A arena_links a b

-- it has, where its record is as it was but for its mark and its freed pools
spends_still : (A P a : ℕ) (b b' : List ℕ) → Gives A P a b
    → ((i : ℕ) → i < arena_word 8 a → i ≢ arena_word carve_mark a → i ≢ arena_word freed_head a → at b' i ≡ at b i)
    → Spends A a b'
spends_still A P a b b' gives same =
    let free = same (arena_word free_pools a) (omega arith) (omega arith) (omega arith) in
    let next = same (next_at arena_links a) (omega arith) (omega arith) (omega arith) in
    let previous = same (previous_at arena_links a) (omega arith) (omega arith) (omega arith) in
    record {
      there = gives.there;
      some = rw free gives.some;
      links = λ e. let l = gives.links (sym free ∙ e) in record { next = rw next l.next; previous = rw previous l.previous };
    }

-- carving writes the pool's class and the mark
carve_keeps : (al A P c a p : ℕ) (h : Heap) (i : ℕ) → i ≢ arena_word carve_mark a → i ≢ pool_word A class p
    → at (carve al A P c a p h).books i ≡ at h.books i
carve_keeps al A P c a p h i n o =
    let b = put (pool_word A class p) no_class h.books in
    get_or-set_other b (arena_word carve_mark a) i (at b (arena_word carve_mark a) + 1) 0 n
    ∙ get_or-set_other h.books (pool_word A class p) i no_class 0 o

-- it has, once a pool was taken from its source
take_spends : (al A P c p : ℕ) (b : List ℕ) (src : Source) (m k : List ℕ) → 2 ≤ P → 72 + 8 * A ≤ length b
    → FitsSource A P b src p
    → Spends A (arena_of al A P c src) (take_from al A P c src p (heap_of m b k)).books
unfolding take_from
take_spends al A P c p b (Freed a) m k some long (gives, next) =
    spends_still A P a b _ gives (λ i l n f. get_or-set_other b (arena_word freed_head a) i (pool A b pool_next p) 0 f)
take_spends al A P c p b (Carved a) m k some long (gives, place, mark) =
    let there : a < A = gives.there in
    spends_still A P a b _ gives (λ i l n f. carve_keeps al A P c a p (heap_of m b k) i n (omega arith))
take_spends al A P c p b (Opened a) m k some long (there, place, links, empty) =
    let free =
    carve_keeps al A P c a p (opened P a (heap_of m b k)) (arena_word free_pools a) (omega arith) (omega arith)
    ∙ opened_free P a b m k (omega arith) in
    record { there = there; some = omega arith; links = λ e. omega arith }

pub taken_spends : (al A P c p : ℕ) (b b' : List ℕ) (src : Source) → 2 ≤ P → 72 + 8 * A ≤ length b
    → FitsSource A P b src p → Writes (take_from al A P c src p) b b' → Spends A (arena_of al A P c src) b'
taken_spends al A P c p b b' src some long fits writes =
    subst (Spends A (arena_of al A P c src)) (sym (ap (λ (h : Heap). h.books) (writes.same [] [])))
    (take_spends al A P c p b src [] [] some long fits)

-- ---- it spends it
module _ (A a : ℕ) (b : List ℕ) (inside : arena_word free_pools a < length b) where
  -- "Free pools falls by 1"
  abbrev pub fewer : List ℕ
  fewer = put (arena_word free_pools a) (arena b free_pools a - 1) b

  free_is : arena fewer free_pools a ≡ arena b free_pools a - 1
  free_is = get_or-set_same b _ _ 0 inside

  -- "at 0 the arena leaves the list", and not before
  pub spend_stays : (al P c : ℕ) → (arena b free_pools a - 1 ≡ 0 → ⊥) → Writes (spend al A P c a) b fewer
  spend_stays al P c more = record { same = λ m k. rw (free_is, ne_eqb (arena b free_pools a - 1) 0 more) }

  pub spend_leaves : (al P c : ℕ) → arena b free_pools a - 1 ≡ 0
      → Writes (spend al A P c a) b (leave arena_links usable_head a fewer)
  spend_leaves al P c last = record { same = λ m k. rw (free_is, eq-eqb (arena b free_pools a - 1) 0 last) }

  -- by the links that it had
  pub spend_links : Links A arena_links a b → Links A arena_links a fewer
  spend_links l = record {
    next = rw (get_or-set_other b (arena_word free_pools a) (next_at arena_links a) (arena b free_pools a - 1) 0 (omega arith)) l.next;
    previous = rw (get_or-set_other b (arena_word free_pools a) (previous_at arena_links a) (arena b free_pools a - 1) 0 (omega arith)) l.previous;
  }
