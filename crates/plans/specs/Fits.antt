-- What is known of the numbers of a path once it is planned: the pool and the arena are there, the blocks are starts,
-- the links that will be used lead somewhere. It follows from the rules that the path has passed, whatever the books
-- hold.
-- Assumes nothing.
use Rattle.std.specs.Prelude.{◌≡◌, Bool, true, false, not, ◌&&◌, ◌||◌, List, ℕ, ◌+◌, ◌*◌, ◌-◌, ◌≤◌, ◌<◌, leb, ltb, eqb}
use Rattle.std.proofs.Math.Path.{refl}
use Rattle.std.proofs.Math.Nat.{mul-le-mul_right}
use Rattle.std.proofs.Common.{arith}
use borrow.Author.Tests.{leb-true, ltb-true, eqb-true, eqb-false, eq-eqb, not-true}
use Rattle.rules.specs.declared.Source.{Source}
use Rattle.rules.specs.declared.Source.TheVariants.{Freed, Carved, Opened}
use Rattle.rules.specs.declared.AskPlan.{AskPlan}
use Rattle.rules.specs.declared.AskPlan.TheVariants.{NoRoom, Damaged, Follow, Ready, Last, Again, Anew}
use Rattle.rules.specs.Books.{
  Heap,
  at,
  usable_head,
  unused_head,
  class_head,
  carve_mark,
  free_pools,
  freed_head,
  arena,
  count,
  freeblock,
  pool_next,
  class,
  nextoffset,
  maxnextoffset,
  pool,
  none?,
  linked,
  is_set,
}
use Rattle.rules.specs.Blocks.{size_of, is_start, block_no}
use Rattle.rules.specs.Lists.{may_leave, arena_links, pool_links}
use Rattle.rules.specs.Ask.{
  ◌⇛◌,
  front_of,
  spare,
  link_in,
  counted,
  no_link,
  from_freeblock,
  from_listed,
  set_anew,
  same_class,
  take_again,
  from_mark,
  from_freed,
  from_usable,
  from_unused,
  plan_ask,
}
use Rattle.books.specs.Lists.{Links, links}
use Rattle.books.specs.Starts.{Start, start}
use Rattle.books.specs.Tests.{both, either, after}

-- arena a can give a pool, and leave its list if that was the last
pub record Gives (A P a : ℕ) (b : List ℕ) : Type 0 where
  pub there : a < A
  pub some : 1 ≤ arena b free_pools a
  pub most : arena b free_pools a ≤ P
  pub links : arena b free_pools a ≡ 1 → Links A arena_links a b

-- where pool p comes from
abbrev pub FitsSource : ℕ → ℕ → List ℕ → Source → ℕ → Type 0
FitsSource A P b (Freed a) p = Gives A P a b × (pool A b pool_next p ≤ A * P)
FitsSource A P b (Carved a) p = Gives A P a b × (p ≡ a * P + arena b carve_mark a) × (arena b carve_mark a < P)
FitsSource A P b (Opened a) p = (a < A) × (p ≡ a * P) × Links A arena_links a b × (at b usable_head ≡ 0)

-- a block of size s at f in pool p, which is there, and whose bit in the map m is clear
pub record Spare (A P s : ℕ) (m : List ℕ) (p f : ℕ) : Type 0 where
  pub there : p < A * P
  pub start : Start s f
  pub clear : is_set m p (block_no s f) ≡ false

-- the same of a listed pool, which is of class c and has room for one more
pub record Listed (A P s c : ℕ) (b m : List ℕ) (p f : ℕ) : Type 0 where
  pub spare : Spare A P s m p f
  pub class : pool A b class p ≡ c
  pub count : pool A b count p ≤ 505

-- the numbers of a path that takes a new pool, for class c, of blocks of size s, in books b and map m of A arenas of
-- P pools
abbrev pub FitsNew : ℕ → ℕ → ℕ → ℕ → List ℕ → List ℕ → AskPlan → Type 0
FitsNew A P s c b m NoRoom = Unit
FitsNew A P s c b m Damaged = Unit
FitsNew A P s c b m (Follow p f l) = ⊥
FitsNew A P s c b m (Ready p f n) = ⊥
FitsNew A P s c b m (Last p f) = ⊥
FitsNew A P s c b m (Again a p f l) =
    FitsSource A P b (Freed a) p × Spare A P s m p f × (pool A b class p ≡ c) × (l ≤ 4096)
FitsNew A P s c b m (Anew src p) = FitsSource A P b src p × Spare A P s m p 48

-- and of any path
abbrev pub FitsAsk : ℕ → ℕ → ℕ → ℕ → List ℕ → List ℕ → AskPlan → Type 0
FitsAsk A P s c b m NoRoom = Unit
FitsAsk A P s c b m Damaged = Unit
FitsAsk A P s c b m (Follow p f l) = Listed A P s c b m p f × Start s l
FitsAsk A P s c b m (Ready p f n) = Listed A P s c b m p f × (n ≡ pool A b nextoffset p) × Start s n
FitsAsk A P s c b m (Last p f) = Listed A P s c b m p f × Links (A * P) (pool_links A) p b
FitsAsk A P s c b m (Again a p f l) = FitsNew A P s c b m (Again a p f l)
FitsAsk A P s c b m (Anew src p) = FitsNew A P s c b m (Anew src p)

-- what holds after a list's head is followed, or is none
front : (F : AskPlan → Type 0) (l most : ℕ) (f : ℕ → AskPlan) (otherwise : AskPlan) → F Damaged
    → ((n : ℕ) → n < most → F (f n))
    → (l ≡ 0 → F otherwise) → F (front_of l most f otherwise)
front F l most f otherwise d k o =
    either F (none? l) otherwise (leb l most ⇛ f (linked l)) (λ e. o (eqb-true l 0 e))
    (λ e. after F (leb l most) (f (linked l)) Damaged d (λ u. k (linked l) (omega (arith, leb-true l most u, eqb-false l 0 e))))

-- the path where the class list is empty: it takes a new pool
abbrev pub plan_new : ℕ → ℕ → ℕ → Heap → ℕ → AskPlan
plan_new al A P h c =
    front_of (at h.books usable_head) A (from_usable al A P h c)
    (front_of (at h.books unused_head) A (from_unused al A P h c) NoRoom)

-- ---- the path, from its ends to its beginning
module _ (al A P : ℕ) (h : Heap) (c : ℕ) (low : 8 ≤ size_of al c) where
  abbrev s : ℕ
  s = size_of al c

  abbrev b : List ℕ
  b = h.books

  abbrev m : List ℕ
  m = h.map

  abbrev F : AskPlan → Type 0
  F = FitsAsk A P s c b m

  abbrev N : AskPlan → Type 0
  N = FitsNew A P s c b m

  spared : (p f : ℕ) → p < A * P → spare al A P h c p f ≡ true → Spare A P s m p f
  spared p f there e =
      let t = both (is_start s f) (not (is_set m p (block_no s f))) e in
      record { there = there; start = start s f low t.0; clear = not-true (is_set m p (block_no s f)) t.1 }

  -- a link that is not 0, and any link
  linked_on : (p l : ℕ) → p < A * P → (none? l || spare al A P h c p l) ≡ true → none? l ≡ false → Start s l
  linked_on p l there e n = (spared p l there (rw n at e)).start

  linked_low : (p l : ℕ) → p < A * P → (none? l || spare al A P h c p l) ≡ true → l ≤ 4096
  linked_low p l there e = go (none? l) refl
    where
      go : (t : Bool) → none? l ≡ t → l ≤ 4096
      go true z = omega (arith, eqb-true l 0 z)
      go false n = omega (arith, (linked_on p l there e n).ends)

  fits_no_link : (p : ℕ) → Listed A P s c b m p (pool A b freeblock p) → F (no_link al A P h c p)
  unfolding no_link
  fits_no_link p listed =
      either F (leb (pool A b nextoffset p) (pool A b maxnextoffset p)) _ _
      (λ _. after F (spare al A P h c p (pool A b nextoffset p)) _ _ tt
      (λ r. (listed, refl, (spared p (pool A b nextoffset p) listed.spare.there r).start)))
      (λ _. after F (may_leave (A * P) (pool_links A) p b) _ _ tt (λ r. (listed, links (A * P) (pool_links A) p b r)))

  fits_freeblock : (p : ℕ) → p < A * P → pool A b class p ≡ c → pool A b count p ≤ 505 → F (from_freeblock al A P h c p)
  unfolding from_freeblock
  fits_freeblock p there class few =
      after F (spare al A P h c p (pool A b freeblock p)) _ _ tt
      (λ block.
      let listed : Listed A P s c b m p (pool A b freeblock p) = record { spare = spared p _ there block; class = class; count = few } in
      after F (none? (link_in al A P h c p) || spare al A P h c p (link_in al A P h c p)) _ _ tt
      (λ link. either F (none? (link_in al A P h c p)) _ _ (λ _. fits_no_link p listed) (λ e. (listed, linked_on p _ there link e))))

  fits_listed : (p : ℕ) → p < A * P → F (from_listed al A P h c p)
  unfolding from_listed
  fits_listed p there =
      after F (eqb (pool A b class p) c) _ _ tt
      (λ class. after F (eqb (pool A b maxnextoffset p) (4096 - s)) _ _ tt
      (λ _. after F (leb (pool A b count p) 505) _ _ tt
      (λ few. fits_freeblock p there (eqb-true _ c class) (leb-true _ 505 few))))

  fits_anew : (src : Source) (p : ℕ) → p < A * P → FitsSource A P b src p → N (set_anew al A P h c src p)
  unfolding set_anew
  fits_anew src p there source =
      after N (spare al A P h c p 48) _ _ tt
      (λ first. after N (spare al A P h c p (48 + s)) _ _ tt (λ _. (source, spared p 48 there first)))

  fits_same : (a p : ℕ) → p < A * P → pool A b class p ≡ c → FitsSource A P b (Freed a) p
      → N (same_class al A P h c a p)
  unfolding same_class
  fits_same a p there class source =
      after N (spare al A P h c p (pool A b freeblock p)) _ _ tt
      (λ block. after N (none? (link_in al A P h c p) || spare al A P h c p (link_in al A P h c p)) _ _ tt
      (λ link. (source, spared p _ there block, class, linked_low p _ there link)))

  fits_again : (a p : ℕ) → p < A * P → FitsSource A P b (Freed a) p → N (take_again al A P h c a p)
  unfolding take_again
  fits_again a p there source =
      either N (eqb (pool A b class p) c) _ _
      (λ class. fits_same a p there (eqb-true _ c class) source)
      (λ _. fits_anew (Freed a) p there source)

  -- an arena that gives a pool
  fits_counted : (a : ℕ) (rest : AskPlan) → a < A → (Gives A P a b → N rest) → N (counted al A P h c a rest)
  fits_counted a rest there f =
      let free = arena b free_pools a in
      after N (leb 1 free && leb free P) _ _ tt
      (λ ranged. after N (not (eqb free 1) || may_leave A arena_links a b) _ _ tt
      (λ leaves. f record {
        there = there;
        some = leb-true 1 free (both (leb 1 free) (leb free P) ranged).0;
        most = leb-true free P (both (leb 1 free) (leb free P) ranged).1;
        links = λ e. links A arena_links a b (rw (eq-eqb free 1 e) at leaves);
      }))

  fits_mark : (a : ℕ) → a < A → N (from_mark al A P h c a)
  unfolding from_mark
  fits_mark a there =
      after N (ltb (arena b carve_mark a) P) _ _ tt
      (λ below. fits_counted a _ there
      (λ gives. fits_anew (Carved a) _ (omega (arith, ltb-true (arena b carve_mark a) P below, mul-le-mul_right P there)) (gives, refl, ltb-true _ P below)))

  fits_freed : (a p : ℕ) → a < A → p < A * P → N (from_freed al A P h c a p)
  unfolding from_freed
  fits_freed a p there pool-there =
      after N (leb (pool A b pool_next p) (A * P)) _ _ tt
      (λ next. fits_counted a _ there (λ gives. fits_again a p pool-there (gives, leb-true _ (A * P) next)))

  fits_usable : (a : ℕ) → a < A → N (from_usable al A P h c a)
  unfolding from_usable
  fits_usable a there =
      front N (arena b freed_head a) (A * P) (from_freed al A P h c a) (from_mark al A P h c a) tt (λ p l. fits_freed a p there l) (λ _. fits_mark a there)

  fits_unused : (a : ℕ) → a < A → 1 ≤ P → at b usable_head ≡ 0 → N (from_unused al A P h c a)
  unfolding from_unused
  fits_unused a there some empty =
      after N (may_leave A arena_links a b) _ _ tt
      (λ leaves. fits_anew (Opened a) (a * P) (omega (arith, mul-le-mul_right P there)) (there, refl, links A arena_links a b leaves, empty))

  pub fits_new : 1 ≤ P → N (plan_new al A P h c)
  fits_new some =
      front N (at b usable_head) A (from_usable al A P h c) _ tt fits_usable
      (λ empty. front N (at b unused_head) A (from_unused al A P h c) _ tt (λ a l. fits_unused a l some empty) (λ _. tt))

  -- what is known of a new pool's path is known of the path
  any : (q : AskPlan) → N q → F q
  any (Follow _ _ _) t = elim t [ ]
  any (Ready _ _ _) t = elim t [ ]
  any (Last _ _) t = elim t [ ]
  any NoRoom t = tt
  any Damaged t = tt
  any (Again a p f l) t = t
  any (Anew src p) t = t

  pub fits_ask : 1 ≤ P → F (plan_ask al A P h c)
  unfolding plan_ask
  fits_ask some = front F (at b (class_head c)) (A * P) (from_listed al A P h c) _ tt fits_listed (λ _. any (plan_new al A P h c) (fits_new some))
