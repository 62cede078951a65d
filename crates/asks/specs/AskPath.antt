-- The path of an ask from a listed pool by the tests that its functions make, of which the rules' definitions are a
-- chain.
-- Assumes nothing.
use Rattle.std.specs.Prelude.{◌≡◌, refl, Bool, true, false, not, ◌&&◌, ◌||◌, List, ℕ, ◌*◌, ◌≤◌, ◌<◌, leb, eqb, if◌then◌else◌}
use Rattle.std.proofs.Common.{le-leb, eq-eqb, ne_eqb, leb-true}
use Rattle.std.proofs.lemmas.Bool.{lt-leb}
use Rattle.rules.specs.declared.AskPlan.{AskPlan}
use Rattle.rules.specs.declared.AskPlan.TheVariants.{Damaged, Follow, Ready, Last}
use Rattle.rules.specs.Books.{Heap, count, class, maxnextoffset, pool, none?, is_set, offset_of}
use Rattle.rules.specs.Blocks.{size_of, last_start, is_start, block_no, link_at}
use Rattle.rules.specs.Outcome.{outcome, answer_of}
use Rattle.rules.specs.Ask.{◌⇛◌, no_link, from_freeblock, from_listed, ask_answer, after_ask, asked}
use Rattle.books.specs.declared.pool.Pool.{Pool}
use Rattle.books.specs.Lists.{pool_may_leave}
use Rattle.books.specs.Records.{pool_at, may_serve, links_lead}
use Rattle.books.specs.Starts.{Start, start}
use Rattle.books.specs.Tests.{both}

-- a path that ends at a broken rule is refused, and changes nothing
pub damaged : (al A P c : ℕ) (h : Heap) (q : AskPlan) → q ≡ Damaged → outcome (answer_of 6 0) h ≡ asked al A P c h q
unfolding ask_answer after_ask
damaged al A P c h q e = rw e

three_rules : (x y z : Bool) (rest : AskPlan) → (x ⇛ y ⇛ z ⇛ rest) ≡ (x && y && z ⇛ rest)
three_rules true true z rest = refl
three_rules true false z rest = refl
three_rules false y z rest = refl

-- the rule for a block of size s at f in pool p
abbrev spared : Heap → ℕ → ℕ → ℕ → Bool
spared h p s f = is_start s f && not (is_set h.map p (block_no s f))

pub begins : (h : Heap) (p s f : ℕ) → 8 ≤ s → spared h p s f ≡ true → Start s f
begins h p s f low u = start s f low (both (is_start s f) (not (is_set h.map p (block_no s f))) u).0

-- the front pool p of a list, whose record is q, has a block of size s to give, at its freeblock
pub record Front (A P s p : ℕ) (q : Pool) (b : List ℕ) : Type 0 where
  pub loaded : q ≡ pool_at A b p
  pub there : p < A * P
  pub count : q.count ≤ 505
  pub start : Start s q.freeblock

-- from the listed pool p, whose record is q, for class c, whose blocks have size s
module _ (al A P : ℕ) (h : Heap) (c p s : ℕ) (q : Pool)
    (size : s ≡ size_of al c) (loaded : q ≡ pool_at A h.books p) where
  listed_is : from_listed al A P h c p ≡ (may_serve q c s ⇛ from_freeblock al A P h c p)
  unfolding from_listed
  listed_is =
      rw (loaded, size)
      (three_rules
      (eqb (pool A h.books class p) c)
      (eqb (pool A h.books maxnextoffset p) (last_start (size_of al c)))
      (leb (pool A h.books count p) 505)
      (from_freeblock al A P h c p))

  pub not_serving : may_serve q c s ≡ false → from_listed al A P h c p ≡ Damaged
  not_serving t = rw (listed_is, t)

  -- its freeblock is f
  module _ (f : ℕ) (free : f ≡ q.freeblock) where
    pub front : 8 ≤ s → p < A * P → may_serve q c s ≡ true → spared h p s f ≡ true → Front A P s p q h.books
    front low there t u =
        record {
          loaded = loaded;
          there = there;
          count = leb-true q.count 505 (both (eqb q.class c && eqb q.maxnextoffset (last_start s)) (leb q.count 505) t).1;
          start = rw (← free) (begins h p s f low u);
        }

    -- and the link there is l
    module _ (l : ℕ) (link : l ≡ link_at h.memory (offset_of p f)) (t : may_serve q c s ≡ true) where
      freeblock_is : from_freeblock al A P h c p
          ≡ (spared h p s f ⇛ (none? l || spared h p s l) ⇛ (if none? l then no_link al A P h c p else Follow p f l))
      unfolding from_freeblock
      freeblock_is = rw (link, free, loaded, size)

      pub not_spare : spared h p s f ≡ false → from_listed al A P h c p ≡ Damaged
      not_spare u = rw (listed_is, t, freeblock_is, u)

      pub unlinked : spared h p s f ≡ true → l ≡ 0 → from_listed al A P h c p ≡ no_link al A P h c p
      unlinked u z = rw (listed_is, t, freeblock_is, u, eq-eqb l 0 z)

      pub linked_wrong : spared h p s f ≡ true → (l ≡ 0 → ⊥) → spared h p s l ≡ false
          → from_listed al A P h c p ≡ Damaged
      linked_wrong u n v = rw (listed_is, t, freeblock_is, u, ne_eqb l 0 n, v)

      pub follows : spared h p s f ≡ true → (l ≡ 0 → ⊥) → spared h p s l ≡ true
          → from_listed al A P h c p ≡ Follow p f l
      follows u n v = rw (listed_is, t, freeblock_is, u, ne_eqb l 0 n, v)

    -- which has no link, and its nextoffset is n
    module _ (n : ℕ) (next : n ≡ q.nextoffset) where
      no_link_is : no_link al A P h c p
          ≡ (if leb q.nextoffset q.maxnextoffset then spared h p s n ⇛ Ready p f n
          else links_lead q (A * P) ⇛ Last p f)
      unfolding no_link
      no_link_is = rw (next, free, loaded, size, pool_may_leave (A * P) A p h.books)

      pub not_ready : q.nextoffset ≤ q.maxnextoffset → spared h p s n ≡ false → no_link al A P h c p ≡ Damaged
      not_ready r t = rw (no_link_is, le-leb q.nextoffset q.maxnextoffset r, t)

      pub is_ready : q.nextoffset ≤ q.maxnextoffset → spared h p s n ≡ true → no_link al A P h c p ≡ Ready p f n
      is_ready r t = rw (no_link_is, le-leb q.nextoffset q.maxnextoffset r, t)

      pub stuck : q.maxnextoffset < q.nextoffset → links_lead q (A * P) ≡ false → no_link al A P h c p ≡ Damaged
      stuck r t = rw (no_link_is, lt-leb q.nextoffset q.maxnextoffset r, t)

      pub is_last : q.maxnextoffset < q.nextoffset → links_lead q (A * P) ≡ true → no_link al A P h c p ≡ Last p f
      is_last r t = rw (no_link_is, lt-leb q.nextoffset q.maxnextoffset r, t)
