-- A pool record as a struct: the one that the books hold of pool n, the books with one stored there, what the methods
-- ask of one and what they make of it.
-- Assumes nothing.
use Rattle.std.specs.Prelude.{◌≡◌, refl, Bool, true, false, ◌&&◌, List, ℕ, zero, suc, ◌+◌, ◌*◌, ◌-◌, ◌≤◌, leb, eqb, length}
use Rattle.std.proofs.Common.{sym, ap, ◌∙◌, arith, leb-true, get_or-set_other}
use Rattle.std.proofs.lemmas.Bool.{eqb-false}
use Rattle.std.proofs.lemmas.List.{set-get_or, set_comm}
use Rattle.rules.specs.Say.{◌▷◌}
use Rattle.rules.specs.Books.{at, put, count, freeblock, pool_next, pool_previous, class, nextoffset, maxnextoffset, pool_word, pool}
use Rattle.rules.specs.Blocks.{last_start}
use Rattle.rules.specs.Format.{fresh_arenas, fresh_pools}
use Rattle.books.specs.declared.pool.Pool.{Pool}
use Rattle.books.specs.Tests.{both}

-- the eighth word of a record
abbrev pub spare : ℕ
spare = 7

-- a record by its words, in their order
abbrev pub pool_of : ℕ → ℕ → ℕ → ℕ → ℕ → ℕ → ℕ → ℕ → Pool
pool_of count freeblock next previous class nextoffset maxnextoffset spare =
    record {
      count = count;
      freeblock = freeblock;
      next = next;
      previous = previous;
      class = class;
      nextoffset = nextoffset;
      maxnextoffset = maxnextoffset;
      spare = spare;
    }

-- the record of pool n in books of A arenas
abbrev pub pool_at : ℕ → List ℕ → ℕ → Pool
pool_at A b n =
    pool_of
    (pool A b count n)
    (pool A b freeblock n)
    (pool A b pool_next n)
    (pool A b pool_previous n)
    (pool A b class n)
    (pool A b nextoffset n)
    (pool A b maxnextoffset n)
    (pool A b spare n)

-- the books with the record p stored for pool n, its words in the order in which 01 sets a pool to a class
unfoldable pub put_pool : ℕ → ℕ → Pool → List ℕ → List ℕ
put_pool A n p b =
    b
    ▷ put (pool_word A pool_next n) p.next
    ▷ put (pool_word A pool_previous n) p.previous
    ▷ put (pool_word A count n) p.count
    ▷ put (pool_word A class n) p.class
    ▷ put (pool_word A nextoffset n) p.nextoffset
    ▷ put (pool_word A maxnextoffset n) p.maxnextoffset
    ▷ put (pool_word A freeblock n) p.freeblock
    ▷ put (pool_word A spare n) p.spare

-- ---- what the methods ask
-- of a pool on the list of class c, of blocks of the given size, from which one is to be taken
abbrev pub may_serve : Pool → ℕ → ℕ → Bool
may_serve p c size = eqb p.class c && eqb p.maxnextoffset (last_start size) && leb p.count 505

-- of a pool to which a block is to be given back
abbrev pub may_give : Pool → Bool
may_give p = leb 1 p.count && leb p.count 506

-- of a pool that is to leave its list: its links are at most `most`
abbrev pub links_lead : Pool → ℕ → Bool
links_lead p most = leb p.next most && leb p.previous most

pub leads : (p : Pool) (most : ℕ) → links_lead p most ≡ true → (p.next ≤ most) × (p.previous ≤ most)
leads p most e =
    let t = both (leb p.next most) (leb p.previous most) e in
    (leb-true p.next most t.0, leb-true p.previous most t.1)

-- ---- what the methods hand back
-- a block is taken, and freeblock becomes its link
abbrev pub taken : Pool → ℕ → Pool
taken p link =
    pool_of (p.count + 1) link p.next p.previous p.class p.nextoffset p.maxnextoffset p.spare

-- a block is taken, and the next one of the given size is exposed
abbrev pub exposed : Pool → ℕ → Pool
exposed p size =
    pool_of (p.count + 1) p.nextoffset p.next p.previous
    p.class (p.nextoffset + size) p.maxnextoffset p.spare

-- the block at f is given back
abbrev pub given : Pool → ℕ → Pool
given p f = pool_of (p.count - 1) f p.next p.previous p.class p.nextoffset p.maxnextoffset p.spare

-- the pool is alone on the list of its own class, and its freeblock, which is taken, gives way to the link in it
abbrev pub taken_again : Pool → ℕ → Pool
taken_again p link = pool_of 1 link 0 0 p.class p.nextoffset p.maxnextoffset p.spare

-- the pool is alone on the list of class c, of blocks of the given size, and its first block is taken
abbrev pub set_to : Pool → ℕ → ℕ → Pool
set_to p c size = pool_of 1 (48 + size) 0 0 c (48 + 2 * size) (last_start size) p.spare

-- ---- storing a record
-- a word that is stored as it stands
kept : (b : List ℕ) (i v : ℕ) → at b i ≡ v → put i v b ≡ b
kept b i v e = ap (λ (x : ℕ). put i x b) (sym e) ∙ set-get_or b i 0

-- another word of the record than the one that is written
pub other_word : (b : List ℕ) (q w v u : ℕ) → eqb u w ≡ false → at (put (q + w) v b) (q + u) ≡ at b (q + u)
other_word b q w v u e =
    let h : u ≡ w → ⊥ = eqb-false u w e in
    get_or-set_other b (q + w) (q + u) v 0 (omega arith)

module _ (A n : ℕ) (b : List ℕ) where
  -- a block was taken
  pub take_stored : (link : ℕ)
      → put_pool A n (taken (pool_at A b n) link) b
      ≡ (b ▷ put (pool_word A count n) (pool A b count n + 1) ▷ put (pool_word A freeblock n) link)
  unfolding put_pool
  take_stored link = simp (kept, other_word)

  -- a block was taken and the next one exposed
  pub expose_stored : (size : ℕ)
      → put_pool A n (exposed (pool_at A b n) size) b
      ≡ (b
      ▷ put (pool_word A count n) (pool A b count n + 1)
      ▷ put (pool_word A freeblock n) (pool A b nextoffset n)
      ▷ put (pool_word A nextoffset n) (pool A b nextoffset n + size))
  unfolding put_pool
  expose_stored size =
      simp (kept, other_word)
      (set_comm
      (put (pool_word A count n) (pool A b count n + 1) b)
      (pool_word A nextoffset n)
      (pool_word A freeblock n)
      (pool A b nextoffset n + size)
      (pool A b nextoffset n)
      (omega arith))

  -- the block at f was given back
  pub give_stored : (f : ℕ)
      → put_pool A n (given (pool_at A b n) f) b
      ≡ (b ▷ put (pool_word A freeblock n) f ▷ (λ x. put (pool_word A count n) (at x (pool_word A count n) - 1) x))
  unfolding put_pool
  give_stored f =
      simp (kept, other_word)
      (set_comm b (pool_word A count n) (pool_word A freeblock n) (pool A b count n - 1) f (omega arith))

  -- ---- the record was loaded from b and is stored in b', the pool having been taken from its source in between
  -- the pool is taken for its own class, and stands in b' as it stood in b
  pub again_stored : (b' : List ℕ) (link : ℕ) → ((w : ℕ) → pool A b' w n ≡ pool A b w n)
      → put_pool A n (taken_again (pool_at A b n) link) b'
      ≡ (b'
      ▷ put (pool_word A pool_next n) 0
      ▷ put (pool_word A pool_previous n) 0
      ▷ put (pool_word A count n) 1
      ▷ put (pool_word A freeblock n) link)
  unfolding put_pool
  again_stored b' link h = simp (kept, other_word, h)

  -- the pool is set to class c, of blocks of the given size, and its spare word stands in b' as it stood in b
  pub anew_stored : (b' : List ℕ) (c size : ℕ) → pool A b' spare n ≡ pool A b spare n
      → put_pool A n (set_to (pool_at A b n) c size) b'
      ≡ (b'
      ▷ put (pool_word A pool_next n) 0
      ▷ put (pool_word A pool_previous n) 0
      ▷ put (pool_word A count n) 1
      ▷ put (pool_word A class n) c
      ▷ put (pool_word A nextoffset n) (48 + 2 * size)
      ▷ put (pool_word A maxnextoffset n) (last_start size)
      ▷ put (pool_word A freeblock n) (48 + size))
  unfolding put_pool
  anew_stored b' c size h = simp (kept, other_word, h)

-- ---- the records of a fresh heap are eight words long
pub length_arenas : (i k : ℕ) → length (fresh_arenas i k) ≡ 8 * k
length_arenas i zero = refl
length_arenas i (suc k) = omega (arith, length_arenas (suc i) k)

pub length_pools : (k : ℕ) → length (fresh_pools k) ≡ 8 * k
length_pools zero = refl
length_pools (suc k) = omega (arith, length_pools k)
