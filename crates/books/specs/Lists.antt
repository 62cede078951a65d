-- The laws of leaving and joining a list in the books: the words that they read, and those that they leave as they are.
-- Assumes nothing.
use Rattle.std.specs.Prelude.{◌≡◌, refl, ◌≢◌, Bool, true, false, not, ◌&&◌, List, [], ◌∷◌, ℕ, zero, suc, ◌+◌, ◌*◌, ◌≤◌, ◌<◌, leb, length, get_or, if◌then◌else◌}
use Rattle.std.proofs.Common.{ap₂, ap, ◌∙◌, arith, length-set, get_or-set_other, leb-true}
use Rattle.rules.specs.Say.{only}
use Rattle.rules.specs.Books.{at, put, arena_word, arena, pool_next, pool_previous, pool, none?, linked}
use Rattle.rules.specs.Lists.{next_at, previous_at, leave_by, join_by, leave, may_leave, pool_links}
use Rattle.books.specs.Tests.{both}

-- the record that a link leads to, if any, has its next and previous words inside books of that many words
abbrev pub Within : ℕ → ℕ → ℕ → Type 0
Within base words link = base + 8 * link ≤ words + 6

-- the links of member n, of a list whose links are at most `most`
pub record Links (most base n : ℕ) (b : List ℕ) : Type 0 where
  pub next : at b (next_at base n) ≤ most
  pub previous : at b (previous_at base n) ≤ most

-- what the rule for leaving says
pub links : (most base n : ℕ) (b : List ℕ) → may_leave most base n b ≡ true → Links most base n b
links most base n b e = record {
  next = leb-true (at b (next_at base n)) most (both (leb (at b (next_at base n)) most) (leb (at b (previous_at base n)) most) e).0;
  previous = leb-true (at b (previous_at base n)) most (both (leb (at b (next_at base n)) most) (leb (at b (previous_at base n)) most) e).1;
}

-- ---- the length stays
length_only : (t : Bool) (i v : ℕ) (b : List ℕ) → length (only t (put i v) b) ≡ length b
length_only true i v b = length-set b i v
length_only false i v b = refl

pub length_leave_by : (base head next previous n : ℕ) (b : List ℕ)
    → length (leave_by base head next previous n b) ≡ length b
unfolding leave_by
length_leave_by base head next previous n b = simp (length-set, length_only)

pub length_join_by : (base place next previous n : ℕ) (b : List ℕ)
    → length (join_by base place next previous n b) ≡ length b
unfolding join_by
length_join_by base place next previous n b = simp (length-set, length_only)

-- ---- the words that they read, given
pub leave_reads : (base head next previous n : ℕ) (b : List ℕ) → at b (next_at base n) ≡ next
    → at b (previous_at base n) ≡ previous
    → leave base head n b ≡ leave_by base head next previous n b
leave_reads base head next previous n b e f = ap₂ (λ (x y : ℕ). leave_by base head x y n b) e f

-- the same of pool n, whose two words are those of its record
pub pool_leaves_lem : (A head next previous n : ℕ) (b : List ℕ) → pool A b pool_next n ≡ next
    → pool A b pool_previous n ≡ previous
    → leave (pool_links A) head n b ≡ leave_by (pool_links A) head next previous n b
pool_leaves_lem A head next previous n b e f =
    leave_reads (pool_links A) head next previous n b (ap (at b) (omega arith) ∙ e) (ap (at b) (omega arith) ∙ f)

-- and so are the words of the rule for leaving
pub pool_may_leave : (most A n : ℕ) (b : List ℕ)
    → may_leave most (pool_links A) n b ≡ (leb (pool A b pool_next n) most && leb (pool A b pool_previous n) most)
pool_may_leave most A n b = ap₂ (λ (x y : ℕ). leb (at b x) most && leb (at b y) most) (omega arith) (omega arith)

-- ---- a word that they don't write stays
only_keeps : (t : Bool) (i v : ℕ) (b : List ℕ) (j d : ℕ) → j ≢ i → get_or (only t (put i v) b) j d ≡ get_or b j d
only_keeps true i v b j d h = get_or-set_other b i j v d h
only_keeps false i v b j d h = refl

neither : (t : Bool) (j x y : ℕ) → j ≢ x → j ≢ y → j ≢ (if t then x else y)
neither true j x y h k = h
neither false j x y h k = k

pub leave_keeps : (base head next previous n : ℕ) (b : List ℕ) (j : ℕ)
    → (j ≢ head)
    × (j ≢ next_at base (linked previous))
    × (j ≢ previous_at base (linked next))
    × (j ≢ next_at base n)
    × (j ≢ previous_at base n)
    → at (leave_by base head next previous n b) j ≡ at b j
unfolding leave_by
leave_keeps base head next previous n b j h =
    simp (
      get_or-set_other,
      only_keeps,
      neither (none? previous) j head (next_at base (linked previous)) h.0 h.1,
      h.2,
      h.3,
      h.4,
    )

pub join_keeps : (base place next previous n : ℕ) (b : List ℕ) (j : ℕ)
    → (j ≢ place) × (j ≢ previous_at base (linked next)) × (j ≢ next_at base n) × (j ≢ previous_at base n)
    → at (join_by base place next previous n b) j ≡ at b j
unfolding join_by
join_keeps base place next previous n b j h = simp (get_or-set_other, only_keeps, h.0, h.1, h.2, h.3)

-- a place before the first link is none of the links
pub before_links : (base j n : ℕ) → j < base → (j ≢ next_at base n) × (j ≢ previous_at base n)
before_links base j n h = (omega arith, omega arith)

-- ---- a word that is at most `most` stays so where what is written is
low_put : (most i v j : ℕ) (b : List ℕ) → v ≤ most → at b j ≤ most → at (put i v b) j ≤ most
low_put most i v j [] u w = w
low_put most zero v zero (x ∷ xs) u w = u
low_put most zero v (suc j) (x ∷ xs) u w = w
low_put most (suc i) v zero (x ∷ xs) u w = w
low_put most (suc i) v (suc j) (x ∷ xs) u w = low_put most i v j xs u w

low_only : (most : ℕ) (t : Bool) (i v j : ℕ) (b : List ℕ) → v ≤ most → at b j ≤ most → at (only t (put i v) b) j ≤ most
low_only most true i v j b u w = low_put most i v j b u w
low_only most false i v j b u w = w

-- so a link still leads to a member, or to none, once another member has left
pub leave_low : (most base head n j : ℕ) (b : List ℕ) → Links most base n b → at b j ≤ most
    → at (leave base head n b) j ≤ most
unfolding leave_by
leave_low most base head n j b t w =
    let next = at b (next_at base n) in
    let previous = at b (previous_at base n) in
    let place = if none? previous then head else next_at base (linked previous) in
    let b₁ = put place next b in
    let b₂ = only (not (none? next)) (put (previous_at base (linked next)) previous) b₁ in
    low_put most (previous_at base n) 0 j (put (next_at base n) 0 b₂) (omega arith) (low_put most (next_at base n) 0 j b₂ (omega arith)
    (low_only most (not (none? next)) (previous_at base (linked next)) previous j b₁ t.previous (low_put most place next j b t.next w)))

-- ---- the pools' lists leave every word of an arena record as it is
pub pool_leave_keeps : (A head next previous n : ℕ) (b : List ℕ) (w a : ℕ) → head < 72 → a < A → w < 8
    → arena (leave_by (pool_links A) head next previous n b) w a ≡ arena b w a
pool_leave_keeps A head next previous n b w a h l k =
    leave_keeps (pool_links A) head next previous n b (arena_word w a) (omega arith)
