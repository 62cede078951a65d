-- The laws of counting: `how_many test n` where the test changes at one number, and where it passes everywhere or
-- nowhere. And of tests that every number below n passes, that of a pool's set bits among them.
-- Assumes nothing.
use Rattle.std.specs.Prelude.{◌≡◌, ◌≢◌, Bool, true, false, not, ◌&&◌, List, ℕ, zero, suc, ◌+◌, ◌≤◌, ◌<◌, if◌then◌else◌}
use Rattle.std.proofs.Math.Path.{refl}
use Rattle.std.proofs.Common.{sym, ap, ◌∙◌, arith}
use Rattle.std.proofs.lemmas.Bool.{false≢true}
use Rattle.std.proofs.Math.Numerals.{add-one}
use Rattle.std.proofs.Math.Decide.{ℕ_discrete}
use Rattle.std.proofs.Math.Dec.{ltb}
use borrow.Author.Tests.{lt-ltb, ltb-true}
use Rattle.rules.specs.Say.{◌implies◌, all_below, how_many}
use Rattle.rules.specs.Books.{is_set}
use Rattle.rules.specs.Audit.{bits_below}
use Rattle.books.specs.Tests.{both}
use Rattle.sequences.specs.Update.{is_false}

-- what a number counts for
abbrev one : Bool → ℕ
one t = if t then 1 else 0

one_le : (t : Bool) → one t ≤ 1
one_le true = omega arith
one_le false = omega arith

pub many_same : (f g : ℕ → Bool) (n : ℕ) → ((k : ℕ) → k < n → g k ≡ f k) → how_many g n ≡ how_many f n
unfolding how_many
many_same f g zero e = refl
many_same f g (suc n) e = rw (e n (omega arith), many_same f g n (λ k l. e k (omega arith)))

-- one more passes
pub many_more : (f g : ℕ → Bool) (x n : ℕ) → x < n → f x ≡ false → g x ≡ true → ((k : ℕ) → k ≢ x → g k ≡ f k)
    → how_many g n ≡ suc (how_many f n)
unfolding how_many
many_more f g x zero l p q s = absurd (omega arith)
many_more f g x (suc n) l p q s = go (ℕ_discrete n x) (λ h. many_more f g x n h p q s)
  where
    go : Dec (n ≡ x) → (x < n → how_many g n ≡ suc (how_many f n))
        → one (g n) + how_many g n ≡ suc (one (f n) + how_many f n)
    go (yes e) h = rw (e, p, q) (omega (arith, rw e at (many_same f g n (λ k m. s k (omega arith)))))
    go (no d) h = rw (s n d, h (omega arith)) (omega arith)

-- no number passes; every one; some
pub many_none : (f : ℕ → Bool) (n : ℕ) → ((k : ℕ) → k < n → f k ≡ false) → how_many f n ≡ 0
unfolding how_many
many_none f zero e = refl
many_none f (suc n) e = rw (e n (omega arith), many_none f n (λ k l. e k (omega arith)))

pub many_all : (f : ℕ → Bool) (n : ℕ) → ((k : ℕ) → k < n → f k ≡ true) → how_many f n ≡ n
unfolding how_many
many_all f zero e = refl
many_all f (suc n) e = rw (e n (omega arith), many_all f n (λ k l. e k (omega arith))) (omega arith)

pub many_some : (f : ℕ → Bool) (k n : ℕ) → k < n → f k ≡ true → 1 ≤ how_many f n
unfolding how_many
many_some f k zero l e = absurd (omega arith)
many_some f k (suc n) l e = go (ℕ_discrete k n) (λ u. many_some f k n u e)
  where
    go : Dec (k ≡ n) → (k < n → 1 ≤ how_many f n) → 1 ≤ one (f n) + how_many f n
    go (yes q) t = rw (← q, e) (omega arith)
    go (no q) t = omega (arith, t (omega arith))

-- none passes where none is counted
pub none_many : (f : ℕ → Bool) (n : ℕ) → how_many f n ≡ 0 → (k : ℕ) → k < n → f k ≡ false
none_many f n z k l = is_false (f k) (λ e. omega (arith, many_some f k n l e))

-- numbers at which no test passes count for nothing
pub many_cut : (f : ℕ → Bool) (v n : ℕ) → v ≤ n → ((k : ℕ) → v ≤ k → k < n → f k ≡ false) → how_many f n ≡ how_many f v
unfolding how_many
many_cut f zero zero l e = refl
many_cut f (suc v) zero l e = absurd (omega arith)
many_cut f v (suc n) l e = go (ℕ_discrete v (suc n)) (λ u. many_cut f v n u (λ k a b. e k a (omega arith)))
  where
    go : Dec (v ≡ suc n) → (v ≤ n → how_many f n ≡ how_many f v) → how_many f (suc n) ≡ how_many f v
    go (yes q) t = ap (how_many f) (sym q)
    go (no q) t = rw (e n (omega arith) (omega arith)) (omega (arith, t (omega arith)))

pub many_le : (f : ℕ → Bool) (n : ℕ) → how_many f n ≤ n
unfolding how_many
many_le f zero = omega arith
many_le f (suc n) = omega (arith, one_le (f n), many_le f n)

-- more numbers, no fewer that pass
pub many_rises : (f : ℕ → Bool) (m n : ℕ) → m ≤ n → how_many f m ≤ how_many f n
unfolding how_many
many_rises f m zero l = let z : m ≡ 0 = omega arith in rw z (omega arith)
many_rises f m (suc n) l = go (ℕ_discrete m (suc n)) (λ u. many_rises f m n u)
  where
    go : Dec (m ≡ suc n) → (m ≤ n → how_many f m ≤ how_many f n) → how_many f m ≤ how_many f (suc n)
    go (yes q) t = rw q (omega arith)
    go (no q) t = omega (arith, t (omega arith))

-- those that pass and those that fail are all
pub many_not : (f : ℕ → Bool) (n : ℕ) → how_many f n + how_many (λ k. not (f k)) n ≡ n
unfolding how_many
many_not f zero = refl
many_not f (suc n) = omega (arith, halves (f n), many_not f n)
  where
    halves : (t : Bool) → one t + one (not t) ≡ 1
    halves true = refl
    halves false = refl

-- all pass where all are counted
pub all_many : (f : ℕ → Bool) (n : ℕ) → how_many f n ≡ n → (k : ℕ) → k < n → f k ≡ true
unfolding how_many
all_many f zero e k l = absurd (omega arith)
all_many f (suc n) e k l = go (ℕ_discrete k n) (f n) refl (λ z. all_many f n z k)
  where
    go : Dec (k ≡ n) → (t : Bool) → f n ≡ t → (how_many f n ≡ n → k < n → f k ≡ true) → f k ≡ true
    go d false q h = absurd (omega (arith, ap one q, many_le f n))
    go (yes p) true q h = ap f p ∙ q
    go (no p) true q h = h (omega (arith, ap one q)) (omega arith)

-- where some are counted, one passes
pub record Passes (f : ℕ → Bool) (n : ℕ) : Type 0 where
  pub number : ℕ
  pub low : number < n
  pub yes : f number ≡ true

pub many_has : (f : ℕ → Bool) (n : ℕ) → 1 ≤ how_many f n → Passes f n
unfolding how_many
many_has f zero l = absurd (omega arith)
many_has f (suc n) l = go (f n) refl (many_has f n)
  where
    up : Passes f n → Passes f (suc n)
    up t = record { number = t.number; low = omega (arith, t.low); yes = t.yes }

    go : (t : Bool) → f n ≡ t → (1 ≤ how_many f n → Passes f n) → Passes f (suc n)
    go true e h = record { number = n; low = omega arith; yes = e }
    go false e h = up (h (omega (arith, ap one e)))

-- ---- tests that every number below n passes
-- from 0 up
module _ (f : ℕ → Bool) where
  pub all_none : all_below f 0 ≡ true
  unfolding all_below
  all_none = refl

  pub all_more : (n : ℕ) → all_below f (n + 1) ≡ f n && all_below f n
  unfolding all_below
  all_more n = rw add-one

-- each passes, where all do, and the other way
pub every_is : (f : ℕ → Bool) (n : ℕ) → all_below f n ≡ true → (k : ℕ) → k < n → f k ≡ true
unfolding all_below
every_is f zero e k l = absurd (omega arith)
every_is f (suc n) e k l = go (ℕ_discrete k n) (both (f n) (all_below f n) e) (λ t. every_is f n t k)
  where
    go : Dec (k ≡ n) → (f n ≡ true) × (all_below f n ≡ true) → (all_below f n ≡ true → k < n → f k ≡ true) → f k ≡ true
    go (yes q) t r = ap f q ∙ t.0
    go (no q) t r = r t.1 (omega arith)

pub is_every : (f : ℕ → Bool) (n : ℕ) → ((k : ℕ) → k < n → f k ≡ true) → all_below f n ≡ true
unfolding all_below
is_every f zero e = refl
is_every f (suc n) e = rw (e n (omega arith)) (is_every f n (λ k l. e k (omega arith)))

-- of a test that is to pass where another one does
pub implied : (t u : Bool) → (t implies u) ≡ true → t ≡ true → u ≡ true
implied true u e p = e
implied false u e p = absurd (false≢true p)

pub is_implied : (t u : Bool) → (t ≡ true → u ≡ true) → (t implies u) ≡ true
is_implied true u f = f refl
is_implied false u f = refl

-- ---- each set bit of pool n is of a block below block v
module _ (map : List ℕ) (n v : ℕ) where
  pub below_is : bits_below map n v ≡ true → (k : ℕ) → k < 512 → is_set map n k ≡ true → k < v
  unfolding bits_below
  below_is e k l q = ltb-true k v (implied (is_set map n k) (ltb k v) (every_is (λ k. is_set map n k implies ltb k v) 512 e k l) q)

  pub is_below : ((k : ℕ) → k < 512 → is_set map n k ≡ true → k < v) → bits_below map n v ≡ true
  unfolding bits_below
  is_below f = is_every (λ k. is_set map n k implies ltb k v) 512 (λ k l. is_implied (is_set map n k) (ltb k v) (λ q. lt-ltb k v (f k l q)))
