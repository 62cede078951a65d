-- One turn of the audit's walks: of a test that every number passes, of a count, of a list and of a chain.
-- Assumes nothing.
use Rattle.std.specs.Prelude.{◌≡◌, ◌≢◌, Bool, true, false, ◌&&◌, List, ltb, eqb, if◌then◌else◌}
use Rattle.std.proofs.Math.Path.{refl, ap}
use Rattle.std.proofs.Common.{◌∙◌, add-one}
use Rattle.std.proofs.Math.Bool.{not}
use Prim.Native.Nat.{ℕ, zero, suc, ◌+◌, ◌-◌, ◌≤◌, ◌<◌}
use Rattle.std.proofs.Math.Decide.{ℕ_discrete, dec_lt}
use native.Mathlib.Omega.{arith}
use borrow.Author.Tests.{ne_eqb, le-leb, lt-leb}
use Rattle.rules.specs.Say.{all_below, how_many}
use Rattle.rules.specs.Books.{at, none?, linked, offset_of}
use Rattle.rules.specs.Blocks.{is_start, block_no, link_at}
use Rattle.rules.specs.Audit.{leads, meets, holds, is_dead, chained}
use Rattle.books.specs.Tests.{both}
use Rattle.sequences.specs.Counting.{many_same}

-- ---- counts, from 0 up
module _ (f : ℕ → Bool) where
  pub none_counted : how_many f 0 ≡ 0
  unfolding how_many
  none_counted = refl

  pub counts : (n : ℕ) → f n ≡ true → how_many f (n + 1) ≡ how_many f n + 1
  unfolding how_many
  counts n e = rw (add-one n, e) (omega arith)

  pub passes : (n : ℕ) → f n ≡ false → how_many f (n + 1) ≡ how_many f n
  unfolding how_many
  passes n e = rw (add-one n, e) (omega arith)

-- the same test at every number, the same answer
pub all_same : (f g : ℕ → Bool) (n : ℕ) → ((k : ℕ) → k < n → g k ≡ f k) → all_below g n ≡ all_below f n
unfolding all_below
all_same f g zero e = refl
all_same f g (suc n) e = rw (e n (omega arith), all_same f g n (λ k l. e k (omega arith)))

-- ---- a list
module _ (pv : ℕ → ℕ) (member : ℕ → Bool) (most : ℕ) (b : List ℕ) (l p : ℕ) where
  pub none_led : l ≡ 0 → leads pv member most b l p ≡ false
  unfolding leads
  none_led z = rw z

  pub far_led : most < l → leads pv member most b l p ≡ false
  unfolding leads
  far_led u = rw (ne_eqb l 0 (omega arith), lt-leb l most u)

  pub near_led : l ≢ 0 → l ≤ most → leads pv member most b l p ≡ (member (linked l) && eqb (at b (pv (linked l))) p)
  unfolding leads
  near_led d u = rw (ne_eqb l 0 d, le-leb l most u)

module _ (nx pv : ℕ → ℕ) (member : ℕ → Bool) (most : ℕ) (b : List ℕ) (doubly : Bool) where
  pub meets_end : (k l p : ℕ) → k ≡ 0 → meets nx pv member most b doubly k l p ≡ none? l
  unfolding meets
  meets_end k l p e = rw e

  meets_turn : (k l p : ℕ) → 1 ≤ k → meets nx pv member most b doubly k l p
      ≡ leads pv member most b l p
      && meets nx pv member most b doubly (k - 1) (at b (nx (linked l))) (if doubly then l else 0)
  unfolding meets
  meets_turn k l p u = let e : k ≡ suc (k - 1) = omega arith in ap (λ (j : ℕ). meets nx pv member most b doubly j l p) e

  pub meets_goes : (k l p : ℕ) → 1 ≤ k → leads pv member most b l p ≡ true → meets nx pv member most b doubly k l p
      ≡ meets nx pv member most b doubly (k - 1) (at b (nx (linked l))) (if doubly then l else 0)
  meets_goes k l p u e = meets_turn k l p u ∙ rw e

  pub meets_fails : (k l p : ℕ) → 1 ≤ k → leads pv member most b l p ≡ false
      → meets nx pv member most b doubly k l p ≡ false
  meets_fails k l p u e = meets_turn k l p u ∙ rw e

-- the same walk by other names of the words and another test of the members
module _ (nx pv nx' pv' : ℕ → ℕ) (member member' : ℕ → Bool) (most : ℕ) (b : List ℕ) (doubly : Bool)
    (nexts : (y : ℕ) → nx' y ≡ nx y) (previouses : (y : ℕ) → pv' y ≡ pv y)
    (members : (y : ℕ) → y < most → member' y ≡ member y) where
  meets_same : (k l p : ℕ) → meets nx' pv' member' most b doubly k l p ≡ meets nx pv member most b doubly k l p
  unfolding meets
  meets_same zero l p = refl
  meets_same (suc k) l p = go (ℕ_discrete l 0) (dec_lt most l) (λ x. meets_same k x)
    where
      go : Dec (l ≡ 0) → Dec (most < l)
          → ((x q : ℕ) → meets nx' pv' member' most b doubly k x q ≡ meets nx pv member most b doubly k x q)
          → (leads pv' member' most b l p
          && meets nx' pv' member' most b doubly k (at b (nx' (linked l))) (if doubly then l else 0))
          ≡ (leads pv member most b l p
          && meets nx pv member most b doubly k (at b (nx (linked l))) (if doubly then l else 0))
      go (yes z) d f = rw (none_led pv' member' most b l p z, none_led pv member most b l p z)
      go (no z) (yes d) f = rw (far_led pv' member' most b l p d, far_led pv member most b l p d)
      go (no z) (no d) f =
          let u : linked l < most = omega arith in
          let v : l ≤ most = omega arith in
          rw (
            near_led pv' member' most b l p z v,
            near_led pv member most b l p z v,
            members (linked l) u,
            previouses (linked l),
            nexts (linked l),
            f (at b (nx (linked l))) (if doubly then l else 0),
          )

  pub holds_same : (head : ℕ) → holds nx' pv' member' most b doubly head ≡ holds nx pv member most b doubly head
  holds_same head = rw (many_same member member' most members) (meets_same (how_many member most) (at b head) 0)

-- ---- a chain
module _ (s n : ℕ) (memory : List ℕ) (live : ℕ → Bool) (v : ℕ) where
  pub chain_end : (k l : ℕ) → k ≡ 0 → chained s n memory live v k l ≡ eqb l 0
  unfolding chained
  chain_end k l e = rw e

  chain_turn : (k l : ℕ) → 1 ≤ k
      → chained s n memory live v k l
      ≡ is_dead s live v l && chained s n memory live v (k - 1) (link_at memory (offset_of n l))
  unfolding chained
  chain_turn k l u = let e : k ≡ suc (k - 1) = omega arith in ap (λ (j : ℕ). chained s n memory live v j l) e

  pub chain_goes : (k l : ℕ) → 1 ≤ k → is_dead s live v l ≡ true
      → chained s n memory live v k l ≡ chained s n memory live v (k - 1) (link_at memory (offset_of n l))
  chain_goes k l u e = chain_turn k l u ∙ rw e

  pub chain_fails : (k l : ℕ) → 1 ≤ k → is_dead s live v l ≡ false → chained s n memory live v k l ≡ false
  chain_fails k l u e = chain_turn k l u ∙ rw e

module _ (s : ℕ) (live : ℕ → Bool) (v l : ℕ) where
  pub no_start : is_start s l ≡ false → is_dead s live v l ≡ false
  unfolding is_dead
  no_start e = rw e

  pub a_start : is_start s l ≡ true → is_dead s live v l ≡ ltb (block_no s l) v && not (live (block_no s l))
  unfolding is_dead
  a_start e = rw e

  pub dead_starts : is_dead s live v l ≡ true → is_start s l ≡ true
  unfolding is_dead
  dead_starts e = (both (is_start s l) (ltb (block_no s l) v && not (live (block_no s l))) e).0
