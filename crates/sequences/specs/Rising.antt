-- What follows a member of a sequence, and sequences that rise by a number of each member: none of them has more than
-- one that follows it, which is to say more than the next.
-- Assumes nothing.
use Rattle.std.specs.Prelude.{◌≡◌, refl, ◌≢◌, List, [], ◌∷◌, ◌++◌, ℕ, suc, ◌-◌, ◌≤◌, eqb, if◌then◌else◌}
use Rattle.std.proofs.Math.Logic.{Ne-symm as flip}
use Rattle.std.proofs.Common.{arith, eq-eqb, ne_eqb}
use Rattle.rules.specs.Books.{linked}
use Rattle.sequences.specs.Sequences.{
  All,
  Pairs,
  Once,
  Seg,
  all_map,
  all_two,
  all_at,
  pairs_parts,
  pairs_append,
  pairs_drop,
  pairs_put,
}

-- ---- what stands behind a in the sequence
abbrev pub following : ℕ → List ℕ → List ℕ
following a [] = []
following a (x ∷ xs) = if eqb a x then xs else following a xs

-- ---- the sequence rises by f, which is to say that it never falls
abbrev pub Rising : (ℕ → ℕ) → List ℕ → Type 0
Rising f xs = Pairs (λ x y. f x ≤ f y) xs

-- ---- what follows a, in its place
pub following_is : (a : ℕ) (pre post : List ℕ) → Once (pre ++ a ∷ post) → following a (pre ++ a ∷ post) ≡ post
following_is a [] post o = rw (eq-eqb a a refl)
following_is a (x ∷ pre) post o =
    let n : x ≢ a = all_at (λ y. x ≢ y) a pre post o.0 in
    rw (ne_eqb a x (flip n)) (following_is a pre post o.1)

-- ---- rising sequences
-- by numbers that are the same for every member
pub rising_same : (f g : ℕ → ℕ) (xs : List ℕ) → All (λ y. g y ≡ f y) xs → Rising f xs → Rising g xs
rising_same f g [] e R = tt
rising_same f g (x ∷ xs) e R = (
  all_two {S = λ y. g x ≤ g y} (λ y (q : g y ≡ f y) (l : f x ≤ f y). omega (arith, e.0)) xs e.1 R.0,
  rising_same f g xs e.1 R.1,
)

-- the front one's number falls
pub rising_falls : (f g : ℕ → ℕ) (x : ℕ) (xs : List ℕ) → g x ≤ f x → All (λ y. g y ≡ f y) xs → Rising f (x ∷ xs)
    → Rising g (x ∷ xs)
rising_falls f g x xs l e R = (
  all_two {S = λ y. g x ≤ g y} (λ y (q : g y ≡ f y) (u : f x ≤ f y). omega arith) xs e R.0,
  rising_same f g xs e R.1,
)

-- two parts rise; so does the sequence without x, and with x, where those before it have no more and those behind it no
-- fewer
module _ (f : ℕ → ℕ) where
  pub rising_parts : (xs ys : List ℕ) → Rising f (xs ++ ys)
      → Rising f xs × All (λ x. All (λ y. f x ≤ f y) ys) xs × Rising f ys
  rising_parts = pairs_parts (λ x y. f x ≤ f y)

  pub rising_drop : (x : ℕ) (pre post : List ℕ) → Rising f (pre ++ x ∷ post) → Rising f (pre ++ post)
  rising_drop = pairs_drop (λ x y. f x ≤ f y)

  pub rising_put : (x : ℕ) (pre post : List ℕ) → All (λ y. f y ≤ f x) pre → All (λ y. f x ≤ f y) post
      → Rising f (pre ++ post) → Rising f (pre ++ x ∷ post)
  rising_put = pairs_put (λ x y. f x ≤ f y)

-- a goes in after q, which has no more than a has, while all that follow q have no fewer
pub rising_after : (f : ℕ → ℕ) (q a : ℕ) (pre post : List ℕ) → f q ≤ f a → All (λ y. f a ≤ f y) post
    → Rising f (pre ++ q ∷ post) → Rising f (pre ++ q ∷ a ∷ post)
rising_after f q a pre post l t R =
    let u = rising_parts f pre (q ∷ post) R in
    pairs_append (λ x y. f x ≤ f y) pre (q ∷ a ∷ post) u.0
    (all_map (λ y (c : All (λ z. f y ≤ f z) (q ∷ post)). (c.0, (omega (arith, c.0), c.1))) pre u.1)
    ((l, u.2.0), (t, u.2.1))

-- ---- a linked sequence rises exactly if each link in it does: the one that x's link leads to has no fewer than x
abbrev pub LinkRises : (ℕ → ℕ) → (ℕ → ℕ) → ℕ → Type 0
LinkRises next f x = next x ≢ 0 → f x ≤ f (linked (next x))

module _ (next prev f : ℕ → ℕ) where
  pub links_rising : (l p : ℕ) (xs : List ℕ) → Seg next prev l p xs → All (LinkRises next f) xs → Rising f xs
  links_rising l p [] s a = tt
  links_rising l p (x ∷ xs) s a =
      let R = links_rising (next x) (suc x) xs s.1.1 a.1 in
      (behind xs s.1.1 R, R)
    where
      behind : (ys : List ℕ) → Seg next prev (next x) (suc x) ys → Rising f ys → All (λ y. f x ≤ f y) ys
      behind [] t R = tt
      behind (y ∷ ys) t R =
          let q : next x - 1 ≡ y = omega (arith, t.0) in
          let u : f x ≤ f y = rw q at (a.0 (λ z. absurd (omega (arith, t.0)))) in
          (u, all_map {R = λ z. f x ≤ f z} (λ z (v : f y ≤ f z). omega arith) ys R.0)

  pub rising_links : (l p : ℕ) (xs : List ℕ) → Seg next prev l p xs → Rising f xs → All (LinkRises next f) xs
  rising_links l p [] s R = tt
  rising_links l p (x ∷ xs) s R = (first xs s.1.1 R.0, rising_links (next x) (suc x) xs s.1.1 R.1)
    where
      first : (ys : List ℕ) → Seg next prev (next x) (suc x) ys → All (λ y. f x ≤ f y) ys → LinkRises next f x
      first [] t u d = absurd (d t)
      first (y ∷ ys) t u d = let q : next x - 1 ≡ y = omega (arith, t.0) in rw q u.0
