-- A function with one value changed: how the plain heap writes. And tests: one that cannot hold, and one of numbers by
-- their places.
-- Assumes nothing.
use Rattle.std.specs.Prelude.{◌≡◌, refl, ◌≢◌, Bool, true, false, ℕ, eqb, if◌then◌else◌}
use Rattle.std.proofs.Common.{sym, ap, ap₂, ◌∙◌, eq-eqb, ne_eqb}
use Rattle.std.proofs.Math.Decide.{ℕ_discrete}

-- a test that cannot hold fails
pub is_false : (t : Bool) → t ≢ true → t ≡ false
is_false true d = absurd (d refl)
is_false false d = refl

-- numbers are told apart by their places
pub same_test : (place : ℕ → ℕ) → ((x y : ℕ) → place x ≡ place y → x ≡ y) → (x y : ℕ)
    → eqb (place x) (place y) ≡ eqb x y
same_test place one x y = go (ℕ_discrete x y)
  where
    go : Dec (x ≡ y) → eqb (place x) (place y) ≡ eqb x y
    go (yes q) = eq-eqb (place x) (place y) (ap place q) ∙ sym (eq-eqb x y q)
    go (no q) = ne_eqb (place x) (place y) (λ e. q (one x y e)) ∙ sym (ne_eqb x y q)

module _ {A : Type 0} where
  -- f with v at n
  abbrev pub to : ℕ → A → (ℕ → A) → ℕ → A
  to n v f y = if eqb y n then v else f y

  pub to_same : (n : ℕ) (v : A) (f : ℕ → A) (y : ℕ) → y ≡ n → to n v f y ≡ v
  to_same n v f y e = rw (eq-eqb y n e)

  pub to_other : (n : ℕ) (v : A) (f : ℕ → A) (y : ℕ) → y ≢ n → to n v f y ≡ f y
  to_other n v f y e = rw (ne_eqb y n e)

  -- functions that agree at y do so after the same change
  pub to_cong : (n : ℕ) {v w : A} (f g : ℕ → A) → v ≡ w → (y : ℕ) → f y ≡ g y → to n v f y ≡ to n w g y
  to_cong n f g d y e = ap₂ (λ (u z : A). if eqb y n then u else z) d e
