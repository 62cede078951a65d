-- What the answer to a test says.
-- Assumes nothing.
use Rattle.std.specs.Prelude.{◌≡◌, refl, Bool, true, false, not, ◌&&◌, ◌||◌, if◌then◌else◌}
use Rattle.std.proofs.Common.{sym, ◌∙◌, true≢false}
use Rattle.std.proofs.lemmas.Bool.{not-true, not-false}

-- of a test of two parts that holds, each holds
pub both : (t u : Bool) → t && u ≡ true → (t ≡ true) × (u ≡ true)
both true u e = (refl, e)
both false u e = (e, cc)

-- and of a test that either of two parts would pass, and that fails, each fails
pub neither : (t u : Bool) → t || u ≡ false → (t ≡ false) × (u ≡ false)
neither false u e = (refl, e)
neither true u e = absurd (true≢false e)

-- `if !answer { return 6; }`: the test that was answered holds after it, and fails within
pub held : {answer t : Bool} → answer ≡ t → not answer ≡ false → t ≡ true
held {answer} {t} e n = sym e ∙ not-false answer n

pub failed : {answer t : Bool} → answer ≡ t → not answer ≡ true → t ≡ false
failed {answer} {t} e n = sym e ∙ not-true answer n

-- ---- what holds after a choice, and after a rule that keeps the path from the answer `damaged`
module _ {X : Type 0} (F : X → Type 0) where
  pub either : (t : Bool) (x y : X) → (t ≡ true → F x) → (t ≡ false → F y) → F (if t then x else y)
  either true x y f g = f refl
  either false x y f g = g refl

  pub after : (rule : Bool) (rest damaged : X) → F damaged → (rule ≡ true → F rest) → F (if rule then rest else damaged)
  after rule rest damaged d f = either rule rest damaged f (λ _. d)
