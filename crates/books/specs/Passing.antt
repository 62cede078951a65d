-- 01's order of tests: a number that is not 0 decides, and 0 lets the rest go on.
-- Assumes nothing.
use Rattle.std.specs.Prelude.{◌≡◌, refl, ℕ, zero, suc, ◌≤◌, ◌<◌}
use Rattle.std.proofs.Common.{sym, ap, ◌∙◌, arith, lt-ltb, le-ltb}
use Rattle.rules.specs.Outcome.{passing}
use Rattle.rules.specs.Numbers.{room_number, ◌before◌, in_order}
use Rattle.books.specs.declared.refusal.Refusal.{Refusal}
use Rattle.books.specs.Refusals.{number_of, number_low}

module _ {X : Type 0} (f : ℕ → X) (rest : X) where
  pub stopped : (k : ℕ) → (k ≡ 0 → ⊥) → passing k f rest ≡ f k
  stopped zero h = absurd (h refl)
  stopped (suc k) h = refl

  pub passed : (k : ℕ) → k ≡ 0 → passing k f rest ≡ rest
  passed zero e = refl
  passed (suc k) e = absurd (omega arith)

  -- by a refusal's number, and by the 0 of a test that is passed
  pub refuses : (r : Refusal) (k : ℕ) → number_of r ≡ k → f (number_of r) ≡ passing k f rest
  refuses r k e = ap f e ∙ sym (stopped k (λ z. absurd (omega (arith, number_low r, e, z))))

  pub lets_pass : (x : X) (k : ℕ) → 0 ≡ k → x ≡ rest → x ≡ passing k f rest
  lets_pass x k e q = q ∙ sym (passed k (sym e))

-- where two tests let the rest go on, each does
pub before_zero : (j k : ℕ) → (j before k) ≡ 0 → (j ≡ 0) × (k ≡ 0)
before_zero zero k e = (refl, e)
before_zero (suc j) k e = absurd (omega arith)

-- and where a call's tests do
pub order_zero : (shape size offset room : ℕ) → in_order shape size offset room ≡ 0
    → (shape ≡ 0) × (size ≡ 0) × (offset ≡ 0) × (room ≡ 0)
order_zero shape size offset room e =
    let t = before_zero shape _ e in
    let u = before_zero size _ t.1 in
    let v = before_zero offset room u.1 in
    (t.0, u.0, v.0, v.1)

-- there is too little room, or enough
pub too_little : (wanted room : ℕ) → room < wanted → room_number wanted room ≡ 7
unfolding room_number
too_little wanted room h = rw (lt-ltb room wanted h)

pub enough : (wanted room : ℕ) → wanted ≤ room → room_number wanted room ≡ 0
unfolding room_number
enough wanted room h = rw (le-ltb room wanted h)

-- the first test that refuses decides; the tests before it are passed
module _ (r : Refusal) (shape size offset room : ℕ) where
  pub shape_refuses : number_of r ≡ shape → number_of r ≡ in_order shape size offset room
  shape_refuses e = refuses (λ n. n) (in_order 0 size offset room) r shape e

  pub size_refuses : 0 ≡ shape → number_of r ≡ size → number_of r ≡ in_order shape size offset room
  size_refuses a e = rw (← a) (refuses (λ n. n) (in_order 0 0 offset room) r size e)

  pub offset_refuses : 0 ≡ shape → 0 ≡ size → number_of r ≡ offset → number_of r ≡ in_order shape size offset room
  offset_refuses a b e = rw (← a, ← b) (refuses (λ n. n) room r offset e)

  pub room_refuses : 0 ≡ shape → 0 ≡ size → 0 ≡ offset → number_of r ≡ room
      → number_of r ≡ in_order shape size offset room
  room_refuses a b d e = rw (← a, ← b, ← d) e

pub all_pass : {shape size offset room : ℕ} → 0 ≡ shape → 0 ≡ size → 0 ≡ offset → 0 ≡ room
    → 0 ≡ in_order shape size offset room
all_pass a b c d = rw (← a, ← b, ← c) d
