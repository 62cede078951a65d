-- How the rules are said, beside the library's choice by a test: a chain of writes, a write that is made only where a
-- test holds; of tests of numbers, whether each number passes, and how many do; and of numbers that are known at each
-- number, their sum, and the list of those that are not 0.
-- Assumes nothing.
use Rattle.std.specs.Prelude.{Bool, true, false, ◌&&◌, List, [], ◌∷◌, ◌++◌, ℕ, zero, suc, ◌+◌, eqb, if◌then◌else◌}

module _ {ℓ} {A : Type ℓ} where
  infixl 15 ◌▷◌
  -- `h ▷ f ▷ g`: first f, then g
  abbrev pub ◌▷◌ : A → (A → A) → A
  x ▷ f = f x

  -- f where the test holds, otherwise no change
  abbrev pub only : Bool → (A → A) → A → A
  only true f x = f x
  only false f x = x

-- ---- tests
-- u, where t holds
infixr 11 ◌implies◌
abbrev pub ◌implies◌ : Bool → Bool → Bool
t implies u = if t then u else true

-- whether each number below n passes the test; how many do
unfoldable pub all_below : (ℕ → Bool) → ℕ → Bool
all_below test zero = true
all_below test (suc n) = test n && all_below test n

unfoldable pub how_many : (ℕ → Bool) → ℕ → ℕ
how_many test zero = 0
how_many test (suc n) = (if test n then 1 else 0) + how_many test n

-- ---- what is known at each number
-- the sum of what is known at the numbers below n
unfoldable pub total : (ℕ → ℕ) → ℕ → ℕ
total f zero = 0
total f (suc n) = f n + total f n

-- of the n numbers from o on, by rising number, each at which something is known, and that; 0 stands for nothing
unfoldable pub listing : (ℕ → ℕ) → ℕ → ℕ → List ℕ
listing g o zero = []
listing g o (suc n) = (if eqb (g o) 0 then [] else (o ∷ g o ∷ [])) ++ listing g (suc o) n
