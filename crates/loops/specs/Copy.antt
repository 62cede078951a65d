-- A copy inside one list, between two runs that do not meet.
-- Assumes nothing.
use Rattle.std.specs.Prelude.{◌≡◌, List, ◌⊎◌, ℕ, ◌+◌, ◌≤◌, ◌<◌, length, get_or, drop}
use Rattle.std.proofs.Common.{sym, ◌∙◌, inl, inr, arith, length-drop, get_or-take, get_or-drop, length-take-le}
use Rattle.rules.specs.View.{part}
use Rattle.loops.specs.Left.{Left, untouched}

-- the n places from `from` on and the n from `to` on have none in common
abbrev pub Apart : ℕ → ℕ → ℕ → Type 0
Apart from to n = (from + n ≤ to) ⊎ (to + n ≤ from)

module _ (m : List ℕ) (from n : ℕ) (h : from + n ≤ length m) where
  -- a part that lies in the list has its length
  pub length_part : length (part from n m) ≡ n
  length_part = length-take-le n (drop from m) (omega (arith, length-drop from m))

  -- the element that turn i reads is the one that stood there before the copy
  pub still : (to i : ℕ) {x left : List ℕ} → Apart from to n → i < n → Left m to (part from n m) x (to + i) left
      → get_or x (from + i) 0 ≡ get_or (part from n m) i 0
  still to i a l k =
      untouched k (omega arith) (from + i) (outside a)
      ∙ sym (get_or-take n (drop from m) i 0 l ∙ get_or-drop from m i 0)
    where
      outside : Apart from to n → (from + i < to) ⊎ (to + length (part from n m) ≤ from + i)
      outside (inl b) = inl (omega arith)
      outside (inr b) = inr (omega (arith, length_part))
