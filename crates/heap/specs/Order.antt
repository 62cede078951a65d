-- What is known once the tests for an offset are passed, and the later tests after the others.
-- Assumes nothing.
use Rattle.std.specs.Prelude.{◌≡◌, refl, List, ℕ, zero, suc, length}
use Rattle.rules.specs.Books.{at, alignment_of}
use Rattle.rules.specs.Outcome.{passing}
use Rattle.rules.specs.Numbers.{in_order}
use Rattle.books.specs.declared.numbers.Block.{Block}
use Rattle.books.specs.Known.{Shaped, BlockAt}

-- a heap of the right shape, and the block that is live at an offset in it
pub record Tested (m b k : List ℕ) (o : ℕ) (block : Block) : Type 0 where
  pub shaped : Shaped (at b 0) (at b 1) (length m) (length b) (length k)
  pub found : BlockAt (alignment_of (at b 68)) (at b 0) (at b 1) b k o block

-- ---- 7 comes after the tests before it
pub room_after : (shape offset room : ℕ)
    → in_order shape 0 offset room ≡ passing (in_order shape 0 offset 0) (λ n. n) room
room_after zero zero room = refl
room_after zero (suc o) room = refl
room_after (suc s) o room = refl

-- a call on an offset whose only other tests are those of the shape
pub shape_first : {X : Type 0} (shape offset : ℕ) (refusal : ℕ → X) (rest : X)
    → passing shape refusal (passing offset refusal rest) ≡ passing (in_order shape 0 offset 0) refusal rest
shape_first zero zero refusal rest = refl
shape_first zero (suc o) refusal rest = refl
shape_first (suc s) o refusal rest = refl
