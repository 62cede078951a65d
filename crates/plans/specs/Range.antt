-- What the functions of a step are told of how many arenas and pools there are.
-- Assumes nothing.
use Rattle.std.specs.Prelude.{ℕ, ◌*◌, ◌≤◌}
use Rattle.books.specs.Known.{Shaped}

-- A and P are in range
pub record Range (A P : ℕ) : Type 0 where
  pub arenas_low : 1 ≤ A
  pub arenas_high : A ≤ 16
  pub pools_low : 2 ≤ P
  pub pools_high : P ≤ 64
  pub all : A * P ≤ 1024

pub ranged : {A P m b k : ℕ} → Shaped A P m b k → Range A P
ranged t = record { arenas_low = t.arenas_low; arenas_high = t.arenas_high; pools_low = t.pools_low; pools_high = t.pools_high; all = t.all }
