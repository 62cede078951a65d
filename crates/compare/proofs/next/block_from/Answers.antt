-- `compare::next::block_from` divides what lies between the first block's start and o, rounded up.
use Rattle.std.proofs.Common.{ℕ, ◌*◌, ◌≤◌, ◌<◌, suc-mul, mul-le-mul_right, arith}
use Rattle.std.proofs.Math.Decide.{dec_le}
use Rattle.std.specs.Int.{div_ceil}
use Rattle.std.proofs.lemmas.Grind.{div_ceil_times}
use Rattle.compare.proofs.next.block_from.Goals as goal

-- the quotient of n and s, rounded up, of a number of at most 4,048
module _ (n s : ℕ) (low : 8 ≤ s) (high : n ≤ 4048) where
  few : div_ceil n s ≤ 506
  few = go (dec_le (div_ceil n s) 506)
    where
      go : Dec (div_ceil n s ≤ 506) → div_ceil n s ≤ 506
      go (yes l) = l
      go (no d) =
          let m : 507 ≤ div_ceil n s = omega arith in
          absurd (omega (arith, mul-le-mul_right s m, (div_ceil_times n s (omega arith)).1))

  within : (k : ℕ) → k < div_ceil n s → k * s < n
  within k l = omega (arith, mul-le-mul_right s l, suc-mul k s, (div_ceil_times n s (omega arith)).1)

pub returns : goal.returns
returns c =
    let a = c.args in
    let n = c.saturating_sub.result in
    let is = c.saturating_sub.ensures in
    rw c.div_ceil.ensures (
      few n a.size (omega arith) (omega (arith, is)),
      omega (arith, is, (div_ceil_times n a.size (omega arith)).0),
      λ k l. omega (arith, is, within n a.size (omega arith) (omega (arith, is)) k l),
    )
