-- `bits::clear_bit` puts the bit of the block to 0: the mask has every bit of the word but that one,
-- so an and keeps the rest.
use Prim.Native.Nat.{◌%◌, ◌^◌, ◌<◌}
use Rattle.std.proofs.Common.{rules}
use Rattle.rules.specs.Books.{at, map_word}
use Rattle.bits.specs.Bit.{code_clear}
use native.Mathlib.Omega.{arith}
use Rattle.bits.proofs.clear_bit.Goals as goal

pub returns : goal.returns
returns c =
    let a = c.args in
    let l : a.k % 64 < 64 = omega arith in
    let f : at a.map.now (map_word a.pool a.k) < 2 ^ 64 = search rules in
    simp code_clear
