-- `bits::set_bit` puts the bit of the block to 1: the mask has that bit alone, so an or puts it and keeps the rest.
use Prim.Native.Nat.{◌%◌, ◌<◌}
use Rattle.bits.specs.Bit.{code_set}
use native.Mathlib.Omega.{arith}
use Rattle.bits.proofs.set_bit.Goals as goal

pub returns : goal.returns
returns c =
    let l : c.args.k % 64 < 64 = omega arith in
    simp code_set
