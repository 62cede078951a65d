-- `compare::blocks::has_bit` answers the bit: shifted down and masked, the word is that bit.
use Rattle.bits.specs.Bit.{code_test}
use Rattle.compare.proofs.blocks.has_bit.Goals as goal

pub returns : goal.returns
returns c = simp code_test
