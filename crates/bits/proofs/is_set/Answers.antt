-- `bits::is_set` answers the bit of the block: shifted down and masked, the word is that bit.
use Rattle.bits.specs.Bit.{code_test}
use Rattle.bits.proofs.is_set.Goals as goal

pub returns : goal.returns
returns c = simp code_test
