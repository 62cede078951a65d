-- `asks::ask_listed::hand_out` sets the bit of a block whose start passes the test, and answers its offset.
use Rattle.asks.specs.HandOut.{starts}
use Rattle.asks.proofs.ask_listed.hand_out.Goals as goal

pub block_no-requires : goal.block_no-requires
block_no-requires c =
    let a = c.args in
    (a.class.size_low, a.class.size_high, starts a.class.size a.f c.requires.0)
