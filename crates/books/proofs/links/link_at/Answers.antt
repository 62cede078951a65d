-- `books::links::link_at` reads the four bytes of a link: the number that they make, low byte first.
use Rattle.std.proofs.Common.{arith}
use Rattle.rules.specs.Blocks.{link_at}
use Rattle.books.proofs.links.link_at.Goals as goal

pub returns : goal.returns
unfolding link_at
returns c = omega (arith, c.from_le_bytes.ensures)
