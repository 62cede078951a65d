-- `books::links::put_link` writes the four bytes of a link, and their places are inside.
use Rattle.std.proofs.Common.{refl}
use Rattle.rules.specs.Blocks.{put_link}
use Rattle.books.proofs.links.put_link.Goals as goal

pub returns : goal.returns
unfolding put_link
returns c = rw c.to_le_bytes.ensures refl
