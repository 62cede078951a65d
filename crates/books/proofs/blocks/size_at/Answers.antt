-- `books::blocks::size_at` is the size of the class of the offset's pool.
use Rattle.books.proofs.blocks.size_at.Goals as goal

pub returns : goal.returns
returns c = rw (← c.class_at.ensures.0) c.size_of.ensures
