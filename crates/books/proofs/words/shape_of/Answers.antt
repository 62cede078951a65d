-- `books::words::shape_of` reads the three words of the shape.
use Rattle.books.proofs.words.shape_of.Goals as goal

pub returns : goal.returns
returns c = rw (c.word.ensures.0, c.word-2.ensures.0, c.word-3.ensures.0)
