-- `books::words::is_carved` meets its contract: it compares the two words of the pool's arena, as the definition does.
use Rattle.rules.specs.Books.{carved}
use Rattle.books.proofs.words.is_carved.Goals as goal

pub returns : goal.returns
unfolding carved
returns c =
    rw (c.arena_word.ensures.0, c.arena_word-2.ensures.0, c.arena_of-a.ensures.0)
