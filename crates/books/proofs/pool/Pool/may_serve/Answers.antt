-- `books::pool::Pool::may_serve` makes the three tests of the rules on the record's words.
use Rattle.books.proofs.pool.Pool.may_serve.Goals as goal

pub returns : goal.returns
returns c = cc
