-- `books::pool::Pool::may_leave` tests both links of the record.
use Rattle.books.proofs.pool.Pool.may_leave.Goals as goal

pub returns : goal.returns
returns c = cc
