-- `books::blocks::block_no` gives the number of a start: the laws of starts say that it lies at or above 48,
-- and that a pool has few blocks.
use mathlib.Core.Path.{refl}
use Rattle.books.specs.Starts.{start}
use native.Mathlib.Omega.{arith}
use Rattle.books.proofs.blocks.block_no.Goals as goal

pub overflow_sub-result : goal.overflow_sub-result
overflow_sub-result c = (start c.args.size c.args.o c.requires.0 c.requires.2).low

pub overflow_cast-result : goal.overflow_cast-result
overflow_cast-result c = omega (arith, (start c.args.size c.args.o c.requires.0 c.requires.2).ends)

pub overflow_cast-result-3 : goal.overflow_cast-result-3
overflow_cast-result-3 c = omega (arith, (start c.args.size c.args.o c.requires.0 c.requires.2).few)

pub returns : goal.returns
returns c = (refl, (start c.args.size c.args.o c.requires.0 c.requires.2).few)
