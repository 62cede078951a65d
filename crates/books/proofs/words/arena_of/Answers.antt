-- `books::words::arena_of` meets its contract: it is one of the arenas: the pool is one of A times P.
use mathlib.Core.Path.{refl}
use native.Mathlib.Nat.{div-lt_iff_lt-mul}
use native.Mathlib.Omega.{arith}
use Rattle.books.proofs.words.arena_of.Goals as goal

pub returns : goal.returns
returns c = (refl, (div-lt_iff_lt-mul {k = c.args.pools} {x = c.args.p} {y = c.args.arenas} (omega arith)).1 c.requires.1)
