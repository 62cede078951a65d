-- `books::blocks::class_at` reads the class of the pool, whose record is inside the books:
-- a word of 32 bits fits a `usize`.
use Prim.Native.Nat.{◌/◌}
use Rattle.rules.specs.Books.{class, pool_word}
use native.Mathlib.Omega.{arith}
use borrow.Author.Rules.{rules}
use Rattle.books.proofs.blocks.class_at.Goals as goal

pub overflow_cast-result : goal.overflow_cast-result
overflow_cast-result c =
    let a = c.args in
    omega (arith, c.type_inv.books (pool_word a.arenas class (a.offset / 4096)))

pub returns : goal.returns
returns c =
    let a = c.args in
    (search rules, omega (arith, c.type_inv.books (pool_word a.arenas class (a.offset / 4096))))
