-- `books::pool::store_pool` writes the eight words of a record: each is inside the books, whose length a store keeps.
use Rattle.books.specs.Records.{put_pool}
use mathlib.Core.Path.{refl}
use native.Mathlib.Omega.{arith}
use lib.ListN.{length-set}
use Rattle.books.proofs.pool.store_pool.Goals as goal

pub bounds-books-at-2 : goal.bounds-books-at-2
bounds-books-at-2 c = simp length-set (omega arith)

pub bounds-books-at-3 : goal.bounds-books-at-3
bounds-books-at-3 c = simp length-set (omega arith)

pub bounds-books-at-4 : goal.bounds-books-at-4
bounds-books-at-4 c = simp length-set (omega arith)

pub bounds-books-at-5 : goal.bounds-books-at-5
bounds-books-at-5 c = simp length-set (omega arith)

pub bounds-books-at-6 : goal.bounds-books-at-6
bounds-books-at-6 c = simp length-set (omega arith)

pub bounds-books-at-7 : goal.bounds-books-at-7
bounds-books-at-7 c = simp length-set (omega arith)

pub bounds-books-at-8 : goal.bounds-books-at-8
bounds-books-at-8 c = simp length-set (omega arith)

pub returns : goal.returns
unfolding put_pool
returns c = refl
