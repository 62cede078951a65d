-- `loops::fresh_books` leaves the books of a fresh heap: heads, arena records and pool records, one after the other,
-- take every word.
use mathlib.Core.Path.{ap, ◌∙◌}
use mathlib.Core.List.{List}
use Prim.Native.Nat.{ℕ, ◌+◌, ◌*◌}
use lib.Seq.{sets}
use Rattle.rules.specs.Format.{fresh_arenas, fresh_pools}
use Rattle.loops.specs.Fresh.{fresh_whole}
use Rattle.loops.proofs.fresh_books.Goals as goal

pub returns : goal.returns
returns c =
    let a = c.args in
    let arenas = c.fresh_arenas.ensures in
    c.fresh_pools.ensures
    ∙ ap (λ (x : List ℕ). sets x (72 + 8 * a.shape.arenas) (fresh_pools (a.shape.arenas * a.shape.pools)))
    (arenas ∙ ap (λ (x : List ℕ). sets x 72 (fresh_arenas 0 a.shape.arenas)) c.store.ensures)
    ∙ fresh_whole a.books.now a.shape.arenas a.shape.pools a.shape.edition c.requires.3
