-- `loops::has_room` counts only where the roll could be longer than the room.
use mathlib.Core.Path.{sym, ◌∙◌}
use native.Mathlib.Omega.{arith}
use borrow.Author.Tests.{le-leb}
use Rattle.rules.specs.Books.{alignment_of}
use Rattle.books.specs.Sizes.{aligned}
use Rattle.loops.specs.Roll.{length_roll}
use Rattle.loops.proofs.has_room.Goals as goal

pub returns-then-n-room : goal.returns-then-n-room
returns-then-n-room c =
    let a = c.args in
    let s = a.shape in
    let most = length_roll (alignment_of s.edition) s.arenas a.books.now a.map.now (aligned s.edition).low 0 a.n in
    le-leb _ a.room c.if-n-room.true ∙ sym (le-leb _ a.room (omega (arith, most)))
