-- `books::blocks::class_of` shifts a size in eights by the edition.
use native.Mathlib.Omega.{arith}
use Rattle.books.specs.Sizes.{aligned, shifted, has_class, class_low}
use Rattle.books.proofs.blocks.class_of.Goals as goal

pub returns : goal.returns
returns c =
    let a = c.args in
    let L = aligned a.edition in
    let e = shifted a.edition c.requires.0 a.n in
    let last = has_class L a.n c.requires.2 in
    (e, rw e last, rw e (omega (arith, class_low L _ last)))
