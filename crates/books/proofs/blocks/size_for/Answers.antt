-- `books::blocks::size_for` rounds the size up to the alignment of the edition.
use Prim.Native.Nat.{◌≤◌}
use native.Mathlib.Omega.{arith}
use Rattle.rules.specs.Books.{alignment_of}
use Rattle.rules.specs.Blocks.{class_of, size_of}
use Rattle.books.specs.Sizes.{aligned, rounded, has_class, size_low, size_high}
use Rattle.books.proofs.blocks.size_for.Goals.{Start}
use Rattle.books.proofs.blocks.size_for.Goals as goal

-- the block size, and so what is rounded, is at most the largest
few : (c : Start) → let al = alignment_of c.args.edition in size_of al (class_of al c.args.n) ≤ 512
few c = let L = aligned c.args.edition in size_high L _ (has_class L c.args.n c.requires.2)

pub overflow_add-result : goal.overflow_add-result
overflow_add-result c = omega (arith, rounded c.args.edition c.requires.0 c.args.n, few c)

pub overflow_mul-result : goal.overflow_mul-result
overflow_mul-result c = omega (arith, rounded c.args.edition c.requires.0 c.args.n, few c)

pub returns : goal.returns
returns c =
    let a = c.args in
    let L = aligned a.edition in
    let e = rounded a.edition c.requires.0 a.n in
    (e, rw e (size_low L _ (has_class L a.n c.requires.2)), rw e (few c))
