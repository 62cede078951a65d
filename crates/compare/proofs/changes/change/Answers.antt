-- `compare::changes::change`: the signed difference of two small counts is the change from one to the other, and fits.
use Rattle.std.proofs.Common.{◌∙◌}
use mir.Facts.{to_z-of_z}
use Rattle.compare.specs.Changes.{change_is, difference_fits}
use Rattle.compare.proofs.changes.change.Goals as goal

pub returns : goal.returns
returns c =
    let a = c.args in
    to_z-of_z (difference_fits a.count a.count2 c.requires.0 c.requires.1) ∙ change_is a.count a.count2 c.requires.0 c.requires.1
