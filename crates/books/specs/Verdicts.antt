-- A verdict of the audit is known by its number: no two have one.
-- Assumes nothing.
use Rattle.std.specs.Prelude.{◌≡◌, refl, ℕ, eqb, if◌then◌else◌}
use Rattle.rules.specs.declared.Verdict.{Verdict}
use Rattle.rules.specs.declared.Verdict.TheVariants.{
  Yes,
  Shape,
  Zeros,
  Closed,
  Open,
  Bits,
  Lists,
  Counts,
  Blocks,
  Order,
}
use Rattle.rules.specs.Audit.{number_of}

abbrev pub verdict_of : ℕ → Verdict
verdict_of n =
    if eqb n 0 then Yes
    else if eqb n 1 then Shape
    else if eqb n 2 then Zeros
    else if eqb n 3 then Closed
    else if eqb n 4 then Open
    else if eqb n 5 then Bits
    else if eqb n 6 then Lists
    else if eqb n 7 then Counts
    else if eqb n 8 then Blocks
    else Order

pub of_number : (v : Verdict) → verdict_of (number_of v) ≡ v
unfolding number_of
of_number Yes = refl
of_number Shape = refl
of_number Zeros = refl
of_number Closed = refl
of_number Open = refl
of_number Bits = refl
of_number Lists = refl
of_number Counts = refl
of_number Blocks = refl
of_number Order = refl
