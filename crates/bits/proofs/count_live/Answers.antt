-- `bits::count_live` counts the set bits among the n lowest: shifted to the top of the word,
-- they are all that is left of it.
use mathlib.Core.Path.{sym, ap, ◌∙◌}
use native.Mathlib.Nat.{mod-lt, lt_of_le_of_lt}
use native.Mathlib.Omega.{arith}
use lib.Count.{ones_in, ones-le}
use Rattle.bits.specs.Halves.{no_ones, code_count}
use Rattle.bits.proofs.count_live.Goals as goal

pub returns-then-word-eq0 : goal.returns-then-word-eq0
returns-then-word-eq0 c =
    let a = c.args in
    sym (ap (ones_in a.n) c.if-word-eq0.true ∙ no_ones a.n)

pub overflow_cast-result : goal.overflow_cast-result
overflow_cast-result c = record { fits = lt_of_le_of_lt (ones-le 64 _ (mod-lt _ (omega arith))) (omega arith) }

pub returns : goal.returns
returns c =
    let a = c.args in
    code_count 64 a.n a.word (omega arith)
