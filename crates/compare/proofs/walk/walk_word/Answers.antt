-- `compare::walk::walk_word` notes the blocks of the bits that are set in either word: at each turn those of the bits
-- that are still left are to be noted.
use Rattle.std.proofs.Common.{◌≡◌, ◌+◌, ◌*◌, ◌++◌, Bool, List, ℕ, ◌^◌, ap, ap₂, ◌∙◌, arith}
use lib.Bits.{bit_or, or_lt}
use lib.Count.{count_trailing_zeros, trailing_of_zero}
use Rattle.bits.specs.Halves.{first_there, without_first, without_less}
use Rattle.loops.specs.Word.{each_bit, first_live, none_live, up_to, not_past, past}
use Rattle.compare.specs.Kinds.{kind_number, entry_of, together}
use Rattle.compare.specs.Noted.{unnoted, note, finish, small}
use Rattle.compare.specs.Words.{said_of}
use Rattle.compare.proofs.walk.walk_word.Goals.{After-kind_together-kind, Else-last-offset, Start}
use Rattle.compare.proofs.walk.walk_word.Goals as goal

-- what is said of a bit, and how many bits there are
abbrev saying : Start → ℕ → List ℕ
saying c =
    let a = c.args in
    said_of a.heaps.now.first.memory.now a.heaps.now.second.memory.now a.word a.word2 a.start a.size

abbrev bits : Start → ℕ
bits c = let a = c.args in up_to a.start a.size a.last

pub loop-left-init : goal.loop-left-init
loop-left-init c =
    let at-start = (goal.at.loop-left-init c).Start in
    let a = c.args in (
      unnoted a.list.now a.at (each_bit (saying at-start) (bit_or a.word a.word2) 0 (bits at-start)),
      or_lt 64 a.word a.word2 (omega arith) (omega arith),
    )

pub returns-then-last-offset : goal.returns-then-last-offset
returns-then-last-offset c =
    let at-start = (goal.at.returns-then-last-offset c).Start in
    let a = c.args in
    let p = c.loop-left in
    finish p.invariant.0 (none_live (saying at-start) 64 (bits at-start) p.left
    (past a.start a.size a.last (count_trailing_zeros 64 p.left) (omega arith) (omega arith) (omega (arith, c.if-last-offset.true))))

-- the block of the first set bit comes first of what is left
comes : (c : Else-last-offset)
    → let w = c.loop-left.left in
    each_bit (saying (goal.at.Else-last-offset c).Start) w 0 (bits (goal.at.Else-last-offset c).Start)
    ≡ saying (goal.at.Else-last-offset c).Start (count_trailing_zeros 64 w)
    ++ each_bit (saying (goal.at.Else-last-offset c).Start) (without_first w) 0 (bits (goal.at.Else-last-offset c).Start)
comes c =
    let a = c.args in
    let w = c.loop-left.left in
    let there = first_there 64 w (omega arith) (omega arith) in
    first_live (saying (goal.at.Else-last-offset c).Start) 64 (bits (goal.at.Else-last-offset c).Start) w (omega arith)
    (not_past a.start a.size a.last (count_trailing_zeros 64 w) (omega arith) there c.if-last-offset.false)

-- the kind that the code has found is that of the block
kind_is : (c : After-kind_together-kind)
    → let a = c.args in
    let w = c.loop-left.left in
    let o = a.start + count_trailing_zeros 64 w * a.size in
    entry_of o (kind_number c.kind_together-kind.result)
    ≡ saying (goal.at.After-kind_together-kind c).Start (count_trailing_zeros 64 w)
kind_is c =
    let a = c.args in
    let h = a.heaps.now in
    let o = a.start + count_trailing_zeros 64 c.loop-left.left * a.size in
    ap (entry_of o) (c.kind_together-kind.ensures
    ∙ ap₂ (λ (t u : Bool). together h.first.memory.now h.second.memory.now t u o a.size) c.has_bit.ensures c.has_bit-in-loop-left.ensures)

pub note-place-requires : goal.note-place-requires
note-place-requires c =
    let at-start = (goal.at.note-place-requires c).Start in
    let p = c.loop-left in (
      omega (arith, c.if-last-offset.false),
      rw (kind_is (goal.at.note-place-requires c).After-kind_together-kind) (small p.invariant.0 (saying at-start (count_trailing_zeros 64 p.left))
          (each_bit (saying at-start) (without_first p.left) 0 (bits at-start)) (2 ^ 32)
          c.requires.7 (comes (goal.at.note-place-requires c).Else-last-offset)),
    )

pub loop-left-preserved : goal.loop-left-preserved
loop-left-preserved c =
    let p = c.loop-left in
    let noted = rw (kind_is (goal.at.loop-left-preserved c).After-kind_together-kind) at c.note-place.ensures.noted in (
      note p.invariant.0 (comes (goal.at.loop-left-preserved c).Else-last-offset) c.note-place.auto.list noted,
      omega (arith, without_less p.left (omega arith)),
    )

pub returns : goal.returns
returns c =
    let at-start = (goal.at.returns c).Start in
    let p = c.loop-left in
    let none : count_trailing_zeros 64 p.left ≡ 64 = ap (count_trailing_zeros 64) c.loop-left-test.false ∙ trailing_of_zero 64 in
    finish p.invariant.0 (none_live (saying at-start) 64 (bits at-start) p.left (omega arith))
