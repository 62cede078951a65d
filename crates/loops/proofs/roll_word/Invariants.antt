-- `loops::roll_word` stores the words of the live blocks: at each turn those of the bits that are still set are left.
use Prim.Native.Nat.{◌^◌, ◌<◌}
use Rattle.loops.specs.Left.{Left}
use Rattle.loops.specs.Word.{roll_word, up_to}
use Rattle.loops.proofs.roll_word.Given as goal

abbrev pub invariant-loop-left : goal.invariant-loop-left
invariant-loop-left l =
    let n = up_to l.first l.size l.last in
    Left l.initial.roll l.at (roll_word l.word l.first l.size n) l.roll l.place (roll_word l.left l.first l.size n) × (l.left < 2 ^ 64)

abbrev pub decreases-loop-left : goal.decreases-loop-left
decreases-loop-left l = l.left
