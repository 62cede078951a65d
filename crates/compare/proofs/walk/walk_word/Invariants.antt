-- `compare::walk::walk_word` notes the blocks of the bits that are set in either word: at each turn those of the bits
-- that are still left are to be noted.
use Prim.Native.Nat.{◌^◌, ◌<◌}
use lib.Bits.{bit_or}
use Rattle.loops.specs.Word.{each_bit, up_to}
use Rattle.compare.specs.Noted.{Noting}
use Rattle.compare.specs.Words.{said_of}
use Rattle.compare.proofs.walk.walk_word.Given as goal

abbrev pub invariant-loop-left : goal.invariant-loop-left
invariant-loop-left l =
    let n = up_to l.start l.size l.last in
    let said = said_of l.heaps.first.memory.now l.heaps.second.memory.now l.word l.word2 l.start l.size in
    Noting l.initial.list l.at (each_bit said (bit_or l.word l.word2) 0 n) l.list l.place (each_bit said l.left 0 n) × (l.left < 2 ^ 64)

abbrev pub decreases-loop-left : goal.decreases-loop-left
decreases-loop-left l = l.left
