-- `compare::walk::walk_blocks` notes the blocks of the pool, word by word: at turn i those of the words from word i on
-- are to be noted.
use Rattle.std.proofs.Common.{◌≡◌, ◌+◌, ◌*◌, ◌-◌, ◌<◌, ◌^◌, ◌++◌, ℕ, if◌then◌else◌, arith}
use lib.Bits.{bit_or}
use Rattle.rules.specs.Books.{at, offset_of}
use Rattle.rules.specs.Blocks.{start_of, last_start, capacity}
use Rattle.books.specs.Starts.{capacity_le}
use Rattle.sequences.specs.Listing.{at_steps}
use Rattle.loops.specs.Word.{each_bit, up_to, in_word, some_there, none_there, up_to_last}
use Rattle.compare.specs.Kinds.{together_at}
use Rattle.compare.specs.Noted.{note, finish, small}
use Rattle.compare.specs.Pools.{inside}
use Rattle.compare.specs.Words.{said_of, word_part, word_steps, steps_end}
use Rattle.compare.proofs.walk.walk_blocks.Goals.{Joined-in_second, Else-last-start, Start, then-in_first, else-in_first, then-in_second, else-in_second}
use Rattle.compare.proofs.walk.walk_blocks.Goals as goal

-- the kind at each offset
abbrev kinds : Start → ℕ → ℕ
kinds c =
    let a = c.args in
    let h = a.heaps.now in
    together_at h.first.memory.now h.second.memory.now h.first.map.now h.second.map.now a.in_first a.in_second a.pool a.size

pub returns-then-last-start : goal.returns-then-last-start
returns-then-last-start c =
    let a = c.args in
    let past = none_there a.pool a.size c.loop-i.i (omega arith) (omega arith) c.if-last-start.true in
    finish c.loop-i.invariant.0 (steps_end _ _ a.size (capacity a.size - 64 * c.loop-i.i) (omega arith))

-- where the code goes on, word i has blocks, and they end with the pool's last one
some : (c : Else-last-start) → 64 * c.loop-i.i < capacity c.args.size
some c =
    let a = c.args in
    some_there a.pool a.size c.loop-i.i (omega arith) (omega arith) c.if-last-start.false

-- what is said of the word, as the code has the words, is its part of the pool's blocks
part_is : (c : Joined-in_second)
    → let a = c.args in
    let h = a.heaps.now in
    let i = c.loop-i.i in
    let o = offset_of a.pool (start_of a.size (64 * i)) in
    let w = c.if-in_first.word in
    let w' = c.if-in_second.word2 in
    at_steps (kinds (goal.at.Joined-in_second c).Start) (4096 * a.pool + 48 + 64 * i * a.size) a.size (in_word (capacity a.size) i)
    ≡ each_bit (said_of h.first.memory.now h.second.memory.now w w' o a.size) (bit_or w w') 0 (up_to o a.size (offset_of a.pool (last_start a.size)))
part_is c =
    let a = c.args in
    let h = a.heaps.now in
    let i = c.loop-i.i in
    let here = some (goal.at.Joined-in_second c).Else-last-start in
    let w : c.if-in_first.word ≡ (if a.in_first then at h.first.map.now (8 * a.pool + i) else 0) =
    elim c.if-in_first.branch [ then-in_first t ↦ rw t.if-in_first.true t.word-is | else-in_first t ↦ rw t.if-in_first.false t.word-is ] in
    let w' : c.if-in_second.word2 ≡ (if a.in_second then at h.second.map.now (8 * a.pool + i) else 0) =
    elim c.if-in_second.branch [ then-in_second t ↦ rw t.if-in_second.true t.word2-is | else-in_second t ↦ rw t.if-in_second.false t.word2-is ] in
    rw (w, w', up_to_last a.pool a.size i (omega arith) (omega arith) here)
    (word_part h.first.memory.now h.second.memory.now h.first.map.now h.second.map.now a.in_first a.in_second a.pool a.size i here (omega arith))

-- and comes first of what is left
comes : (c : Joined-in_second)
    → let a = c.args in
    let i = c.loop-i.i in
    let n = capacity a.size in
    let o = 4096 * a.pool + 48 in
    at_steps (kinds (goal.at.Joined-in_second c).Start) (o + 64 * i * a.size) a.size (n - 64 * i)
    ≡ at_steps (kinds (goal.at.Joined-in_second c).Start) (o + 64 * i * a.size) a.size (in_word n i)
    ++ at_steps (kinds (goal.at.Joined-in_second c).Start) (o + 64 * (i + 1) * a.size) a.size (n - 64 * (i + 1))
comes c =
    let a = c.args in
    (word_steps (kinds (goal.at.Joined-in_second c).Start) (4096 * a.pool + 48) a.size (capacity a.size)).more c.loop-i.i
    (omega (arith, some (goal.at.Joined-in_second c).Else-last-start))

pub walk_word-place-requires : goal.walk_word-place-requires
walk_word-place-requires c =
    let at_second = (goal.at.walk_word-place-requires c).Joined-in_second in
    let a = c.args in
    let i = c.loop-i.i in
    let steps = at_steps (kinds (goal.at.walk_word-place-requires c).Start) in
    let there = inside a.heaps.now a.pool c.requires.0 in
    let r = small c.loop-i.invariant.0 (steps (4096 * a.pool + 48 + 64 * i * a.size) a.size (in_word (capacity a.size) i))
    (steps (4096 * a.pool + 48 + 64 * (i + 1) * a.size) a.size (capacity a.size - 64 * (i + 1))) (2 ^ 32) c.requires.4 (comes at_second) in (
      c.if-last-start.false,
      omega (arith, there.2),
      omega arith,
      omega arith,
      omega arith,
      omega (arith, there.3),
      omega (arith, there.4),
      rw (part_is at_second) at r,
    )

pub loop-i-preserved : goal.loop-i-preserved
loop-i-preserved c =
    let at_second = (goal.at.loop-i-preserved c).Joined-in_second in
    let noted = rw (← part_is at_second) at c.walk_word-place.ensures in
    (note c.loop-i.invariant.0 (comes at_second) c.walk_word-place.auto.list noted, omega arith)

pub returns : goal.returns
returns c =
    let a = c.args in
    finish c.loop-i.invariant.0
    (steps_end _ _ a.size (capacity a.size - 64 * c.loop-i.i) (omega (arith, capacity_le a.size (omega arith))))
