-- `loops::roll_blocks` stores the words of the live blocks: at turn i those of the map words from word i on are left.
use mathlib.Core.Path.{◌≡◌, refl}
use Prim.Native.Nat.{◌+◌, ◌*◌, ◌≤◌, ◌<◌}
use native.Mathlib.Nat.{mul-le-mul}
use native.Mathlib.Omega.{arith}
use Rattle.std.specs.Prelude.{get_or}
use Rattle.std.specs.List.{slice_range}
use Rattle.std.proofs.lemmas.List.Edits.{get_or-between}
use Rattle.rules.specs.Books.{at, offset_of}
use Rattle.rules.specs.Blocks.{start_of, last_start, capacity}
use Rattle.books.specs.Starts.{capacity_le}
use Rattle.loops.specs.Left.{fewer, begin, turn, finish}
use Rattle.loops.specs.Word.{in_word, up_to, some_there, none_there, up_to_last, none_after, word_parts}
use Rattle.loops.proofs.roll_blocks.Goals.{Else-last-first, In-loop-i}
use Rattle.loops.proofs.roll_blocks.Goals as goal

pub loop-i-init : goal.loop-i-init
loop-i-init c =
    let a = c.args in
    (begin (word_parts a.map.now a.pool a.size (capacity a.size)) _ a.at _ refl, omega arith)

-- word i is one of eight, and its first block starts near the pool
near : (c : In-loop-i) → 64 * c.loop-i.i * c.args.size ≤ 512 * 512
near c = mul-le-mul {n₂ = 512} {m₂ = 512} (omega arith) (omega arith)

pub overflow_mul-first-in-loop-i-2 : goal.overflow_mul-first-in-loop-i-2
overflow_mul-first-in-loop-i-2 c = omega (arith, near (goal.at.overflow_mul-first-in-loop-i-2 c).In-loop-i)

pub overflow_add-first : goal.overflow_add-first
overflow_add-first c = omega (arith, near (goal.at.overflow_add-first c).In-loop-i)

pub overflow_add-first-in-loop-i : goal.overflow_add-first-in-loop-i
overflow_add-first-in-loop-i c = omega (arith, near (goal.at.overflow_add-first-in-loop-i c).In-loop-i)

pub shape_of-roll-then-last-first : goal.shape_of-roll-then-last-first
shape_of-roll-then-last-first c = c.loop-i.invariant.0.long

pub returns-then-last-first : goal.returns-then-last-first
returns-then-last-first c =
    let a = c.args in
    let p = c.loop-i in
    let past = none_there a.pool a.size p.i (omega arith) (omega arith) c.if-last-first.true in
    finish p.invariant.0 (none_after a.map.now a.pool a.size (capacity a.size) p.i past)

-- where the code goes on, word i has blocks, and they end with the pool's last one
some : (c : Else-last-first) → 64 * c.loop-i.i < capacity c.args.size
some c =
    let a = c.args in
    some_there a.pool a.size c.loop-i.i (omega arith) (omega arith) c.if-last-first.false

ends : (c : Else-last-first)
    → let a = c.args in
    let i = c.loop-i.i in
    up_to (offset_of a.pool (start_of a.size (64 * i))) a.size (offset_of a.pool (last_start a.size))
    ≡ in_word (capacity a.size) i
ends c =
    let a = c.args in
    up_to_last a.pool a.size c.loop-i.i (omega arith) (omega arith) (some c)

-- word i of the pool's eight, in the map
word : (c : Else-last-first)
    → let a = c.args in
    get_or (slice_range a.map.now (8 * a.pool) (8 * a.pool + 8)) c.loop-i.i 0 ≡ at a.map.now (8 * a.pool + c.loop-i.i)
word c = get_or-between c.args.map.now (8 * c.args.pool) (8 * c.args.pool + 8) c.loop-i.i 0 (omega arith)

pub roll_word-place-requires : goal.roll_word-place-requires
roll_word-place-requires c =
    let at-if1 = (goal.at.roll_word-place-requires c).Else-last-first in
    let a = c.args in
    let p = c.loop-i in
    let f = fewer (word_parts a.map.now a.pool a.size (capacity a.size)) p.i (omega (arith, some at-if1)) in
    rw (ends at-if1, word at-if1) (c.if-last-first.false, omega arith, omega arith, omega arith, omega (arith, p.invariant.0.place, p.invariant.0.long))

pub loop-i-preserved : goal.loop-i-preserved
loop-i-preserved c =
    let at-if1 = (goal.at.loop-i-preserved c).Else-last-first in
    let a = c.args in
    let p = c.loop-i in
    let stored = rw (ends at-if1, word at-if1) at c.roll_word-place.ensures in (
      turn (word_parts a.map.now a.pool a.size (capacity a.size)) p.i (omega (arith, some at-if1)) p.invariant.0 stored,
      omega arith,
    )

pub shape_of-roll : goal.shape_of-roll
shape_of-roll c = c.loop-i.invariant.0.long

pub returns : goal.returns
returns c =
    let a = c.args in
    let p = c.loop-i in
    finish p.invariant.0 (none_after a.map.now a.pool a.size (capacity a.size) p.i (omega (arith, capacity_le a.size (omega arith))))
