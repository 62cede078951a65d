-- `loops::roll_word` stores the words of the live blocks: at each turn those of the bits that are still set are left.
use mathlib.Core.Path.{◌≡◌, ap, ◌∙◌}
use mathlib.Core.List.{◌∷◌}
use Prim.Native.Nat.{◌+◌, ◌*◌, ◌≤◌}
use native.Mathlib.Nat.{mul-le-mul}
use native.Mathlib.Omega.{arith}
use lib.Count.{count_trailing_zeros, trailing_le, trailing_of_zero}
use lib.ListN.{length, length-set}
use Rattle.bits.specs.Halves.{first_there, without_first, without_less}
use Rattle.loops.specs.Left.{unstored, store, finish, two}
use Rattle.loops.specs.Word.{two_words, roll_word, first_live, none_live, up_to, not_past, past}
use Rattle.loops.proofs.roll_word.Goals.{Else-last-offset, In-loop-left}
use Rattle.loops.proofs.roll_word.Goals as goal

pub loop-left-init : goal.loop-left-init
loop-left-init c =
    let a = c.args in
    (unstored a.roll.now a.at (roll_word a.word a.first a.size (up_to a.first a.size a.last)), omega arith)

pub overflow_cast-offset : goal.overflow_cast-offset
overflow_cast-offset c = omega (arith, trailing_le 64 c.loop-left.left)

-- the block of the first set bit starts near the word's first block
scaled : (c : In-loop-left) → count_trailing_zeros 64 c.loop-left.left * c.args.size ≤ 64 * 512
scaled c = mul-le-mul {n₂ = 64} {m₂ = 512} (trailing_le 64 c.loop-left.left) (omega arith)

pub overflow_mul-offset : goal.overflow_mul-offset
overflow_mul-offset c = omega (arith, scaled c)

pub overflow_add-offset : goal.overflow_add-offset
overflow_add-offset c = omega (arith, scaled c)

pub shape_of-roll-then-last-offset : goal.shape_of-roll-then-last-offset
shape_of-roll-then-last-offset c = c.loop-left.invariant.0.long

pub returns-then-last-offset : goal.returns-then-last-offset
returns-then-last-offset c =
    let a = c.args in
    let p = c.loop-left in
    let k = count_trailing_zeros 64 p.left in
    finish p.invariant.0 (none_live (two_words a.first a.size) 64 (up_to a.first a.size a.last) p.left
    (past a.first a.size a.last k (omega arith) (omega arith) (omega (arith, c.if-last-offset.true))))

-- where the code goes on, the first set bit is that of a live block, which comes first of what is left
live : (c : Else-last-offset)
    → let a = c.args in
    let w = c.loop-left.left in
    let n = up_to a.first a.size a.last in
    roll_word w a.first a.size n
    ≡ (a.first + count_trailing_zeros 64 w * a.size) ∷ a.size ∷ roll_word (without_first w) a.first a.size n
live c =
    let a = c.args in
    let w = c.loop-left.left in
    let there = first_there 64 w (omega arith) (omega arith) in
    first_live (two_words a.first a.size) 64 (up_to a.first a.size a.last) w (omega arith)
    (not_past a.first a.size a.last (count_trailing_zeros 64 w) (omega arith) there c.if-last-offset.false)

-- and two roll words are left for it
room : (c : Else-last-offset) → c.loop-left.place + 2 ≤ length c.loop-left.roll
room c =
    omega (arith, ap length (live c), c.loop-left.invariant.0.place, c.loop-left.invariant.0.long)

pub offset_bounds-roll-place : goal.offset_bounds-roll-place
offset_bounds-roll-place c = omega (arith, room c)

pub bounds-roll-place : goal.bounds-roll-place
bounds-roll-place c = omega (arith, room c)

pub overflow_add-roll : goal.overflow_add-roll
overflow_add-roll c = omega (arith, room c)

pub offset_bounds-roll-place-in-loop-left : goal.offset_bounds-roll-place-in-loop-left
offset_bounds-roll-place-in-loop-left c = omega (arith, room c)

pub bounds-roll-place-in-loop-left : goal.bounds-roll-place-in-loop-left
bounds-roll-place-in-loop-left c = simp length-set (omega (arith, room c))

pub overflow_add-place : goal.overflow_add-place
overflow_add-place c = omega (arith, room c)

pub loop-left-smaller : goal.loop-left-smaller
loop-left-smaller c = without_less c.loop-left.left (omega arith)

pub loop-left-preserved : goal.loop-left-preserved
loop-left-preserved c =
    let p = c.loop-left in
    (store p.invariant.0 (live c) (two p.roll p.place _ _), omega (arith, without_less p.left (omega arith)))

pub shape_of-roll : goal.shape_of-roll
shape_of-roll c = c.loop-left.invariant.0.long

pub returns : goal.returns
returns c =
    let a = c.args in
    let p = c.loop-left in
    let none : count_trailing_zeros 64 p.left ≡ 64 = ap (count_trailing_zeros 64) c.loop-left-test.false ∙ trailing_of_zero 64 in
    finish p.invariant.0 (none_live (two_words a.first a.size) 64 (up_to a.first a.size a.last) p.left (omega arith))
