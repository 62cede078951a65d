-- `records::answer_give_back` reads the block's size, gives the block back,
-- and replies with what that answered and the heap that it left.
use mathlib.Core.Path.{refl, ap, sym, ◌≡◌, ◌∙◌}
use Prim.Native.Nat.{ℕ, ◌+◌, ◌-◌, ◌%◌}
use native.Mathlib.Omega.{arith}
use Rattle.rules.specs.Outcome.{heap_of}
use Rattle.rules.specs.Numbers.{give_back, block_size}
use Rattle.rules.specs.Replay.{offset_in}
use Rattle.records.specs.Replies.{live_in, not_zero, answered_done, answered_refused}
use Rattle.records.specs.Live.{BackCounts, back_counts, in_code}
use Rattle.records.proofs.answer_give_back.Goals.{In-Ok}
use Rattle.records.proofs.answer_give_back.Goals as goal

-- one block fewer is live where it is done
one_fewer : (c : In-Ok) → c.args.live ≡ live_in c.give_back.new.books c.give_back.new.map + 1
one_fewer c =
    let a = c.args in
    let h = heap_of a.memory.now a.books.now a.map.now in
    (in_code BackCounts c.requires.1 c.in-Ok.ensures (back_counts h c.index.result c.requires.0)).done refl

pub overflow_sub-live : goal.overflow_sub-live
overflow_sub-live c = omega (arith, one_fewer (goal.at.overflow_sub-live c).In-Ok)

pub returns-in-Ok : goal.returns-in-Ok
returns-in-Ok c = λ r says.
    let a = c.args in
    let h = heap_of a.memory.now a.books.now a.map.now in
    let x = c.give_back in
    let fewer : a.live - 1 ≡ live_in x.new.books x.new.map = omega (arith, one_fewer (goal.at.returns-in-Ok c).In-Ok) in
    answered_done says fewer (λ _. block_size h (offset_in r)) c.in-Ok.offset c.size_at-size.result
    (c.in-Ok.ensures ∙ ap (give_back h) (c.index.ensures.0 ∙ sym says.offset))
    (c.size_at-size.ensures ∙ ap (λ (o : ℕ). block_size h o % 4294967296) (sym says.offset)) c.done.ensures

pub returns-in-Err : goal.returns-in-Err
returns-in-Err c = λ r says.
    let a = c.args in
    let h = heap_of a.memory.now a.books.now a.map.now in
    let counts = in_code BackCounts c.requires.1 c.in-Err.ensures (back_counts h c.index.result c.requires.0) in
    answered_refused says (counts.refused (not_zero c.in-Err.refusal)) (λ _. block_size h (offset_in r)) c.in-Err.refusal 0
    (c.in-Err.ensures ∙ ap (give_back h) (c.index.ensures.0 ∙ sym says.offset)) c.refused.ensures
