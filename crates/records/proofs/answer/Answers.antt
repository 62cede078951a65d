-- `records::answer` makes the call that the bytes say; where they are no record, the refusal is that of the rules.
use mathlib.Core.Path.{ap, ◌∙◌}
use borrow.Author.Tests.{lt-ltb, le-ltb}
use Prim.Native.Nat.{ℕ}
use Rattle.rules.specs.Blocks.{link_at}
use Rattle.rules.specs.Replay.{op_of, replay_record}
use Rattle.records.specs.declared.Reply.{Reply}
use Rattle.records.specs.Replies.{reply_of, refusal_of, replied_with, chosen, passed_over}
use Rattle.records.proofs.answer.Goals as goal

pub returns-in-Ok : goal.returns-in-Ok
unfolding replay_record
returns-in-Ok c =
    let a = c.args in
    let read = c.in-Ok.ensures in
    let t = c.answer_call.ensures a.bytes.now read.2 in
    (t.0 ∙ chosen _ _ _ read.1 ∙ passed_over _ _ _ (le-ltb _ _ read.0), t.1)

pub returns-in-Err-Short : goal.returns-in-Err-Short
unfolding replay_record
returns-in-Err-Short c =
    let a = c.args in (
      ap (λ (y : Reply). replied_with y a.memory.now a.books.now a.map.now)
          (c.refused.ensures ∙ ap (reply_of 0 8 0 0) c.requires.1)
          ∙ chosen _ _ _ (lt-ltb _ _ (rw c.in-Err-Short.field-0-is at c.in-Err-Short.ensures)),
      ap (λ (y : Reply). y.live) c.refused.ensures ∙ c.requires.1,
    )

pub returns-in-Err-Unknown : goal.returns-in-Err-Unknown
unfolding replay_record
returns-in-Err-Unknown c =
    let a = c.args in
    let read = rw c.in-Err-Unknown.field-0-is at c.in-Err-Unknown.ensures in
    let t = c.refused-in-Err-Unknown.ensures ∙ ap (λ (o : ℕ). refusal_of (op_of a.bytes.now) o 9 a.live) c.link_at.ensures in (
      ap (λ (y : Reply). replied_with y a.memory.now a.books.now a.map.now)
          (t ∙ ap (refusal_of (op_of a.bytes.now) (link_at a.bytes.now 8) 9) c.requires.1)
          ∙ passed_over _ _ _ read.1
          ∙ passed_over _ _ _ (le-ltb _ _ read.0),
      ap (λ (y : Reply). y.live) t ∙ c.requires.1,
    )
