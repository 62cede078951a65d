-- `records::answer_resize` resizes, and replies with what the resize answered and the heap that it left.
use mathlib.Core.Path.{refl, ap₂, sym, ◌≡◌, ◌∙◌}
use mathlib.Core.List.{List}
use Prim.Native.Nat.{ℕ}
use Rattle.rules.specs.Outcome.{heap_of, outcome}
use Rattle.rules.specs.Numbers.{resize}
use Rattle.rules.specs.Replay.{offset_in, size_in}
use Rattle.books.specs.declared.refusal.Refusal.TheVariants.{Damaged}
use Rattle.steps.specs.Moved.{moved_in}
use Rattle.records.specs.Calls.{resize_keeps}
use Rattle.records.specs.Reads.{Says}
use Rattle.records.specs.Replies.{Counted, answered_size, counted_after, not_zero, answered_done, answered_refused}
use Rattle.records.specs.Live.{ResizeCounts, resize_counts, in_code}
use Rattle.records.proofs.answer_resize.Goals.{After-resize}
use Rattle.records.proofs.answer_resize.Goals as goal

-- the live blocks can be counted after it
countable : (c : After-resize) → Counted c.resize.new.books c.resize.new.map
countable c =
    let a = c.args in
    let x = c.resize in
    counted_after a.memory.now a.books.now a.map.now x.new.memory x.new.books x.new.map c.requires.0
    (resize_keeps (heap_of a.memory.now a.books.now a.map.now) c.index.result c.index-2.result) x.ensures.what
    x.auto.memory x.auto.books x.auto.map

-- what it makes of the count
counts : (c : After-resize) → ResizeCounts c.args.live (moved_in c.resize.result) c.resize.new.books c.resize.new.map
counts c =
    let a = c.args in
    in_code ResizeCounts c.requires.1 c.resize.ensures.what
    (resize_counts (heap_of a.memory.now a.books.now a.map.now) c.index.result c.index-2.result c.requires.0)

-- it is the resize that the bytes say
said : (c : After-resize) {r : List ℕ} → Says r c.args.call
    → let x = c.resize in
    outcome (moved_in x.result) (heap_of x.new.memory x.new.books x.new.map)
    ≡ resize (heap_of c.args.memory.now c.args.books.now c.args.map.now) (offset_in r) (size_in r)
said c says =
    let a = c.args in
    c.resize.ensures.what
    ∙ ap₂ (resize (heap_of a.memory.now a.books.now a.map.now)) (c.index.ensures.0 ∙ sym says.offset)
    (c.index-2.ensures.0 ∙ sym says.size)

pub live_after_resize-requires : goal.live_after_resize-requires
live_after_resize-requires c =
    let p = (goal.at.live_after_resize-requires c).After-resize in
    (countable p, (rw c.in-Ok.is at (counts p)).done refl)

pub returns-in-Ok : goal.returns-in-Ok
returns-in-Ok c = λ r says.
    let p = (goal.at.returns-in-Ok c).After-resize in
    answered_done says c.live_after_resize.ensures answered_size c.in-Ok.offset c.size_at-size.result
    (rw c.in-Ok.is at (said p says)) c.size_at-size.ensures c.done.ensures

pub returns-in-Err-Refused : goal.returns-in-Err-Refused
returns-in-Err-Refused c = λ r says.
    let p = (goal.at.returns-in-Err-Refused c).After-resize in
    let refusal = c.in-Err-Refused.refusal in
    let same = (rw (c.in-Err-Refused.is, c.in-Err-Refused.field-0-is) at (counts p)).refused (not_zero refusal) (λ _. refl) in
    answered_refused says same answered_size refusal 0
    (rw (c.in-Err-Refused.is, c.in-Err-Refused.field-0-is) at (said p says)) c.refused.ensures

pub live_blocks-requires : goal.live_blocks-requires
live_blocks-requires c = countable (goal.at.live_blocks-requires c).After-resize

pub returns-in-Err-HalfDone : goal.returns-in-Err-HalfDone
returns-in-Err-HalfDone c = λ r says.
    let p = (goal.at.returns-in-Err-HalfDone c).After-resize in
    answered_refused says c.live_blocks.ensures answered_size Damaged c.in-Err-HalfDone.field-0-0
    (rw (c.in-Err-HalfDone.is, c.in-Err-HalfDone.field-0-is) at (said p says)) c.refused-in-Err-HalfDone.ensures
