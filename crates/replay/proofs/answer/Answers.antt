-- `replay::answer` answers the whole input: the shape is right and there is room, so nothing is refused,
-- and the shape stays.
use Prim.Native.Nat.{◌/◌}
use lib.ListN.{length}
use Rattle.rules.specs.Outcome.{heap_of}
use Rattle.records.specs.Replies.{still_whole}
use Rattle.records.specs.Pieces.{after_kept}
use Rattle.replay.specs.Turns.{never_refused, answered}
use Rattle.replay.proofs.answer.Goals as goal

pub unwrap-requires : goal.unwrap-requires
unwrap-requires c =
    let a = c.args in
    let x = c.replay_records in
    never_refused a.memory.now a.books.now a.map.now a.input.now a.output.now x.result x.new.output
    (heap_of x.new.memory x.new.books x.new.map) c.requires.0 c.requires.1 x.ensures

pub returns : goal.returns
returns c =
    let a = c.args in
    let x = c.replay_records in
    let m = a.memory.now in
    let b = a.books.now in
    let k = a.map.now in
    let t = answered m b k a.input.now a.output.now x.result x.new.output (heap_of x.new.memory x.new.books x.new.map)
    c.requires.0 c.requires.1 x.ensures c.unwrap.result c.unwrap.ensures in (
      t,
      still_whole m b k x.new.memory x.new.books x.new.map _ c.requires.0
          (after_kept (length a.input.now / 16) (heap_of m b k) a.input.now) t.heap x.auto.memory x.auto.books x.auto.map,
    )
