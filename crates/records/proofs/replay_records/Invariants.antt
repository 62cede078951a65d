-- `records::replay_records` tests the shape and the room, and then answers record by record:
-- at turn i the replies from record i on are left.
use mathlib.Core.Path.{◌≡◌}
use Prim.Native.Nat.{◌*◌, ◌≤◌}
use lib.ListN.{length, drop}
use Rattle.std.specs.Iterator.Adapters.{enumerate_source, enumerate_count}
use Rattle.std.specs.Slice.Iter.{chunks_rest, chunks_size}
use Rattle.rules.specs.Outcome.{heap_of}
use Rattle.records.specs.Replies.{Whole, live_in}
use Rattle.records.specs.Pieces.{Going, records_in}
use Rattle.records.proofs.replay_records.Given as goal

abbrev pub invariant-loop-i : goal.invariant-loop-i
invariant-loop-i l =
    let i = enumerate_count l.i-iterator in
    (goal.iterator-loop-i).can_next l.i-iterator
    × (goal.iterator-loop-i).is_finite l.i-iterator
    × (chunks_size (enumerate_source l.i-iterator) ≡ 16)
    × (chunks_rest (enumerate_source l.i-iterator) ≡ drop (16 * i) l.input)
    × (i ≤ l.records)
    × (l.records ≡ records_in (length l.input))
    × Going l.records (heap_of l.initial.memory l.initial.books l.initial.map) l.input l.initial.output (heap_of l.memory l.books l.map) l.output i
    × Whole l.memory l.books l.map
    × (length l.memory ≡ length l.initial.memory)
    × (length l.books ≡ length l.initial.books)
    × (length l.map ≡ length l.initial.map)
    × (l.live ≡ live_in l.books l.map)
