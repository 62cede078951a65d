-- 01's whole replay case, and one of each kind of record, as one table under one statement.
-- Assumes nothing.
use Rattle.std.specs.Prelude.{◌≡◌, Bool, true, ◌&&◌, List, [], ◌∷◌, ◌++◌, ℕ, ◌/◌, ◌%◌, T, length}
use Rattle.rules.specs.Books.{Heap, memory_length, books_length, map_length}
use Rattle.rules.specs.Outcome.{heap_of}
use Rattle.rules.specs.Replay.{well_made, replay_call, replay_record, replay_records, replay}
use Rattle.rules.specs.Lines.{same, runs}
use Rattle.rules.specs.Whole.{tab, each_three}

-- bytes as 01 prints them, four to a group, the first byte first
abbrev bytes : List ℕ → List ℕ
bytes [] = []
bytes (v ∷ vs) = (v / 16777216) ∷ (v / 65536 % 256) ∷ (v / 256 % 256) ∷ (v % 256) ∷ bytes vs

-- a replay: its input and its output
pub record Replayed : Type 0 where
  pub input : List ℕ
  pub output : List ℕ

abbrev turns : List ℕ → List ℕ → Replayed
turns input output = record { input = input; output = output }

unfoldable pub every : List Replayed → Heap → Bool
unfolding runs well_made replay_call replay_record replay_records replay
every [] h = true
every (r ∷ rs) h = same (replay h r.input) r.output && every rs h

abbrev pub replays : List Replayed
replays =
    -- "One case whole"; W-206: "The fourth reply in 01's whole case becomes 020a"
    turns
    (bytes (0x01000000 ∷ 0x01000000 ∷ 0x00000000 ∷ 0x00000000
    ∷ 0x01000000 ∷ 0x09000000 ∷ 0x00000000 ∷ 0x00000000
    ∷ 0x02000000 ∷ 0x00000000 ∷ 0x30000000 ∷ 0x00000000
    ∷ 0x02000000 ∷ 0x00000000 ∷ 0x30000000 ∷ 0x00000000 ∷ []))
    (bytes (0x01000000 ∷ 0x30000000 ∷ 0x08000000 ∷ 0x01000000
    ∷ 0x01000000 ∷ 0x30100000 ∷ 0x10000000 ∷ 0x02000000
    ∷ 0x02000000 ∷ 0x30000000 ∷ 0x08000000 ∷ 0x01000000
    ∷ 0x020a0000 ∷ 0x30000000 ∷ 0x00000000 ∷ 0x01000000 ∷ []))
    -- "A short last record gets op 0, number 8, offset 0, size 0", and the live blocks at that point
    ∷ turns
    (bytes (0x01000000 ∷ 0x01000000 ∷ 0x00000000 ∷ 0x00000000
    ∷ 0x02000000 ∷ 0x00000000 ∷ 0x30000000 ∷ []))
    (bytes (0x01000000 ∷ 0x30000000 ∷ 0x08000000 ∷ 0x01000000
    ∷ 0x00080000 ∷ 0x00000000 ∷ 0x00000000 ∷ 0x01000000 ∷ []))
    -- 9: "unknown op", below 1 and above 3: the op and the offset as they came
    ∷ turns
    (bytes (0x01000000 ∷ 0x01000000 ∷ 0x00000000 ∷ 0x00000000
    ∷ 0x00000000 ∷ 0x01000000 ∷ 0x30000000 ∷ 0x00000000
    ∷ 0x04000000 ∷ 0x01000000 ∷ 0x30010203 ∷ 0x00000000 ∷ []))
    (bytes (0x01000000 ∷ 0x30000000 ∷ 0x08000000 ∷ 0x01000000
    ∷ 0x00090000 ∷ 0x30000000 ∷ 0x00000000 ∷ 0x01000000
    ∷ 0x04090000 ∷ 0x30010203 ∷ 0x00000000 ∷ 0x01000000 ∷ []))
    -- 9: "a non-zero spare byte", each of the seven, "tested before any call". R18: an ask's refusal has offset 0
    ∷ turns
    (bytes (0x01010000 ∷ 0x01000000 ∷ 0x30000000 ∷ 0x00000000
    ∷ 0x01000100 ∷ 0x00000000 ∷ 0x30000000 ∷ 0x00000000
    ∷ 0x02000001 ∷ 0x00000000 ∷ 0x30000000 ∷ 0x00000000
    ∷ 0x02000000 ∷ 0x00000000 ∷ 0x30000000 ∷ 0x01000000
    ∷ 0x02000000 ∷ 0x00000000 ∷ 0x30000000 ∷ 0x00010000
    ∷ 0x03000000 ∷ 0x01000000 ∷ 0x30000000 ∷ 0x00000100
    ∷ 0x03000000 ∷ 0x01000000 ∷ 0x30000000 ∷ 0x00000001 ∷ []))
    (bytes (0x01090000 ∷ 0x00000000 ∷ 0x00000000 ∷ 0x00000000
    ∷ 0x01090000 ∷ 0x00000000 ∷ 0x00000000 ∷ 0x00000000
    ∷ 0x02090000 ∷ 0x30000000 ∷ 0x00000000 ∷ 0x00000000
    ∷ 0x02090000 ∷ 0x30000000 ∷ 0x00000000 ∷ 0x00000000
    ∷ 0x02090000 ∷ 0x30000000 ∷ 0x00000000 ∷ 0x00000000
    ∷ 0x03090000 ∷ 0x30000000 ∷ 0x00000000 ∷ 0x00000000
    ∷ 0x03090000 ∷ 0x30000000 ∷ 0x00000000 ∷ 0x00000000 ∷ []))
    -- "A refusal repeats the record's offset (0 for ask) and size 0"
    ∷ turns
    (bytes (0x01000000 ∷ 0x00000000 ∷ 0x30000000 ∷ 0x00000000
    ∷ 0x01000000 ∷ 0x01020000 ∷ 0x30000000 ∷ 0x00000000
    ∷ 0x02000000 ∷ 0x01000000 ∷ 0x30000000 ∷ 0x00000000
    ∷ 0x03000000 ∷ 0x00000000 ∷ 0x30000000 ∷ 0x00000000
    ∷ 0x03000000 ∷ 0x01000000 ∷ 0x30000000 ∷ 0x00000000 ∷ []))
    (bytes (0x01030000 ∷ 0x00000000 ∷ 0x00000000 ∷ 0x00000000
    ∷ 0x01030000 ∷ 0x00000000 ∷ 0x00000000 ∷ 0x00000000
    ∷ 0x02050000 ∷ 0x30000000 ∷ 0x00000000 ∷ 0x00000000
    ∷ 0x03030000 ∷ 0x30000000 ∷ 0x00000000 ∷ 0x00000000
    ∷ 0x03050000 ∷ 0x30000000 ∷ 0x00000000 ∷ 0x00000000 ∷ []))
    -- a resize's reply has the block that the text is now in: moved within its class, kept, moved to another
    ∷ turns
    (bytes (0x01000000 ∷ 0x08000000 ∷ 0xffffffff ∷ 0x00000000
    ∷ 0x03000000 ∷ 0x06000000 ∷ 0x30000000 ∷ 0x00000000
    ∷ 0x03000000 ∷ 0x07000000 ∷ 0x38000000 ∷ 0x00000000
    ∷ 0x03000000 ∷ 0x09000000 ∷ 0x38000000 ∷ 0x00000000
    ∷ 0x02000000 ∷ 0xffffffff ∷ 0x30100000 ∷ 0x00000000 ∷ []))
    (bytes (0x01000000 ∷ 0x30000000 ∷ 0x08000000 ∷ 0x01000000
    ∷ 0x03000000 ∷ 0x38000000 ∷ 0x08000000 ∷ 0x01000000
    ∷ 0x03000000 ∷ 0x38000000 ∷ 0x08000000 ∷ 0x01000000
    ∷ 0x03000000 ∷ 0x30100000 ∷ 0x10000000 ∷ 0x01000000
    ∷ 0x02000000 ∷ 0x30100000 ∷ 0x10000000 ∷ 0x00000000 ∷ []))
    -- 8 of one byte and of fifteen; "Empty input writes nothing."
    ∷ turns (1 ∷ []) (bytes (0x00080000 ∷ 0x00000000 ∷ 0x00000000 ∷ 0x00000000 ∷ []))
    ∷ turns
    (bytes (0x02000000 ∷ 0x00000000 ∷ 0x30000000 ∷ []) ++ (0 ∷ 0 ∷ 0 ∷ []))
    (bytes (0x00080000 ∷ 0x00000000 ∷ 0x00000000 ∷ 0x00000000 ∷ []))
    ∷ turns [] []
    ∷ []

-- the table holds of the program over these three buffers
abbrev pub Holds : List ℕ → List ℕ → List ℕ → Type 0
Holds m b k = T (every replays (heap_of m b k))

-- every replay of the table, whatever memory, books and map of the right lengths held before the program's format
pub replays_hold : (m b k : List ℕ)
    → length m ≡ memory_length 1 16 → length b ≡ books_length 1 16 → length k ≡ map_length 1 16
    → Holds m b k
unfolding every
replays_hold =
    each_three Holds (memory_length 1 16) (books_length 1 16) (map_length 1 16) (λ f g k. tt)
