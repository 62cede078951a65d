-- 01, "Replay records": one record in, one reply out; and a whole replay, bytes in and bytes out.
-- Assumes nothing.
use Rattle.std.specs.Prelude.{
  Bool,
  ◌&&◌,
  List,
  [],
  ◌∷◌,
  ◌++◌,
  ℕ,
  zero,
  suc,
  ◌/◌,
  ◌%◌,
  leb,
  ltb,
  eqb,
  length,
  take,
  drop,
  if◌then◌else◌,
}
use Rattle.rules.specs.Books.{Heap, at}
use Rattle.rules.specs.Blocks.{link_at}
use Rattle.rules.specs.Outcome.{Outcome, passing}
use Rattle.rules.specs.Numbers.{format, ask, give_back, resize, block_size, roll_of}

-- ---- a record: "op (1 ask, 2 give back, 3 resize), three zero bytes, size, offset, four zero bytes",
-- low byte first: a number in four bytes is read as a link is
abbrev pub op_of : List ℕ → ℕ
op_of r = at r 0

abbrev pub size_in : List ℕ → ℕ
size_in r = link_at r 4

abbrev pub offset_in : List ℕ → ℕ
offset_in r = link_at r 8

-- the op is known and the spare bytes are 0
unfoldable pub well_made : List ℕ → Bool
well_made r =
    leb 1 (op_of r) && leb (op_of r) 3
    && eqb (at r 1) 0 && eqb (at r 2) 0 && eqb (at r 3) 0
    && eqb (at r 12) 0 && eqb (at r 13) 0 && eqb (at r 14) 0 && eqb (at r 15) 0

-- ---- a reply: "op, number, two zeros, offset, block size, live blocks at that point"
abbrev pub four_bytes : ℕ → List ℕ
four_bytes v = (v % 256) ∷ (v / 256 % 256) ∷ (v / 65536 % 256) ∷ (v / 16777216 % 256) ∷ []

abbrev pub reply_bytes : ℕ → ℕ → ℕ → ℕ → ℕ → List ℕ
reply_bytes op number offset size live =
    op ∷ number ∷ 0 ∷ 0 ∷ (four_bytes offset ++ (four_bytes size ++ four_bytes live))

-- a reply, and the heap after it
pub record Replied : Type 0 where
  pub reply : List ℕ
  pub heap : Heap

abbrev pub replied : ℕ → ℕ → ℕ → ℕ → Heap → Replied
replied op number offset size h =
    record { reply = reply_bytes op number offset size (length (roll_of h) / 2); heap = h }

-- "A refusal repeats the record's offset (0 for ask) and size 0": op is repeated as it came
abbrev pub refused_record : List ℕ → ℕ → Heap → Replied
refused_record r k h = replied (op_of r) k (if eqb (op_of r) 1 then 0 else offset_in r) 0 h

-- what a call left; size is the done call's block size
abbrev pub called : List ℕ → Outcome → ℕ → Replied
called r x size =
    passing x.answer.number (λ k. refused_record r k x.heap)
    (replied (op_of r) 0 x.answer.offset size x.heap)

-- an ask or a resize answers a block, whose size the reply gives;
-- a give-back's reply gives the size of the block given back
abbrev pub called_for : List ℕ → Outcome → Replied
called_for r x = called r x (block_size x.heap x.answer.offset)

unfoldable pub replay_call : Heap → List ℕ → Replied
replay_call h r =
    if eqb (op_of r) 1 then called_for r (ask h (size_in r))
    else if eqb (op_of r) 2 then called r (give_back h (offset_in r)) (block_size h (offset_in r))
    else called_for r (resize h (offset_in r) (size_in r))

-- 8: "A short last record gets op 0, number 8, offset 0, size 0." 9: "tested before any call"
unfoldable pub replay_record : Heap → List ℕ → Replied
replay_record h r =
    if ltb (length r) 16 then replied 0 8 0 0 h
    else if well_made r then replay_call h r
    else refused_record r 9 h

-- k whole records, and what is left
unfoldable pub replay_records : ℕ → Heap → List ℕ → List ℕ
replay_records zero h bytes = if eqb (length bytes) 0 then [] else (replay_record h bytes).reply
replay_records (suc k) h bytes =
    let r = replay_record h (take 16 bytes) in
    r.reply ++ replay_records k r.heap (drop 16 bytes)

-- "The program has A = 1, P = 16", over any three buffers of that shape; it stays at edition eight
unfoldable pub replay : Heap → List ℕ → List ℕ
replay h input = replay_records (length input / 16) (format h 1 16 0).heap input
