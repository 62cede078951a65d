-- A piece of a replay: what it answers, and its replies one by one; and a replay that comes in pieces is the replay.
-- Assumes nothing.
use Rattle.std.specs.Prelude.{◌≡◌, refl, Bool, eqb, ltb, take, if◌then◌else◌, Result}
use Rattle.std.proofs.Math.Path.{sym, ap, ap₂}
use Rattle.std.proofs.Common.{◌∙◌, length-append, length-drop, take_all, drop-drop, lt-ltb, ne_eqb, inl, inr}
use mathlib.Core.List.{List, [], ◌∷◌, ◌++◌, append-nil, append_assoc}
use Prim.Native.Nat.{ℕ, zero, suc, ◌+◌, ◌*◌, ◌-◌, ◌/◌, ◌%◌, ◌≤◌, ◌<◌, min}
use native.Mathlib.Omega.{arith}
use Rattle.std.proofs.Math.ListN.{length, drop}
use Rattle.std.proofs.Math.Seq.{sets, length-sets, take-append_seam, drop-append_seam}
use Rattle.std.proofs.lemmas.Bool.{cases_lt}
use Rattle.std.proofs.lemmas.List.{take-append-le, drop-append-le, drop_all, nil_from_length}
use Rattle.rules.specs.Books.{Heap}
use Rattle.rules.specs.Outcome.{Outcome, passing}
use Rattle.rules.specs.Numbers.{in_order, shape_number, room_number, format, ask, give_back, resize, block_size}
use Rattle.rules.specs.Replay.{
  op_of,
  size_in,
  offset_in,
  well_made,
  Replied,
  replied,
  refused_record,
  called,
  called_for,
  replay_call,
  replay_record,
  replay_records,
  replay,
}
use Rattle.books.specs.Tests.{either}
use Rattle.loops.specs.Sets.{sets_append, sets_front}
use Rattle.books.specs.Passing.{stopped, passed, too_little, enough}
use Rattle.books.specs.declared.refusal.Refusal.{Refusal}
use Rattle.books.specs.Refusals.{number_in, value_in}
use Rattle.records.specs.Calls.{Kept, none_written, kept_on, ask_keeps, back_keeps, resize_keeps}
use Rattle.records.specs.Replies.{passed_over}

-- ---- what a piece answers: a number, and how many bytes of the output it has written
pub record Replayed : Type 0 where
  pub number : ℕ
  pub written : ℕ

abbrev pub replayed_in : Result ℕ Refusal → Replayed
replayed_in result = record { number = number_in result; written = value_in result }

-- the heap after k whole records
unfoldable pub heap_after : ℕ → Heap → List ℕ → Heap
heap_after zero h bytes = h
heap_after (suc k) h bytes = heap_after k (replay_record h (take 16 bytes)).heap (drop 16 bytes)

-- the answer, the output and the heap as they are left
pub record Piece : Type 0 where
  pub answer : Replayed
  pub output : List ℕ
  pub heap : Heap

abbrev pub piece_of : ℕ → ℕ → List ℕ → Heap → Piece
piece_of k n output h = record { answer = record { number = k; written = n }; output = output; heap = h }

-- 1 or 2 for a heap that is none, 7 for an output that is too small for the replies, and nothing changes; else every
-- reply stands at the front of the output
unfoldable pub replay_piece : Heap → List ℕ → List ℕ → Piece
replay_piece h input output =
    let replies = replay_records (length input / 16) h input in
    passing (in_order (shape_number h) 0 0 (room_number (length replies) (length output))) (λ k. piece_of k 0 output h)
    (piece_of 0 (length replies) (replies ++ drop (length replies) output) (heap_after (length input / 16) h input))

-- it determines what is answered: any two outcomes that it allows, of one heap, input and output, are equal in every
-- byte and word
pub replay_one : (h : Heap) (input output : List ℕ) (x y : Piece) → x ≡ replay_piece h input output
    → y ≡ replay_piece h input output → x ≡ y
replay_one h input output x y e f = e ∙ sym f

-- ---- one record
-- a reply is sixteen bytes long, and A, P and the edition are those of the books b
pub record Sent (b : List ℕ) (x : Replied) : Type 0 where
  pub long : length x.reply ≡ 16
  pub kept : Kept b x.heap.books

module _ {b : List ℕ} where
  sent : (t : Bool) (x y : Replied) → Sent b x → Sent b y → Sent b (if t then x else y)
  sent t x y u v = either (Sent b) t x y (λ _. u) (λ _. v)

  call_sent : (r : List ℕ) (x : Outcome) (size : ℕ) → Kept b x.heap.books → Sent b (called r x size)
  call_sent r x size f = go x.answer.number
    where
      go : (k : ℕ) → Sent b (passing k (λ j. refused_record r j x.heap)
          (replied (op_of r) 0 x.answer.offset size x.heap))
      go zero = record { long = refl; kept = f }
      go (suc k) = record { long = refl; kept = f }

pub record_sent : (h : Heap) (r : List ℕ) → Sent h.books (replay_record h r)
unfolding replay_record replay_call
record_sent h r =
    sent (ltb (length r) 16) (replied 0 8 0 0 h) (if well_made r then replay_call h r else refused_record r 9 h)
    (record { long = refl; kept = none_written })
    (sent (well_made r) (replay_call h r) (refused_record r 9 h)
    (sent (eqb (op_of r) 1) asked (if eqb (op_of r) 2 then given else resized)
    (call_sent r (ask h (size_in r)) _ (ask_keeps h (size_in r)))
    (sent (eqb (op_of r) 2) given resized
    (call_sent r (give_back h (offset_in r)) _ (back_keeps h (offset_in r)))
    (call_sent r (resize h (offset_in r) (size_in r)) _ (resize_keeps h (offset_in r) (size_in r)))))
    (record { long = refl; kept = none_written }))
  where
    asked : Replied
    asked = called_for r (ask h (size_in r))

    given : Replied
    given = called r (give_back h (offset_in r)) (block_size h (offset_in r))

    resized : Replied
    resized = called_for r (resize h (offset_in r) (size_in r))

-- a short record changes nothing
short_same : (h : Heap) (r : List ℕ) → length r < 16 → (replay_record h r).heap ≡ h
unfolding replay_record
short_same h r l = rw (lt-ltb (length r) 16 l)

pub after_kept : (k : ℕ) (h : Heap) (bytes : List ℕ) → Kept h.books (heap_after k h bytes).books
unfolding heap_after
after_kept zero h bytes = none_written
after_kept (suc k) h bytes =
    kept_on (record_sent h (take 16 bytes)).kept (after_kept k (replay_record h (take 16 bytes)).heap (drop 16 bytes))

-- ---- record by record
-- how many records n bytes are, the last of which may be short
abbrev pub records_in : ℕ → ℕ
records_in n = (n + 15) / 16

-- the record of turn i
abbrev pub record_at : ℕ → List ℕ → List ℕ
record_at i bytes = take 16 (drop (16 * i) bytes)

-- the replies to n records one after the other, and the heap after them
unfoldable pub turns : ℕ → Heap → List ℕ → Replied
turns zero h bytes = record { reply = []; heap = h }
turns (suc n) h bytes =
    let r = replay_record h (take 16 bytes) in
    let s = turns n r.heap (drop 16 bytes) in
    record { reply = r.reply ++ s.reply; heap = s.heap }

pub turns_long : (n : ℕ) (h : Heap) (bytes : List ℕ) → length (turns n h bytes).reply ≡ 16 * n
unfolding turns
turns_long zero h bytes = refl
turns_long (suc n) h bytes =
    let r = replay_record h (take 16 bytes) in
    omega (
      arith,
      length-append r.reply (turns n r.heap (drop 16 bytes)).reply,
      (record_sent h (take 16 bytes)).long,
      turns_long n r.heap (drop 16 bytes),
    )

-- they are the replies of the rules, and the heap is the one after the whole records
turns_are : (k : ℕ) (h : Heap) (bytes : List ℕ) → length bytes / 16 ≡ k
    → turns (records_in (length bytes)) h bytes
    ≡ record { reply = replay_records k h bytes; heap = heap_after k h bytes }
unfolding turns replay_records heap_after
turns_are zero h [] e = refl
turns_are zero h (x ∷ xs) e =
    let bytes = x ∷ xs in
    let one : records_in (length bytes) ≡ 1 = omega arith in
    let same : take 16 bytes ≡ bytes = take_all 16 bytes (omega arith) in
    let still : (replay_record h bytes).heap ≡ h = short_same h bytes (omega arith) in
    ap (λ (n : ℕ). turns n h bytes) one
    ∙ ap (λ (r : List ℕ). record { reply = (replay_record h r).reply ++ []; heap = (replay_record h r).heap }) same
    ∙ ap₂ (λ (l : List ℕ) (g : Heap). record { reply = l; heap = g })
    (append-nil (replay_record h bytes).reply
    ∙ passed_over (eqb (length bytes) 0) [] (replay_record h bytes).reply (ne_eqb (length bytes) 0 (λ z. omega arith)))
    still
turns_are (suc k) h bytes e =
    let r = replay_record h (take 16 bytes) in
    let more : records_in (length bytes) ≡ suc (records_in (length (drop 16 bytes))) = omega (arith, length-drop 16 bytes) in
    ap (λ (n : ℕ). turns n h bytes) more
    ∙ ap (λ (s : Replied). record { reply = r.reply ++ s.reply; heap = s.heap })
    (turns_are k r.heap (drop 16 bytes) (omega (arith, length-drop 16 bytes)))

pub replies_are : (h : Heap) (bytes : List ℕ)
    → turns (records_in (length bytes)) h bytes
    ≡ record { reply = replay_records (length bytes / 16) h bytes; heap = heap_after (length bytes / 16) h bytes }
replies_are h bytes = turns_are (length bytes / 16) h bytes refl

-- ---- the loop over n records: at turn i the heap is h, the output is out, and the replies from record i on are left
pub record Going (n : ℕ) (h₀ : Heap) (input out₀ : List ℕ) (h : Heap) (out : List ℕ) (i : ℕ) : Type 0 where
  pub same : sets out (16 * i) (turns (n - i) h (drop (16 * i) input)).reply ≡ sets out₀ 0 (turns n h₀ input).reply
  pub heap : (turns (n - i) h (drop (16 * i) input)).heap ≡ (turns n h₀ input).heap
  pub long : length out ≡ length out₀

module _ {n : ℕ} {h₀ : Heap} {input out₀ : List ℕ} where
  pub begin : Going n h₀ input out₀ h₀ out₀ 0
  begin =
      let e : n - 0 ≡ n = omega arith in
      record {
        same = ap (λ (k : ℕ). sets out₀ 0 (turns k h₀ input).reply) e;
        heap = ap (λ (k : ℕ). (turns k h₀ input).heap) e;
        long = refl;
      }

  pub turn : {h h' : Heap} {out out' : List ℕ} (i : ℕ) → i < n → Going n h₀ input out₀ h out i
      → out' ≡ sets out (16 * i) (replay_record h (record_at i input)).reply
      → h' ≡ (replay_record h (record_at i input)).heap
      → Going n h₀ input out₀ h' out' (i + 1)
  unfolding turns
  turn {h} {h'} {out} {out'} i l g e f =
      let r = replay_record h (record_at i input) in
      let k = n - (i + 1) in
      let count : n - i ≡ suc k = omega arith in
      let there : 16 * i + length r.reply ≡ 16 * (i + 1) = omega (arith, (record_sent h (record_at i input)).long) in
      let rest : drop (16 * (i + 1)) input ≡ drop 16 (drop (16 * i) input) =
      (let s : 16 * (i + 1) ≡ 16 * i + 16 = omega arith in ap (λ (j : ℕ). drop j input) s) ∙ sym (drop-drop 16 (16 * i) input) in
      let left = turns k r.heap (drop 16 (drop (16 * i) input)) in
      record {
        same =
            ap₂ (λ (x : Heap) (y : List ℕ). sets out' (16 * (i + 1)) (turns k x y).reply) f rest
            ∙ ap₂ (λ (o : List ℕ) (j : ℕ). sets o j left.reply) e (sym there)
            ∙ sym (sets_append out (16 * i) r.reply left.reply)
            ∙ ap (λ (j : ℕ). sets out (16 * i) (turns j h (drop (16 * i) input)).reply) (sym count)
            ∙ g.same;
        heap =
            ap₂ (λ (x : Heap) (y : List ℕ). (turns k x y).heap) f rest
            ∙ ap (λ (j : ℕ). (turns j h (drop (16 * i) input)).heap) (sym count)
            ∙ g.heap;
        long = ap length e ∙ length-sets out (16 * i) r.reply ∙ g.long;
      }

  -- nothing is left
  pub stored : {h : Heap} {out : List ℕ} (i : ℕ) → i ≡ n → Going n h₀ input out₀ h out i
      → (out ≡ sets out₀ 0 (turns n h₀ input).reply) × (h ≡ (turns n h₀ input).heap)
  unfolding turns
  stored {h} {out} i e g =
      let z : n - i ≡ 0 = omega arith in (
        ap (λ (j : ℕ). sets out (16 * i) (turns j h (drop (16 * i) input)).reply) (sym z) ∙ g.same,
        ap (λ (j : ℕ). (turns j h (drop (16 * i) input)).heap) (sym z) ∙ g.heap,
      )

-- ---- the piece, by its tests
module _ (h : Heap) (input output : List ℕ) where
  abbrev pub replies : List ℕ
  replies = replay_records (length input / 16) h input

  replies_long : length replies ≡ 16 * records_in (length input)
  replies_long =
      sym (ap (λ (x : Replied). length x.reply) (replies_are h input)) ∙ turns_long (records_in (length input)) h input

  -- a heap of another shape
  pub no_heap : (number : ℕ) → number ≡ shape_number h → (number ≡ 0 → ⊥)
      → piece_of number 0 output h ≡ replay_piece h input output
  unfolding replay_piece
  no_heap number e n =
      let first : in_order (shape_number h) 0 0 (room_number (length replies) (length output)) ≡ shape_number h =
      stopped (λ k. k) _ (shape_number h) (λ z. n (e ∙ z)) in
      ap (λ (k : ℕ). piece_of k 0 output h) (e ∙ sym first)
      ∙ sym (stopped (λ k. piece_of k 0 output h) _ _ (λ z. n (e ∙ sym first ∙ z)))

  module _ (e : shape_number h ≡ 0) where
    -- an output that is too small
    pub no_room_lem : length output < 16 * records_in (length input)
        → piece_of 7 0 output h ≡ replay_piece h input output
    unfolding replay_piece
    no_room_lem l =
        let seven : in_order (shape_number h) 0 0 (room_number (length replies) (length output)) ≡ 7 =
        passed (λ k. k) _ (shape_number h) e ∙ too_little (length replies) (length output) (omega (arith, replies_long)) in
        ap (λ (k : ℕ). piece_of k 0 output h) (sym seven) ∙ sym (stopped (λ k. piece_of k 0 output h) _ _ (λ z. omega arith))

    -- room enough
    module _ (l : 16 * records_in (length input) ≤ length output) where
      pub piece_done : replay_piece h input output
          ≡ piece_of 0 (length replies) (replies
          ++ drop (length replies) output) (heap_after (length input / 16) h input)
      unfolding replay_piece
      piece_done =
          passed (λ k. piece_of k 0 output h) _ _
          (passed (λ k. k) _ (shape_number h) e ∙ enough (length replies) (length output) (omega (arith, replies_long)))

      -- the loop is done
      pub all_done : (out : List ℕ) (g : Heap)
          → out ≡ sets output 0 (turns (records_in (length input)) h input).reply
          → g ≡ (turns (records_in (length input)) h input).heap
          → piece_of 0 (16 * records_in (length input)) out g ≡ replay_piece h input output
      all_done out g f t =
          let stands : out ≡ replies ++ drop (length replies) output =
          f ∙ ap (λ (x : Replied). sets output 0 x.reply) (replies_are h input) ∙ sets_front output replies (omega (arith, replies_long)) in
          let after : g ≡ heap_after (length input / 16) h input = t ∙ ap (λ (x : Replied). x.heap) (replies_are h input) in
          ap₂ (λ (o : List ℕ) (x : Heap). piece_of 0 (16 * records_in (length input)) o x) stands after
          ∙ ap (λ (n : ℕ). piece_of 0 n (replies ++ drop (length replies) output) (heap_after (length input / 16) h input)) (sym replies_long)
          ∙ sym piece_done

-- ---- the input is cut into records: of up to 16 bytes x comes off the front of l, and l' is left
pub cut : (l x l' : List ℕ) → l ≡ x ++ l' → length x ≡ min 16 (length l) → (x ≡ take 16 l) × (l' ≡ drop 16 l)
cut l x l' e size =
    let all = ap length e ∙ length-append x l' in
    elim (cases_lt (length l) 16) [
      | inl short ↦
          let none : l' ≡ [] = nil_from_length l' (omega arith) in
          let same : l ≡ x = e ∙ ap (λ (r : List ℕ). x ++ r) none ∙ append-nil x in
          (sym same ∙ sym (take_all 16 l (omega arith)), none ∙ sym (drop_all 16 l (omega arith)))
      | inr long ↦
          let sixteen : length x ≡ 16 = omega arith in (
            sym (take-append_seam x l') ∙ ap₂ take sixteen (sym e),
            sym (drop-append_seam x l') ∙ ap₂ drop sixteen (sym e),
          )
    ]

-- ---- a piece of one record, whole or short, gets that record's reply
pub one_record : (h : Heap) (r : List ℕ) → 0 < length r → length r ≤ 16
    → replay_records (length r / 16) h r ≡ (replay_record h r).reply
unfolding turns
one_record h r low high =
    let one : records_in (length r) ≡ 1 = omega arith in
    sym (ap (λ (x : Replied). x.reply) (replies_are h r))
    ∙ ap (λ (n : ℕ). (turns n h r).reply) one
    ∙ append-nil (replay_record h (take 16 r)).reply
    ∙ ap (λ (l : List ℕ). (replay_record h l).reply) (take_all 16 r high)

-- ---- a replay in pieces: k records in the bytes xs, and then the rest
-- the first of one record more
module _ (k : ℕ) (xs ys : List ℕ) (e : length xs ≡ 16 * suc k) where
  first_record : take 16 (xs ++ ys) ≡ take 16 xs
  first_record = take-append-le 16 xs ys (omega arith)

  rest_after : drop 16 (xs ++ ys) ≡ drop 16 xs ++ ys
  rest_after = drop-append-le 16 xs ys (omega arith)

  fewer : length (drop 16 xs) ≡ 16 * k
  fewer = omega (arith, length-drop 16 xs)

pub in_pieces : (k j : ℕ) (h : Heap) (xs ys : List ℕ) → length xs ≡ 16 * k
    → replay_records (k + j) h (xs ++ ys) ≡ replay_records k h xs ++ replay_records j (heap_after k h xs) ys
unfolding replay_records heap_after
in_pieces zero j h [] ys e = let z : 0 + j ≡ j = omega arith in ap (λ (n : ℕ). replay_records n h ys) z
in_pieces zero j h (x ∷ xs) ys e = absurd (omega arith)
in_pieces (suc k) j h xs ys e =
    let r = replay_record h (take 16 xs) in
    let z : suc k + j ≡ suc (k + j) = omega arith in
    ap (λ (n : ℕ). replay_records n h (xs ++ ys)) z
    ∙ ap₂ (λ (u v : List ℕ). (replay_record h u).reply ++ replay_records (k + j) (replay_record h u).heap v) (first_record k xs ys e) (rest_after k xs ys e)
    ∙ ap (λ (l : List ℕ). r.reply ++ l) (in_pieces k j r.heap (drop 16 xs) ys (fewer k xs ys e))
    ∙ sym (append_assoc r.reply (replay_records k r.heap (drop 16 xs)) (replay_records j (heap_after k r.heap (drop 16 xs)) ys))

-- the pieces ps, each of whole records, and the rest: all of their bytes, and all of their replies
abbrev pub joined : List (List ℕ) → List ℕ → List ℕ
joined [] rest = rest
joined (p ∷ ps) rest = p ++ joined ps rest

unfoldable pub replies_to : Heap → List (List ℕ) → List ℕ → List ℕ
replies_to h [] rest = replay_records (length rest / 16) h rest
replies_to h (p ∷ ps) rest = replay_records (length p / 16) h p ++ replies_to (heap_after (length p / 16) h p) ps rest

abbrev pub WholeRecords : List (List ℕ) → Type 0
WholeRecords [] = Unit
WholeRecords (p ∷ ps) = (length p % 16 ≡ 0) × WholeRecords ps

-- "The program has A = 1, P = 16", and stays at edition eight: however its input comes in pieces, the replies to them
-- are the replay of the whole
pub replay_in_pieces : (h : Heap) (ps : List (List ℕ)) (rest : List ℕ) → WholeRecords ps
    → replies_to (format h 1 16 0).heap ps rest ≡ replay h (joined ps rest)
unfolding replay replies_to
replay_in_pieces h ps rest w = from (format h 1 16 0).heap ps w
  where
    from : (g : Heap) (qs : List (List ℕ)) → WholeRecords qs
        → replies_to g qs rest ≡ replay_records (length (joined qs rest) / 16) g (joined qs rest)
    from g [] w = refl
    from g (q ∷ qs) w =
        let k = length q / 16 in
        let j = length (joined qs rest) / 16 in
        let e : length q ≡ 16 * k = omega (arith, w.0) in
        let n : length (q ++ joined qs rest) / 16 ≡ k + j = omega (arith, length-append q (joined qs rest)) in
        ap (λ (l : List ℕ). replay_records k g q ++ l) (from (heap_after k g q) qs w.1)
        ∙ sym (in_pieces k j g q (joined qs rest) e)
        ∙ ap (λ (m : ℕ). replay_records m g (q ++ joined qs rest)) (sym n)
