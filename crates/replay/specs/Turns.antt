-- What a turn of the program does: the replies that it has ready to write, and what it keeps for the next turn.
-- Assumes nothing.
use Rattle.std.specs.Prelude.{◌≡◌, refl, List, ◌++◌, ℕ, ◌*◌, ◌/◌, ◌≤◌, ◌<◌, length, drop, Option, IfSome, Result, Ok, Err, IsOk, ⊤}
use Rattle.std.proofs.Common.{sym, ◌∙◌, length-append}
use Rattle.std.proofs.Math.Path.{ap}
use native.Mathlib.Omega.{arith}
use Rattle.std.proofs.Math.ListN.{replicate}
use Rattle.rules.specs.Books.{Heap, in_range, exact, memory_length, books_length, map_length}
use Rattle.rules.specs.Outcome.{Outcome, heap_of, outcome, done, refused}
use Rattle.rules.specs.Format.{fresh_books}
use Rattle.rules.specs.Numbers.{range_number, edition_number, length_number, fit_number, format}
use Rattle.rules.specs.Replay.{replay_records}
use Rattle.books.specs.declared.refusal.Refusal.{Refusal}
use Rattle.books.specs.Passing.{passed}
use Rattle.books.specs.Refusals.{number_in, number_low, value_in, done_in}
use Rattle.records.specs.Replies.{Whole, right_shape}
use Rattle.records.specs.Pieces.{heap_after, replayed_in, Piece, piece_of, replay_piece, records_in, piece_done}

-- the first n bytes of the output are the replies to every record of the input, from the heap h on, and the heap is g
pub record Answered (h : Heap) (input output : List ℕ) (g : Heap) (output' : List ℕ) (n : ℕ) : Type 0 where
  pub count : n ≡ length (replay_records (length input / 16) h input)
  pub stands : output' ≡ replay_records (length input / 16) h input ++ drop n output
  pub heap : g ≡ heap_after (length input / 16) h input

-- the buffers of the program: a heap, and room to read and to reply
pub record Lent (m b k input output : List ℕ) : Type 0 where
  pub whole : Whole m b k
  pub in_long : length input ≡ 65536
  pub out_long : length output ≡ 65536

-- what is kept is no whole record
abbrev pub NextKept : Option ℕ → Type 0
NextKept next = IfSome next (λ n. n < 16)

-- a result of number 0 is done
is_done : {A : Type 0} (r : Result A Refusal) → number_in r ≡ 0 → IsOk r
is_done (Ok v) e = refl
is_done (Err refusal) e = absurd (omega (arith, number_low refusal))

-- a piece is never refused: the shape is right and there is room
module _ (m b k input output : List ℕ) (r : Result ℕ Refusal) (output' : List ℕ) (g : Heap)
    (w : Whole m b k) (room : 16 * records_in (length input) ≤ length output)
    (e : ◌≡◌ {A = Piece} (record { answer = replayed_in r; output = output'; heap = g })
    (replay_piece (heap_of m b k) input output)) where
  abbrev sent : List ℕ
  sent = replay_records (length input / 16) (heap_of m b k) input

  done_piece : ◌≡◌ {A = Piece} (record { answer = replayed_in r; output = output'; heap = g })
      (piece_of 0 (length sent) (sent ++ drop (length sent) output)
      (heap_after (length input / 16) (heap_of m b k) input))
  done_piece = e ∙ piece_done (heap_of m b k) input output (right_shape m b k w) room

  pub never_refused : IsOk r
  never_refused = is_done r (ap (λ (x : Piece). x.answer.number) done_piece)

  pub answered : (n : ℕ) → r ≡ Ok n → Answered (heap_of m b k) input output g output' n
  answered n d =
      let count = sym (ap value_in d) ∙ ap (λ (x : Piece). x.answer.written) done_piece in
      record {
        count = count;
        stands = ap (λ (x : Piece). x.output) done_piece ∙ ap (λ (j : ℕ). sent ++ drop j output) (sym count);
        heap = ap (λ (x : Piece). x.heap) done_piece;
      }

-- the replies lie in the output
pub inside : {h : Heap} {input output : List ℕ} {g : Heap} {output' : List ℕ} {n : ℕ}
    → Answered h input output g output' n → n ≤ length output'
inside {h} {input} {output} {n = n} a =
    omega (arith, a.count, ap length a.stands, length-append (replay_records (length input / 16) h input) (drop n output))

-- ---- the program's own format is done, at edition eight, and leaves a heap of the right shape
module _ (m b k : List ℕ) (e : length m ≡ memory_length 1 16)
    (f : length b ≡ books_length 1 16) (g : length k ≡ map_length 1 16) where
  fits : fit_number (heap_of m b k) 1 16 0 ≡ 0
  unfolding fit_number range_number edition_number length_number in_range exact
  fits = rw (e, f, g)

  module _ (r : Result ⊤ Refusal) (b' k' : List ℕ)
      (t : outcome (done_in r) (heap_of m b' k') ≡ format (heap_of m b k) 1 16 0) where
    left : outcome (done_in r) (heap_of m b' k') ≡ done 0 (heap_of m (fresh_books 1 16 0) (replicate 128 0))
    unfolding format
    left = t ∙ passed (λ n. refused n (heap_of m b k)) _ (fit_number (heap_of m b k) 1 16 0) fits

    pub format_done : IsOk r
    format_done = is_done r (ap (λ (x : Outcome). x.answer.number) left)

    pub formatted : Whole m b' k'
    unfolding fresh_books
    formatted =
        let books : b' ≡ fresh_books 1 16 0 = ap (λ (x : Outcome). x.heap.books) left in
        let map : k' ≡ replicate 128 0 = ap (λ (x : Outcome). x.heap.map) left in
        rw (books, map) (
          record {
            arenas_low = omega arith;
            arenas_high = omega arith;
            pools_low = omega arith;
            pools_high = omega arith;
            all = omega arith;
            memory = e;
            books = refl;
            map = refl;
          },
          omega arith,
        )
