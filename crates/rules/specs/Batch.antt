-- 02, W-204: a whole statement in a single call. A lent row of requests, the asks that it stands for, one by one, and
-- the call: its tests, and then the asks. Then the same over a row of numbers.
-- Assumes nothing.
use Rattle.std.specs.Prelude.{List, [], ◌∷◌, ◌++◌, ℕ, length, drop}
use Rattle.rules.specs.declared.Answer.{Answer}
use Rattle.rules.specs.declared.Request.{Request}
use Rattle.rules.specs.Books.{Heap}
use Rattle.rules.specs.Outcome.{answer_of, passing}
use Rattle.rules.specs.Numbers.{in_order, shape_number, room_number, ask}

-- ---- "a lent row of requests, each with a size and a place for its number and offset"
abbrev pub request : ℕ → ℕ → ℕ → Request
request s k o = record { size = s; number = k; offset = o }

-- the request r with the answer a in its places
abbrev pub replied : Request → Answer → Request
replied r a = request r.size a.number a.offset

-- ---- "The result is that of the same asks one by one, front first; a refusal doesn't stop the rest."
-- what asks leave: the heap, and the row
pub record Served : Type 0 where
  pub heap : Heap
  pub row : List Request

abbrev pub served : Heap → List Request → Served
served h row = record { heap = h; row = row }

infixr 12 ◌in_front_of◌
abbrev pub ◌in_front_of◌ : Request → Served → Served
r in_front_of s = served s.heap (r ∷ s.row)

-- each by the call ask. That tests 1 and 2 again, and finds them as they were (theorem `shape_once_lem` of crate laws),
-- so that to test them once, as the call does, is the same
unfoldable pub one_by_one : Heap → List Request → Served
one_by_one h [] = served h []
one_by_one h (r ∷ rest) = replied r (ask h r.size).answer in_front_of one_by_one (ask h r.size).heap rest

-- ---- the call
-- "At most 4,096 entries"
abbrev pub most_entries : ℕ
most_entries = 4096

-- "1 and 2 are tested once, first"; more entries are "otherwise 7"
abbrev pub batch_tests : Heap → ℕ → ℕ
batch_tests h entries = in_order (shape_number h) 0 0 (room_number entries most_entries)

-- what it answers, and what it leaves
pub record BatchOutcome : Type 0 where
  pub answer : Answer
  pub left : Served

abbrev pub batch_outcome : Answer → Served → BatchOutcome
batch_outcome answer s = record { answer = answer; left = s }

-- 1 and 2 "leave the row as it came"; 7 "and no change"
unfoldable pub ask_all : Heap → List Request → BatchOutcome
ask_all h row =
    passing (batch_tests h (length row)) (λ k. batch_outcome (answer_of k 0) (served h row))
    (batch_outcome (answer_of 0 0) (one_by_one h row))

-- ---- 01, "First covered as rows of numbers": three words for each request, its size and the places for number and
-- offset
-- the requests in a row of words, as far as they are whole; and the words of requests
unfoldable pub requests_in : List ℕ → List Request
requests_in [] = []
requests_in (s ∷ []) = []
requests_in (s ∷ k ∷ []) = []
requests_in (s ∷ k ∷ o ∷ words) = request s k o ∷ requests_in words

unfoldable pub in_words : List Request → List ℕ
in_words [] = []
in_words (r ∷ rest) = r.size ∷ r.number ∷ r.offset ∷ in_words rest

-- what the call over words answers and leaves
pub record RowsOutcome : Type 0 where
  pub answer : Answer
  pub heap : Heap
  pub words : List ℕ

abbrev pub rows_outcome : Answer → Heap → List ℕ → RowsOutcome
rows_outcome answer h words = record { answer = answer; heap = h; words = words }

-- the call over their requests; words past the last whole one stay
unfoldable pub ask_rows : Heap → List ℕ → RowsOutcome
ask_rows h words =
    let x = ask_all h (requests_in words) in
    rows_outcome x.answer x.left.heap (in_words x.left.row ++ drop (length (in_words (requests_in words))) words)
