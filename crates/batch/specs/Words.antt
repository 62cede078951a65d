-- A row of numbers as requests: three words for each, one after the other, and what is past the last whole one. So how
-- far a batch over words has come is how far it has come over their requests.
-- Assumes nothing.
use Rattle.std.specs.Prelude.{◌≡◌, refl, List, [], ◌∷◌, ◌++◌, ℕ, zero, suc, ◌+◌, ◌*◌, ◌/◌, ◌<◌, ◌≤◌, length, get_or, set, drop}
use Rattle.std.proofs.Common.{◌∙◌, arith}
use Rattle.std.proofs.Math.Path.{ap}
use Rattle.rules.specs.declared.Request.{Request}
use Rattle.rules.specs.Books.{Heap, at}
use Rattle.rules.specs.Outcome.{answer_of}
use Rattle.rules.specs.Numbers.{ask}
use Rattle.rules.specs.Batch.{
  request,
  replied,
  batch_tests,
  BatchOutcome,
  requests_in,
  in_words,
  rows_outcome,
  ask_rows,
}
use Rattle.plans.specs.Kept.{Tested}
use Rattle.books.specs.declared.refusal.Refusal.{Refusal}
use Rattle.books.specs.Refusals.{number_of}
use Rattle.batch.specs.Left.{none, Left, begin, long, turn, goes_through, all_refused}

-- ---- words as requests
-- the words past the last whole request
abbrev past : List ℕ → List ℕ
past words = drop (length (in_words (requests_in words))) words

laid_out : (words : List ℕ) → words ≡ in_words (requests_in words) ++ past words
unfolding requests_in in_words
laid_out [] = refl
laid_out (s ∷ []) = refl
laid_out (s ∷ k ∷ []) = refl
laid_out (s ∷ k ∷ o ∷ words) = ap (λ (l : List ℕ). s ∷ k ∷ o ∷ l) (laid_out words)

-- how many are whole
pub entries_are : (words : List ℕ) → length words / 3 ≡ length (requests_in words)
unfolding requests_in
entries_are [] = refl
entries_are (s ∷ []) = refl
entries_are (s ∷ k ∷ []) = refl
entries_are (s ∷ k ∷ o ∷ words) = omega (arith, entries_are words)

-- the word for request i's size, and those for its number and offset
size_there : (now : List Request) (behind : List ℕ) (i : ℕ) → i < length now
    → at (in_words now ++ behind) (3 * i) ≡ (get_or now i none).size
unfolding in_words
size_there [] behind i lt = absurd (omega arith)
size_there (r ∷ now) behind zero lt = refl
size_there (r ∷ now) behind (suc i) lt =
    let q : 3 * suc i ≡ suc (suc (suc (3 * i))) = omega arith in rw q (size_there now behind i (omega arith))

put_there : (now : List Request) (behind : List ℕ) (i k o : ℕ) → i < length now
    → set (set (in_words now ++ behind) (3 * i + 1) k) (3 * i + 2) o
    ≡ in_words (set now i (request (get_or now i none).size k o)) ++ behind
unfolding in_words
put_there [] behind i k o lt = absurd (omega arith)
put_there (r ∷ now) behind zero k o lt = refl
put_there (r ∷ now) behind (suc i) k o lt =
    let q : 3 * suc i + 1 ≡ suc (suc (suc (3 * i + 1))) = omega arith in
    let p : 3 * suc i + 2 ≡ suc (suc (suc (3 * i + 2))) = omega arith in
    rw (q, p)
    (ap (λ (l : List ℕ). r.size ∷ r.number ∷ r.offset ∷ l) (put_there now behind i k o (omega arith)))

-- ---- of the heap h₀ and the words as they came, and those now
module _ (h₀ : Heap) (first : List ℕ) where
  -- i requests are served
  pub record Rows (h : Heap) (words : List ℕ) (i : ℕ) : Type 0 where
    pub now : List Request
    pub laid : words ≡ in_words now ++ past first
    pub left : Left h₀ (requests_in first) h now i

  pub rows_begin : Tested h₀ → Rows h₀ first 0
  rows_begin tested = record {
    now = requests_in first;
    laid = laid_out first;
    left = begin h₀ (requests_in first) tested;
  }

  module _ {h : Heap} {words : List ℕ} {i : ℕ} (l : Rows h words i) where
    as_many_now : length l.now ≡ length (requests_in first)
    as_many_now = long h₀ (requests_in first) h l.now i l.left

    -- the heap stays tested
    pub rows_tested : Tested h
    rows_tested = l.left.tested

    -- a turn
    module _ (lt : i < length first / 3) where
      there : i < length l.now
      there = omega (arith, lt, entries_are first, as_many_now)

      size_is : at words (3 * i) ≡ (get_or l.now i none).size
      size_is = ap (λ (w : List ℕ). at w (3 * i)) l.laid ∙ size_there l.now (past first) i there

      pub rows_turn : (h' : Heap) (z : Request) → h' ≡ (ask h (at words (3 * i))).heap
          → z ≡ replied (request (at words (3 * i)) 0 0) (ask h (at words (3 * i))).answer → Tested h'
          → Rows h' (set (set words (3 * i + 1) z.number) (3 * i + 2) z.offset) (i + 1)
      rows_turn h' z e f tested =
          let size = (get_or l.now i none).size in
          let new = request size z.number z.offset in
          let z-is : z ≡ replied (get_or l.now i none) (ask h size).answer =
          f ∙ ap (λ (s : ℕ). replied (request s 0 0) (ask h s).answer) size_is in
          record {
            now = set l.now i new;
            laid = ap (λ (w : List ℕ). set (set w (3 * i + 1) z.number) (3 * i + 2) z.offset) l.laid
                ∙ put_there l.now (past first) i z.number z.offset there;
            left = turn h₀ (requests_in first) h l.now i h' new l.left there
                (e ∙ ap (λ (s : ℕ). (ask h s).heap) size_is)
                (ap (λ (q : Request). request size q.number q.offset) z-is) tested;
          }

    -- the whole batch, where none is left and the tests were passed
    pub rows_end : length first / 3 ≤ i → 0 ≡ batch_tests h₀ (length first / 3)
        → rows_outcome (answer_of 0 0) h words ≡ ask_rows h₀ first
    unfolding ask_rows
    rows_end le e =
        ap (rows_outcome (answer_of 0 0) h) l.laid
        ∙ ap (λ (x : BatchOutcome). rows_outcome x.answer x.left.heap (in_words x.left.row ++ past first))
        (goes_through h₀ (requests_in first) h l.now i l.left (omega (arith, le, entries_are first, as_many_now))
        (e ∙ ap (batch_tests h₀) (entries_are first)))

-- a row that the tests refuse
pub rows_refused : (h : Heap) (first : List ℕ) (r : Refusal) → number_of r ≡ batch_tests h (length first / 3)
    → rows_outcome (answer_of (number_of r) 0) h first ≡ ask_rows h first
unfolding ask_rows
rows_refused h first r e =
    ap (rows_outcome (answer_of (number_of r) 0) h) (laid_out first)
    ∙ ap (λ (x : BatchOutcome). rows_outcome x.answer x.left.heap (in_words x.left.row ++ past first))
    (all_refused h (requests_in first) r (e ∙ ap (batch_tests h) (entries_are first)))
