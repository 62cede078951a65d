-- W-204, over any heap at all: a batch is the asks of its row, one by one. 1 and 2 can be tested once, because an ask
-- writes none of words 0, 1 and 68, by which they go, and keeps the lengths.
-- Assumes nothing.
use Rattle.std.specs.Prelude.{◌≡◌, ◌≢◌, ◌⊎◌, List, [], ◌∷◌, ◌++◌, ltb, length, get_or, take, drop}
use Rattle.std.proofs.Math.Path.{refl, ap}
use Rattle.std.proofs.Common.{sym, ◌∙◌, subst, inl, inr, arith}
use Prim.Native.Nat.{ℕ, zero, suc, ◌≤◌, ◌<◌}
use Rattle.rules.specs.declared.Answer.{Answer}
use Rattle.rules.specs.declared.Request.{Request}
use Rattle.rules.specs.Books.{Heap, arenas, pools, edition, alignment}
use Rattle.rules.specs.Outcome.{Outcome, answer_of, refused, passing}
use Rattle.rules.specs.Ask.{ask_step}
use Rattle.rules.specs.Numbers.{shape_number, size_number, room_number, in_order, ask}
use Rattle.rules.specs.Batch.{
  request,
  replied,
  Served,
  served,
  ◌in_front_of◌,
  one_by_one,
  most_entries,
  batch_tests,
  BatchOutcome,
  batch_outcome,
  ask_all,
  requests_in,
  in_words,
  RowsOutcome,
  rows_outcome,
  ask_rows,
}
use Rattle.rules.specs.Promises.{AskPromise, AskAllPromise, AskRowsPromise}
use Rattle.books.specs.Tests.{either}
use Rattle.books.specs.Passing.{stopped, passed, too_little, enough}
use Rattle.plans.specs.Kept.{ask_kept, arenas_kept, pools_kept, edition_kept, shape_kept, as_many}
use Rattle.laws.specs.Refused.{shape_few, ask_refused}
use Rattle.laws.specs.First.{First, ask_first}

-- ---- "1 and 2 are tested once, first"
-- an ask leaves A, P, the edition and the three lengths as they were
pub ask_keeps : (h : Heap) (n : ℕ)
    → let g = (ask h n).heap in
    (arenas g ≡ arenas h) × (pools g ≡ pools h) × (edition g ≡ edition h)
    × (length g.memory ≡ length h.memory)
    × (length g.books ≡ length h.books)
    × (length g.map ≡ length h.map)
ask_keeps h n = let k = ask_kept h n in (arenas_kept k, pools_kept k, edition_kept k, k.memory, k.books, k.map)

-- so after the asks of any row, one by one, 1 and 2 are what they were before
pub shape_once_lem : (h : Heap) (row : List Request) → shape_number (one_by_one h row).heap ≡ shape_number h
unfolding one_by_one
shape_once_lem h [] = refl
shape_once_lem h (r ∷ rest) = shape_once_lem (ask h r.size).heap rest ∙ shape_kept (ask_kept h r.size)

-- ---- any heap and any row
-- the request at place i of a row
abbrev pub request_at : List Request → ℕ → Request
request_at row i = get_or row i (request 0 0 0)

-- the heap that the asks of the first i requests leave
abbrev pub heap_before : Heap → List Request → ℕ → Heap
heap_before h row i = (one_by_one h (take i row)).heap

-- what the asks leave, place by place
reply_is : (h : Heap) (row : List Request) (i : ℕ) → i < length row
    → request_at (one_by_one h row).row i
    ≡ replied (request_at row i) (ask (heap_before h row i) (request_at row i).size).answer
unfolding one_by_one
reply_is h [] i l = absurd (omega arith)
reply_is h (r ∷ rest) zero l = refl
reply_is h (r ∷ rest) (suc i) l = reply_is (ask h r.size).heap rest i (omega arith)

heap_next : (h : Heap) (row : List Request) (i : ℕ) → i < length row
    → heap_before h row (suc i) ≡ (ask (heap_before h row i) (request_at row i).size).heap
unfolding one_by_one
heap_next h [] i l = absurd (omega arith)
heap_next h (r ∷ rest) zero l = refl
heap_next h (r ∷ rest) (suc i) l = heap_next (ask h r.size).heap rest i (omega arith)

heap_last : (h : Heap) (row : List Request) → (one_by_one h row).heap ≡ heap_before h row (length row)
unfolding one_by_one
heap_last h [] = refl
heap_last h (r ∷ rest) = heap_last (ask h r.size).heap rest

module _ (h : Heap) (row : List Request) where
  -- what the tests' number decides
  abbrev decided : ℕ → BatchOutcome
  decided k =
      passing k (λ j. batch_outcome (answer_of j 0) (served h row))
      (batch_outcome (answer_of 0 0) (one_by_one h row))

  number_is : (ask_all h row).answer.number ≡ batch_tests h (length row)
  unfolding ask_all
  number_is = go (batch_tests h (length row))
    where
      go : (k : ℕ) → (decided k).answer.number ≡ k
      go zero = refl
      go (suc k) = refl

  -- which way the call goes: 1 and 2 first, and they leave the row as it came; then 7, for more than 4,096 entries;
  -- otherwise 0, and the row and the heap are those of the asks one by one
  pub batch_means : let x = ask_all h row in
      (shape_number h ≢ 0 → x ≡ batch_outcome (answer_of (shape_number h) 0) (served h row))
      × (shape_number h ≡ 0 → 4096 < length row → x ≡ batch_outcome (answer_of 7 0) (served h row))
      × (shape_number h ≡ 0 → length row ≤ 4096 → x ≡ batch_outcome (answer_of 0 0) (one_by_one h row))
  unfolding ask_all
  batch_means = (
    λ d. ap decided (stopped (λ k. k) _ (shape_number h) d)
        ∙ stopped (λ j. batch_outcome (answer_of j 0) (served h row)) _ (shape_number h) d,
    λ z l. ap decided (passed (λ k. k) _ (shape_number h) z ∙ too_little (length row) most_entries l),
    λ z l. ap decided (passed (λ k. k) _ (shape_number h) z ∙ enough (length row) most_entries l),
  )

  -- its number is 0, 1, 2 or 7, whatever numbers the entries get: never 6
  pub batch_numbers : let k = (ask_all h row).answer.number in (k ≡ 0) ⊎ (k ≡ 1) ⊎ (k ≡ 2) ⊎ (k ≡ 7)
  unfolding room_number
  batch_numbers = rw number_is (by_shape (shape_number h) (shape_few h))
    where
      One : ℕ → Type 0
      One k = (k ≡ 0) ⊎ (k ≡ 1) ⊎ (k ≡ 2) ⊎ (k ≡ 7)

      by_shape : (k : ℕ) → k ≤ 2 → One (in_order k 0 0 (room_number (length row) most_entries))
      by_shape zero l = either One (ltb most_entries (length row)) 7 0 (λ _. inr (inr (inr refl))) (λ _. inl refl)
      by_shape (suc zero) l = inr (inl refl)
      by_shape (suc (suc zero)) l = inr (inr (inl refl))
      by_shape (suc (suc (suc k))) l = absurd (omega arith)

  -- refused, it changes nothing, in the row nor the heap
  pub batch_refused : (ask_all h row).answer.number ≢ 0
      → ask_all h row ≡ batch_outcome (answer_of (ask_all h row).answer.number 0) (served h row)
  unfolding ask_all
  batch_refused = go (batch_tests h (length row))
    where
      go : (k : ℕ) → (decided k).answer.number ≢ 0
          → decided k ≡ batch_outcome (answer_of (decided k).answer.number 0) (served h row)
      go zero d = absurd (d refl)
      go (suc k) d = refl

  -- refused with 1 or 2, it is what any single ask would be: refused with that number, and nothing changes
  pub batch_refuses_each : let k = (ask_all h row).answer.number in
      (k ≡ 1) ⊎ (k ≡ 2) → (n : ℕ) → ask h n ≡ refused k h
  unfolding ask room_number
  batch_refuses_each e n = rw number_is (go (shape_number h) (subst Low number_is e))
    where
      Low : ℕ → Type 0
      Low k = (k ≡ 1) ⊎ (k ≡ 2)

      not_seven : Low 7 → ⊥
      not_seven (inl e) = absurd (omega arith)
      not_seven (inr e) = absurd (omega arith)

      not_zero : Low 0 → ⊥
      not_zero (inl e) = absurd (omega arith)
      not_zero (inr e) = absurd (omega arith)

      go : (k : ℕ) → Low (in_order k 0 0 (room_number (length row) most_entries))
          → passing (in_order k (size_number n) 0 0) (λ j. refused j h)
          (ask_step (alignment h) (arenas h) (pools h) h n)
          ≡ refused (in_order k 0 0 (room_number (length row) most_entries)) h
      go zero l =
          absurd (either (λ (k : ℕ). Low k → ⊥) (ltb most_entries (length row)) 7 0 (λ _. not_seven) (λ _. not_zero) l)
      go (suc k) l = refl

  -- done, it leaves what the asks one by one leave
  pub done_is : (ask_all h row).answer.number ≡ 0 → (ask_all h row).left ≡ one_by_one h row
  unfolding ask_all
  done_is z = ap (λ (k : ℕ). (decided k).left) (sym number_is ∙ z)

  -- done, it leaves a row as long as it was lent; each entry has the size that it had, and the number and the offset
  -- that an ask for it gets on the heap which the entries before it leave; and the heap is that after all of them
  pub batch_by_place : (ask_all h row).answer.number ≡ 0
      → let x = (ask_all h row).left in
      let g = heap_before h row in
      (length x.row ≡ length row)
      × (g 0 ≡ h)
      × ((i : ℕ) → i < length row
      → let y = ask (g i) (request_at row i).size in
      (request_at x.row i ≡ replied (request_at row i) y.answer) × (g (suc i) ≡ y.heap))
      × (x.heap ≡ g (length row))
  unfolding one_by_one
  batch_by_place z =
      rw (done_is z)
      (as_many h row, refl, λ i l. (reply_is h row i l, heap_next h row i l), heap_last h row)

  -- an entry that is refused has offset 0, and its ask changed nothing
  pub batch_refused_entry : (ask_all h row).answer.number ≡ 0 → (i : ℕ) → i < length row
      → let r = request_at (ask_all h row).left.row i in
      r.number ≢ 0 → (r.offset ≡ 0) × (heap_before h row (suc i) ≡ heap_before h row i)
  batch_refused_entry z i l d =
      let t = (batch_by_place z).2 i l in
      let g = heap_before h row i in
      let n = (request_at row i).size in
      let u = ask_refused g n (λ e. d (ap (λ (r : Request). r.number) t.0 ∙ e)) in (
        ap (λ (r : Request). r.offset) t.0 ∙ ap (λ (x : Outcome). x.answer.offset) u,
        t.1 ∙ ap (λ (x : Outcome). x.heap) u,
      )

-- ---- the first 48 bytes of each pool
one_by_one_first : (h : Heap) (row : List Request) → First h.memory (one_by_one h row).heap.memory
unfolding one_by_one
one_by_one_first h [] i l = refl
one_by_one_first h (r ∷ rest) i l = one_by_one_first (ask h r.size).heap rest i l ∙ ask_first h r.size i l

-- a batch writes none of them
pub batch_first : (h : Heap) (row : List Request) → First h.memory (ask_all h row).left.heap.memory
unfolding ask_all
batch_first h row = go (batch_tests h (length row))
  where
    go : (k : ℕ) → First h.memory (decided h row k).left.heap.memory
    go zero = one_by_one_first h row
    go (suc k) = λ i l. refl

-- ---- "The result is that of the same asks one by one, front first"
-- calls of ask for the sizes of a row, front first: the heap that the first one finds, the row, the answers, and the
-- heap that the last one leaves. Each keeps its promise, and finds the buffers that the one before it left
pub data Asks : Heap → List Request → List Answer → Heap → Type 0 where
  no_more : {h : Heap} → Asks h [] [] h
  one_more : {h g end : Heap} {r : Request} {rest : List Request} {a : Answer} {more : List Answer}
      → AskPromise h g r.size a → Asks g rest more end → Asks h (r ∷ rest) (a ∷ more) end

-- there are such calls for every row
unfoldable pub asks_made : (h : Heap) (row : List Request)
    → (answers : List Answer) × (end : Heap) × Asks h row answers end
asks_made h [] = ([], h, no_more)
asks_made h (r ∷ rest) =
    let y = ask h r.size in
    let z = asks_made y.heap rest in
    (y.answer ∷ z.0, z.1, one_more refl z.2)

-- the row with answers in its places
abbrev pub with_answers : List Request → List Answer → List Request
with_answers [] answers = []
with_answers (r ∷ rest) [] = r ∷ rest
with_answers (r ∷ rest) (a ∷ more) = replied r a ∷ with_answers rest more

asks_are : {h end : Heap} {row : List Request} {answers : List Answer} → Asks h row answers end
    → one_by_one h row ≡ served end (with_answers row answers)
unfolding one_by_one
asks_are no_more = refl
asks_are {end = end} (one_more {r = r} {rest = rest} {a = a} kept more) =
    ap (λ (x : Outcome). replied r x.answer in_front_of one_by_one x.heap rest) (sym kept)
    ∙ ap (λ (s : Served). replied r a in_front_of s) (asks_are more)

-- a batch that is done leaves the three buffers as those calls leave them, and the row with their answers in its places
pub batch_is_asks : (h left end : Heap) (row replies : List Request) (r : Answer) (answers : List Answer)
    → AskAllPromise h left row replies r → r.number ≡ 0 → Asks h row answers end
    → (left ≡ end) × (replies ≡ with_answers row answers)
batch_is_asks h left end row replies r answers kept done asks =
    let z = sym (ap (λ (x : BatchOutcome). x.answer.number) kept) ∙ done in
    let e = ap (λ (x : BatchOutcome). x.left) kept ∙ done_is h row z ∙ asks_are asks in
    (ap (λ (s : Served). s.heap) e, ap (λ (s : Served). s.row) e)

-- ---- over words: three for each request, and at most two words past the last one, which stay
requests_are : (row : List Request) (past : List ℕ) → length past ≤ 2 → requests_in (in_words row ++ past) ≡ row
unfolding requests_in in_words
requests_are [] [] l = refl
requests_are [] (s ∷ []) l = refl
requests_are [] (s ∷ k ∷ []) l = refl
requests_are [] (s ∷ k ∷ o ∷ past) l = absurd (omega arith)
requests_are (r ∷ rest) past l = ap (λ (l : List Request). r ∷ l) (requests_are rest past l)

past_is : (row : List Request) (past : List ℕ) → drop (length (in_words row)) (in_words row ++ past) ≡ past
unfolding in_words
past_is [] past = refl
past_is (r ∷ rest) past = past_is rest past

pub rows_are_requests : (h : Heap) (row : List Request) (past : List ℕ) → length past ≤ 2
    → let x = ask_all h row in
    ask_rows h (in_words row ++ past) ≡ rows_outcome x.answer x.left.heap (in_words x.left.row ++ past)
unfolding ask_rows
rows_are_requests h row past l =
    rw (requests_are row past l, past_is row past)

-- so a call over words that keeps its promise is a batch over their requests that keeps its own
pub rows_keep : (h left : Heap) (words replies : List ℕ) (r : Answer) → AskRowsPromise h left words replies r
    → (row : List Request) × AskAllPromise h left (requests_in words) row r
    × (replies ≡ in_words row ++ drop (length (in_words (requests_in words))) words)
unfolding ask_rows
rows_keep h left words replies r kept =
    let x = ask_all h (requests_in words) in (
      x.left.row,
      ap (λ (y : RowsOutcome). batch_outcome y.answer (served y.heap x.left.row)) kept,
      ap (λ (y : RowsOutcome). y.words) kept,
    )
