-- How far a batch has come: what is served stands in front, and the rest is still to be asked for, on the heap as it is
-- now. A turn serves one more; at the end the row and the heap are those of the asks one by one.
-- Assumes nothing.
use Rattle.std.specs.Prelude.{◌≡◌, length, get_or, set}
use Rattle.std.proofs.Math.Path.{refl, sym, ap}
use Rattle.std.proofs.Common.{◌∙◌, subst, arith}
use mathlib.Core.List.{List, [], ◌∷◌, ◌++◌, append_assoc}
use Prim.Native.Nat.{ℕ, ◌+◌, ◌<◌, ◌≤◌}
use Rattle.std.proofs.Math.ListN.{length-append}
use Rattle.std.proofs.Math.Seq.{get_or-append_seam}
use Rattle.rules.specs.declared.Request.{Request}
use Rattle.rules.specs.Books.{Heap}
use Rattle.rules.specs.Outcome.{answer_of}
use Rattle.rules.specs.Numbers.{ask}
use Rattle.rules.specs.Batch.{
  request,
  replied,
  Served,
  served,
  ◌in_front_of◌,
  one_by_one,
  batch_tests,
  batch_outcome,
  ask_all,
}
use Rattle.books.specs.declared.refusal.Refusal.{Refusal}
use Rattle.books.specs.Refusals.{number_of}
use Rattle.books.specs.Passing.{refuses, lets_pass}
use Rattle.plans.specs.Kept.{Tested, as_many}

-- what stands past a row's end
abbrev pub none : Request
none = request 0 0 0

-- ---- rows
-- what is served, and before it what was served already
abbrev behind : List Request → Served → Served
behind done s = served s.heap (done ++ s.row)

put_front : (done : List Request) (r z : Request) (rest : List Request)
    → set (done ++ (r ∷ rest)) (length done) z ≡ (done ++ (z ∷ [])) ++ rest
put_front [] r z rest = refl
put_front (x ∷ done) r z rest = ap (λ (l : List Request). x ∷ l) (put_front done r z rest)

-- ---- of the heap h₀ and the row first as they came, and the heap h and the row now, i requests being served
module _ (h₀ : Heap) (first : List Request) where
  pub record Left (h : Heap) (now : List Request) (i : ℕ) : Type 0 where
    pub done : List Request
    pub rest : List Request
    pub row : now ≡ done ++ rest
    pub place : length done ≡ i
    pub whole : one_by_one h₀ first ≡ behind done (one_by_one h rest)
    pub tested : Tested h

  -- a turn, where `rest` begins with the request r
  next : (h : Heap) (done rest : List Request) (h' : Heap) (z : Request)
      → one_by_one h₀ first ≡ behind done (one_by_one h rest) → length done < length (done ++ rest)
      → let r = get_or (done ++ rest) (length done) none in
      h' ≡ (ask h r.size).heap → z ≡ replied r (ask h r.size).answer → Tested h'
      → Left h' (set (done ++ rest) (length done) z) (length done + 1)
  unfolding one_by_one
  next h done [] h' z w lt e f tested = absurd (omega (arith, length-append done [], lt))
  next h done (r ∷ rest) h' z w lt e f tested =
      let front = get_or-append_seam done r rest none in
      let e' : h' ≡ (ask h r.size).heap = e ∙ ap (λ (q : Request). (ask h q.size).heap) front in
      let f' : z ≡ replied r (ask h r.size).answer =
      f ∙ ap (λ (q : Request). replied q (ask h q.size).answer) front in
      let more = one_by_one (ask h r.size).heap rest in
      record {
        done = done ++ (z ∷ []);
        rest = rest;
        row = put_front done r z rest;
        place = length-append done (z ∷ []);
        whole = w
            ∙ ap (λ (q : Request). behind done (q in_front_of more)) (sym f')
            ∙ ap (served more.heap) (sym (append_assoc done (z ∷ []) more.row))
            ∙ ap (λ (x : Heap). behind (done ++ (z ∷ [])) (one_by_one x rest)) (sym e');
        tested = tested;
      }

  pub begin : Tested h₀ → Left h₀ first 0
  begin tested = record { done = []; rest = first; row = refl; place = refl; whole = refl; tested = tested }

  pub turn : (h : Heap) (now : List Request) (i : ℕ) (h' : Heap) (z : Request) → Left h now i → i < length now
      → let r = get_or now i none in
      h' ≡ (ask h r.size).heap → z ≡ replied r (ask h r.size).answer → Tested h'
      → Left h' (set now i z) (i + 1)
  turn h now i h' z l lt e f tested =
      subst (λ (j : ℕ). Left h' (set now j z) (j + 1)) l.place
      (subst (λ (xs : List Request). Left h' (set xs (length l.done) z) (length l.done + 1)) (sym l.row)
      (next h l.done l.rest h' z l.whole
      (subst (λ (xs : List Request). length l.done < length xs) l.row (rw l.place lt))
      (e ∙ at_place (λ q. (ask h q.size).heap))
      (f ∙ at_place (λ q. replied q (ask h q.size).answer)) tested))
    where
      -- the request at the front of the rest, by the row as it is now
      at_place : {X : Type 0} (g : Request → X)
          → g (get_or now i none) ≡ g (get_or (l.done ++ l.rest) (length l.done) none)
      at_place g =
          ap (λ (xs : List Request). g (get_or xs i none)) l.row
          ∙ ap (λ (j : ℕ). g (get_or (l.done ++ l.rest) j none)) (sym l.place)

  pub long : (h : Heap) (now : List Request) (i : ℕ) → Left h now i → length now ≡ length first
  long h now i l =
      ap length l.row
      ∙ length-append l.done l.rest
      ∙ ap (λ (k : ℕ). length l.done + k) (sym (as_many h l.rest))
      ∙ sym (length-append l.done (one_by_one h l.rest).row)
      ∙ ap (λ (s : Served). length s.row) (sym l.whole)
      ∙ as_many h₀ first

  -- no request is left
  ended : (h : Heap) (done rest : List Request) → length (done ++ rest) ≤ length done
      → behind done (one_by_one h rest) ≡ served h (done ++ rest)
  unfolding one_by_one
  ended h done [] le = refl
  ended h done (r ∷ rest) le = absurd (omega (arith, length-append done (r ∷ rest), le))

  end : (h : Heap) (now : List Request) (i : ℕ) → Left h now i → length now ≤ i
      → served h now ≡ one_by_one h₀ first
  end h now i l le =
      ap (served h) l.row
      ∙ sym (ended h l.done l.rest
      (subst (λ (xs : List Request). length xs ≤ length l.done) l.row (rw l.place le)))
      ∙ sym l.whole

  -- the whole batch, where none is left and the tests were passed
  pub goes_through : (h : Heap) (now : List Request) (i : ℕ) → Left h now i → length now ≤ i
      → 0 ≡ batch_tests h₀ (length first) → batch_outcome (answer_of 0 0) (served h now) ≡ ask_all h₀ first
  unfolding ask_all
  goes_through h now i l le e =
      lets_pass (λ k. batch_outcome (answer_of k 0) (served h₀ first)) _ _ _ e (ap (batch_outcome (answer_of 0 0)) (end h now i l le))

-- a row that the tests refuse
pub all_refused : (h : Heap) (row : List Request) (r : Refusal) → number_of r ≡ batch_tests h (length row)
    → batch_outcome (answer_of (number_of r) 0) (served h row) ≡ ask_all h row
unfolding ask_all
all_refused h row r e = refuses (λ k. batch_outcome (answer_of k 0) (served h row)) _ r _ e
