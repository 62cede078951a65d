-- 01, "Resize", and "The half-done resize".
-- Assumes nothing.
use Rattle.std.specs.Prelude.{Bool, ◌&&◌, ℕ, ◌*◌, min, leb, ltb, take, drop, if◌then◌else◌}
use Rattle.std.proofs.lemmas.List.Edits.{sets}
use Rattle.rules.specs.Say.{◌▷◌}
use Rattle.rules.specs.Books.{Heap, on_memory}
use Rattle.rules.specs.Blocks.{size_at, live_number}
use Rattle.rules.specs.Outcome.{Outcome, outcome, answer_of, done, refused, passing}
use Rattle.rules.specs.Ask.{ask_step}
use Rattle.rules.specs.GiveBack.{back_step}

-- "with old block size s, if n ≤ s and 4n > 3s the offset is kept and nothing changes"
abbrev pub keeps : ℕ → ℕ → Bool
keeps s n = leb n s && ltb (3 * s) (4 * n)

-- k bytes from `from` on, as they stand, are stored from `to` on
abbrev pub copy : ℕ → ℕ → ℕ → Heap → Heap
copy from to k = on_memory (λ m. sets m to (take k (drop from m)))

module _ (al A P : ℕ) where
  -- "give the old block back", by the heap h after ask and copy: the live test, then the step
  unfoldable pub give_old : Heap → ℕ → Outcome
  give_old h o = passing (live_number al A P h.books h.map o) (λ k. refused k h) (back_step al A P h o)

  -- where the give-back leaves r: "if the ask is done and the give-back would then meet 5 or 6, the answer is 6 with
  -- the new offset, and the ask and copy stand" (02, W-206: it "covers 10 as well"); otherwise the new offset
  abbrev pub half_done : ℕ → Outcome → Outcome
  half_done new r = passing r.answer.number (λ k. outcome (answer_of 6 new) r.heap) (done new r.heap)

  -- "copy the first min(n, s) bytes": k bytes, where the ask left r; an ask that is refused is the resize's answer
  unfoldable pub moved : ℕ → ℕ → Outcome → Outcome
  moved o k r =
      passing r.answer.number (λ number. r)
      (half_done r.answer.offset (give_old (r.heap ▷ copy o r.answer.offset k) o))

  -- "Resize to n": of the live offset o
  unfoldable pub resize_step : Heap → ℕ → ℕ → Outcome
  resize_step h o n =
      if keeps (size_at al A h.books o) n then done o h
      else moved o (min n (size_at al A h.books o)) (ask_step al A P h n)
