-- Who holds what on a sound heap: a live offset is held, and nothing is held where an ask or a moving resize hands a
-- block out; nor does the ask write there.
-- Assumes nothing.
use Rattle.std.specs.Prelude.{◌≡◌, refl, ◌≢◌, true, [], ℕ, ◌≤◌, length}
use Rattle.std.proofs.Common.{ap, arith}
use Rattle.rules.specs.Books.{Heap}
use Rattle.rules.specs.Blocks.{class_of, size_of, live}
use Rattle.rules.specs.Outcome.{Outcome}
use Rattle.rules.specs.View.{part}
use Rattle.rules.specs.Ask.{ask_answer}
use Rattle.rules.specs.Numbers.{ask, resize}
use Rattle.books.specs.Sizes.{Aligned, has_class}
use Rattle.sound.specs.Plain.{Plain, plan_ask as plainAsk}
use Rattle.sound.specs.Sound.{Sound}
use Rattle.laws.specs.Holding.{holding, live_rows, holding_more, holding_none, bytes_new, long_new}
use Rattle.laws.specs.Calls.{dead_some, ask_done, ask_is, ask_cases}
use Rattle.laws.specs.Resized.{resize_moves, resize_cases}

module _ {al A P : ℕ} {h : Heap} {r : Plain} (L : Aligned al) (S : Sound al A P h r) where
  pub live_held : (o : ℕ) → live al A P h.books h.map o ≡ true → holding al A P h o ≢ []
  live_held o e q = absurd (omega (arith, holding_more L S o (live_rows L S o e), ap length q))

  -- where the plain heap's ask hands a block out
  handed_free : (n : ℕ) → 1 ≤ n → (hi : n ≤ 512) → (ask_answer (plainAsk al P r (class_of al n))).number ≡ 0
      → holding al A P h (ask_answer (plainAsk al P r (class_of al n))).offset ≡ []
  handed_free n lo hi z = let D = ask_done L S n lo hi in holding_none L S D.sound D.quiet (has_class L n hi) (D.hand z)

  -- an ask that is done is for a size of a block, and the plain heap's is done
  done_asked : (n : ℕ) → (ask h n).answer.number ≡ 0
      → (1 ≤ n) × (n ≤ 512) × ((ask_answer (plainAsk al P r (class_of al n))).number ≡ 0)
  done_asked n =
      ask_cases L S n (λ (y : Outcome). y.answer.number ≡ 0 → (1 ≤ n) × (n ≤ 512) × ((ask_answer (plainAsk al P r (class_of al n))).number ≡ 0))
      (λ z. absurd (omega arith)) (λ z. absurd (omega arith)) (λ lo hi z _. (lo, hi, z))

  pub ask_free : (n : ℕ) → (ask h n).answer.number ≡ 0 → holding al A P h (ask h n).answer.offset ≡ []
  ask_free n z = let t = done_asked n z in rw (ask_is L S n t.0 t.1) (handed_free n t.0 t.1 t.2)

  -- it writes no byte of the block that it hands out
  pub ask_bytes : (n : ℕ) → (ask h n).answer.number ≡ 0
      → part (ask h n).answer.offset (size_of al (class_of al n)) (ask h n).heap.memory
      ≡ part (ask h n).answer.offset (size_of al (class_of al n)) h.memory
  ask_bytes n z =
      let t = done_asked n z in
      let D = ask_done L S n t.0 t.1 in
      rw (ask_is L S n t.0 t.1) (bytes_new L S D.sound D.quiet (has_class L n t.1) (D.hand t.2))

  -- which is as long as its class says
  pub ask_long : (n : ℕ) → (ask h n).answer.number ≡ 0
      → length (part (ask h n).answer.offset (size_of al (class_of al n)) (ask h n).heap.memory)
      ≡ size_of al (class_of al n)
  ask_long n z =
      let t = done_asked n z in
      let D = ask_done L S n t.0 t.1 in
      rw (ask_is L S n t.0 t.1) (long_new L S D.sound D.quiet (has_class L n t.1) (D.hand t.2))

  pub resize_free : (o n : ℕ) → (resize h o n).answer.number ≡ 0 → (resize h o n).answer.offset ≢ o
      → holding al A P h (resize h o n).answer.offset ≡ []
  resize_free o n =
      resize_cases L S o n (λ (y : Outcome). y.answer.number ≡ 0 → y.answer.offset ≢ o → holding al A P h y.answer.offset ≡ [])
      (λ z. absurd (omega arith)) (λ z. absurd (omega arith)) (λ z. absurd (dead_some al A P h.books o z)) (λ _ d. absurd (d refl))
      (λ lo hi e q z. rw (resize_moves L S o n lo hi e z q) (λ _ _. handed_free n lo hi z))
