-- A resize that moves a block, whatever the books hold: the bytes that it copies and the place where they go do not
-- meet; and a resize by its parts.
-- Assumes nothing.
use Rattle.std.specs.Prelude.{◌≡◌, refl, List, Bool, true, false, ◌⊎◌, ℕ, zero, suc, ◌+◌, ◌-◌, ◌/◌, ◌%◌, ◌≤◌, ◌<◌, min}
use Rattle.std.proofs.Math.Path.{sym, subst}
use Rattle.std.proofs.Common.{ap, ap₂, ◌∙◌, inl, inr, mul-le-mul_right, suc-mul, mul-add, mul-one, mul-zero, mod-lt, arith}
use Rattle.std.proofs.Math.Nat.{div-add-mod, zero-div, min-le_left, min-le_right}
use Rattle.std.proofs.Math.Decide.{dec_lt, ℕ_discrete}
use Rattle.rules.specs.Books.{Heap, memory_length, is_set, class, pool, offset_of}
use Rattle.rules.specs.Blocks.{class_of, size_of, start_of, block_no, size_at}
use Rattle.rules.specs.declared.AskPlan.{AskPlan}
use Rattle.rules.specs.declared.AskPlan.TheVariants.{NoRoom, Damaged, Follow, Ready, Last, Again, Anew}
use Rattle.rules.specs.Outcome.{Outcome, done, refused}
use Rattle.rules.specs.Ask.{plan_ask, ask_answer, ask_step}
use Rattle.rules.specs.Resize.{keeps, copy, give_old, half_done, moved, resize_step}
use Rattle.books.specs.Known.{LiveBlock}
use Rattle.loops.specs.Copy.{Apart}
use Rattle.books.specs.declared.refusal.Refusal.{Refusal}
use Rattle.books.specs.Passing.{stopped}
use Rattle.books.specs.Refusals.{number_of, number_low}
use Rattle.plans.specs.Fits.{Spare, FitsAsk, fits_ask}

-- ---- sizes
-- a size and the alignment are at most the block size of the size's class
pub class_holds : (al n : ℕ) → 1 ≤ al → (n ≤ size_of al (class_of al n)) × (al ≤ size_of al (class_of al n))
class_holds al n h =
    omega (arith, div-add-mod (n - 1) al, mod-lt (n - 1) {m = al} h, mul-add al (class_of al n) 1, mul-one al)

-- a heap that an offset lies in has pools
some_pools : (A P o : ℕ) → o < memory_length A P → 1 ≤ P
some_pools A zero o l = omega (arith, mul-zero A)
some_pools A (suc P) o l = omega arith

-- ---- two runs of k bytes, at a and at b
module _ (a b k : ℕ) where
  -- in two pools
  pools_apart : (p q f g : ℕ) → a ≡ offset_of p f → b ≡ offset_of q g → (p ≡ q → ⊥) → f + k ≤ 4096 → g + k ≤ 4096
      → Apart a b k
  pools_apart p q f g d e n v w = go (dec_lt p q)
    where
      go : Dec (p < q) → Apart a b k
      go (yes l) = inl (omega arith)
      go (no l) = inr (omega arith)

  -- at two blocks of one size in one pool
  blocks_apart : (p s i j : ℕ) → a ≡ offset_of p (start_of s i) → b ≡ offset_of p (start_of s j) → (i ≡ j → ⊥) → k ≤ s
      → Apart a b k
  blocks_apart p s i j d e n l = go (dec_lt i j)
    where
      go : Dec (i < j) → Apart a b k
      go (yes q) = inl (omega (arith, suc-mul i s, mul-le-mul_right s q))
      go (no q) = let r : suc j ≤ i = omega arith in inr (omega (arith, suc-mul j s, mul-le-mul_right s r))

-- k bytes can be copied from one offset to the other, which is a block's: the two runs do not meet, and both lie in
-- memory
pub record Moves (A P from to k : ℕ) : Type 0 where
  pub low : 48 ≤ to
  pub apart : Apart from to k
  pub old_inside : from + k ≤ memory_length A P
  pub new_inside : to + k ≤ memory_length A P

-- ---- what an ask hands out: a spare block, in a pool of the class, or the first of a pool that is set to it
pub record Handed (A P s c : ℕ) (b m : List ℕ) (o : ℕ) : Type 0 where
  pub p : ℕ
  pub f : ℕ
  pub place : o ≡ offset_of p f
  pub spare : Spare A P s m p f
  pub kind : (pool A b class p ≡ c) ⊎ (f ≡ 48)

handed : (A P s c : ℕ) (b m : List ℕ) (q : AskPlan) → FitsAsk A P s c b m q → (ask_answer q).number ≡ 0
    → Handed A P s c b m (ask_answer q).offset
unfolding ask_answer
handed A P s c b m NoRoom t e = absurd (omega arith)
handed A P s c b m Damaged t e = absurd (omega arith)
handed A P s c b m (Follow p f l) t e = record { p = p; f = f; place = refl; spare = t.0.spare; kind = inl t.0.class }
handed A P s c b m (Ready p f n) t e = record { p = p; f = f; place = refl; spare = t.0.spare; kind = inl t.0.class }
handed A P s c b m (Last p f) t e = record { p = p; f = f; place = refl; spare = t.0.spare; kind = inl t.0.class }
handed A P s c b m (Again a p f l) t e = record { p = p; f = f; place = refl; spare = t.1; kind = inl t.2 }
handed A P s c b m (Anew src p) t e = record { p = p; f = 48; place = refl; spare = t.1; kind = inr refl }

-- ---- the resize of the live block at o to n bytes
module _ (al A P : ℕ) (h : Heap) (o n : ℕ) (low : 8 ≤ al) (old : LiveBlock al A P h.books h.map o) where
  abbrev c : ℕ
  c = class_of al n

  -- the old block: its pool, its place there, its size
  abbrev p₀ : ℕ
  p₀ = o / 4096

  abbrev f₀ : ℕ
  f₀ = o % 4096

  abbrev s₀ : ℕ
  s₀ = size_at al A h.books o

  abbrev k : ℕ
  k = min n s₀

  -- the new block
  module _ (to : ℕ) (g : Handed A P (size_of al c) c h.books h.map to) where
    abbrev s : ℕ
    s = size_of al c

    -- in the old block's pool, at place j by the old block's size, where none is live: so not at the old block's place
    at_place : (j : ℕ) → p₀ ≡ g.p → g.f ≡ start_of s₀ j → is_set h.map g.p j ≡ false → Apart o to k
    at_place j e f t =
        blocks_apart o to k p₀ s₀ (block_no s₀ f₀) j (omega (arith, old.start.place)) (omega (arith, g.place)) differ (min-le_right n s₀)
      where
        differ : block_no s₀ f₀ ≡ j → ⊥
        differ d =
            let z : ◌≡◌ {A = Bool} true false = sym old.set ∙ ap₂ (is_set h.map) e d ∙ t in
            let y : ◌≡◌ {A = ℕ} 0 1 = cc in
            omega arith

    -- a pool of the class has one size for both; in a pool that is set to it, place 0 is place 0 by any size
    in_pool_lem : p₀ ≡ g.p → (pool A h.books class g.p ≡ c) ⊎ (g.f ≡ 48) → Apart o to k
    in_pool_lem e (inl z) =
        let w : s ≡ s₀ = sym (ap (size_of al) (ap (pool A h.books class) e ∙ z)) in
        at_place (block_no s g.f) e (sym g.spare.start.place ∙ ap (λ (x : ℕ). start_of x (block_no s g.f)) w) g.spare.clear
    in_pool_lem e (inr z) =
        at_place 0 e (omega arith) (sym (ap (is_set h.map g.p) (ap (block_no s) z ∙ zero-div s)) ∙ g.spare.clear)

    moves : Moves A P o to k
    moves =
        let a = min-le_right n s₀ in
        let b : k ≤ s = omega (arith, min-le_left n s₀, class_holds al n (omega arith)) in
        record {
          low = omega (arith, g.place, g.spare.start.low);
          apart = go (ℕ_discrete p₀ g.p) a b;
          old_inside = omega (arith, old.ends);
          new_inside = omega (arith, g.spare.start.ends, g.place, g.spare.there);
        }
      where
        go : Dec (p₀ ≡ g.p) → k ≤ s₀ → k ≤ s → Apart o to k
        go (yes e) a b = in_pool_lem e g.kind
        go (no e) a b =
            pools_apart o to k p₀ g.p f₀ g.f (omega arith) g.place e
            (omega (arith, old.start.ends))
            (omega (arith, g.spare.start.ends))

  -- "copy the first min(n, s) bytes": where the ask is done, they can be copied to the block that it hands out
  pub moves_apart : (to : ℕ) (left : Heap) → done to left ≡ ask_step al A P h n → Moves A P o to k
  unfolding ask_step
  moves_apart to left e =
      moves to
      (subst (Handed A P (size_of al c) c h.books h.map) (sym (ap (λ (x : Outcome). x.answer.offset) e))
      (handed A P (size_of al c) c h.books h.map (plan_ask al A P h c)
      (fits_ask al A P h c (omega (arith, class_holds al n (omega arith))) (some_pools A P o old.inside))
      (sym (ap (λ (x : Outcome). x.answer.number) e))))

-- ---- a resize by its test: the offset is kept, or the block moves
module _ (al A P : ℕ) (h : Heap) (o n : ℕ) where
  abbrev size : ℕ
  size = size_at al A h.books o

  pub resize_kept : keeps size n ≡ true → done o h ≡ resize_step al A P h o n
  unfolding resize_step
  resize_kept e = rw e

  -- after an ask that is refused, and after one that is done
  module _ (moves : keeps size n ≡ false) (left : Heap) where
    pub resize_refused : (r : Refusal) → refused (number_of r) left ≡ ask_step al A P h n
        → refused (number_of r) left ≡ resize_step al A P h o n
    unfolding resize_step moved
    resize_refused r asked =
        rw (moves, ← asked)
        (sym (stopped (λ _. refused (number_of r) left) _ (number_of r) (λ z. absurd (omega (arith, number_low r, z)))))

    pub resize_moves : (to : ℕ) → done to left ≡ ask_step al A P h n
        → half_done al A P to (give_old al A P (copy o to (min n size) left) o) ≡ resize_step al A P h o n
    unfolding resize_step moved
    resize_moves to asked = rw (moves, ← asked)
