-- The calls of 01 over a sound heap: the tests of 1 and 2 pass, ask and give back do the plain heap's step, which is
-- never damage, and view shows what is held; and what they leave to be held.
-- Assumes nothing.
use Rattle.std.specs.Prelude.{◌≡◌, ◌≢◌, ◌⊎◌, Bool, ◌&&◌, List, [], ◌∷◌, ℕ, ◌+◌, ◌/◌, ◌≤◌, leb, ltb, eqb, if◌then◌else◌}
use Rattle.std.proofs.Math.Path.{refl}
use Rattle.std.proofs.Common.{◌∙◌, inl, inr, arith}
use Rattle.std.proofs.Math.Bool.{true, false}
use Rattle.std.proofs.Math.Decide.{ℕ_discrete}
use borrow.Author.Tests.{eq-eqb, ne_eqb, le-leb, leb-true}
use Rattle.rules.specs.declared.AskPlan.{AskPlan}
use Rattle.rules.specs.declared.AskPlan.TheVariants.{NoRoom}
use Rattle.rules.specs.declared.BackPlan.{BackPlan}
use Rattle.rules.specs.declared.BackPlan.TheVariants.{Joins, Stays, Empties, Moves, Returns, Releases}
use Rattle.rules.specs.Books.{Heap, arenas, pools, alignment}
use Rattle.rules.specs.Blocks.{
  class_of,
  size_of,
  start_of,
  capacity,
  size_at,
  live,
  is_block,
  dead_number,
  live_number,
}
use Rattle.rules.specs.Outcome.{Outcome, outcome, refused, answer_of, passing}
use Rattle.rules.specs.Ask.{ask_step, ask_answer, after_ask}
use Rattle.rules.specs.GiveBack.{back_step, back_answer, after_back}
use Rattle.rules.specs.View.{part}
use Rattle.rules.specs.Numbers.{
  shape_number,
  size_number,
  in_order,
  offset_tests,
  block_size,
  sized_of,
  ask,
  give_back,
  view,
  view_size,
}
use Rattle.books.specs.Tests.{either}
use Rattle.books.specs.Sizes.{Aligned, has_class}
use Rattle.sequences.specs.Update.{to}
use Rattle.sequences.specs.Rising.{following}
use Rattle.sound.specs.Plain.{
  Plain,
  count,
  free,
  none,
  front,
  rest,
  plan_ask as plainAsk,
  past,
  plan_back as plainBack,
  after_back as plainAfterBack,
  from_listed,
  ask_plain,
  back_plain,
}
use Rattle.sound.specs.Sound.{Sound}
use Rattle.sound.specs.Grounds.{shape_zero}
use Rattle.sound.specs.Paths.{Asked, Backed}
use Rattle.sound.proofs.Emptied.{back_any}
use Rattle.sound.specs.Sources.{ask_any}
use Rattle.laws.specs.Holding.{
  LiveAt,
  live_size,
  live_rows,
  pool_is,
  start_at,
  class_is,
  holding,
  holding_new,
  holding_others,
  holding_gone,
  holding_kept,
  Leaves,
}

-- ---- the live test: 0 lets the call go on, and an offset that is not live gets 5 or 10
module _ (al A P : ℕ) (b : List ℕ) (o : ℕ) where
  pub dead_some : dead_number al A P b o ≢ 0
  dead_some = either (λ (k : ℕ). k ≢ 0) (is_block al A P b o) 10 5 (λ _. omega arith) (λ _. omega arith)

  pub live_test : {X : Type 0} (m : List ℕ) (refusal : ℕ → X) (rest : X)
      → passing (in_order 0 0 (live_number al A P b m o) 0) refusal rest
      ≡ (if live al A P b m o then rest else refusal (dead_number al A P b o))
  unfolding live_number
  live_test {X} m refusal rest = go (live al A P b m o) (is_block al A P b o)
    where
      go : (t u : Bool) → passing (in_order 0 0 (if t then 0 else if u then 10 else 5) 0) refusal rest
          ≡ (if t then rest else refusal (if u then 10 else 5))
      go true u = refl
      go false true = refl
      go false false = refl

-- ---- view hands back what is held
-- of any heap whose shape passes: the tests of a call on an offset come to the live test
module _ (h : Heap) (z : shape_number h ≡ 0) (o : ℕ) where
  by_test : {X : Type 0} (refusal : ℕ → X) (rest : X)
      → passing (offset_tests h o) refusal rest
      ≡ (if live (alignment h) (arenas h) (pools h) h.books h.map o then rest
      else refusal (dead_number (alignment h) (arenas h) (pools h) h.books o))
  by_test refusal rest = rw z (live_test (alignment h) (arenas h) (pools h) h.books o h.map refusal rest)

  pub view_holds : view h o ≡ holding (alignment h) (arenas h) (pools h) h o
  unfolding view holding
  view_holds = by_test (λ k. []) (part o (block_size h o) h.memory)

module _ {al A P : ℕ} {h : Heap} {r : Plain} (S : Sound al A P h r) (o : ℕ) where
  pub by_live : {X : Type 0} (refusal : ℕ → X) (rest : X)
      → passing (offset_tests h o) refusal rest
      ≡ (if live al A P h.books h.map o then rest else refusal (dead_number al A P h.books o))
  by_live refusal rest =
      by_test h (shape_zero S.rule1) o refusal rest ∙ rw (S.rule1.alignment_is, S.rule1.arenas_are, S.rule1.pools_are)

  pub view_is : view h o ≡ holding al A P h o
  view_is = view_holds h (shape_zero S.rule1) o ∙ rw (S.rule1.alignment_is, S.rule1.arenas_are, S.rule1.pools_are)

  pub view_size_is : view_size h o
      ≡ (if live al A P h.books h.map o then sized_of 0 (size_at al A h.books o)
      else sized_of (dead_number al A P h.books o) 0)
  unfolding view_size
  view_size_is = by_live (λ k. sized_of k 0) (sized_of 0 (block_size h o)) ∙ rw (S.rule1.alignment_is, S.rule1.arenas_are)

-- ---- the plain heap's ask is done, or finds no room
-- it finds none only with its three lists empty
pub record NoneLeft (al P : ℕ) (r : Plain) (c : ℕ) : Type 0 where
  pub plan_is : plainAsk al P r c ≡ NoRoom
  pub listed : r.listed c ≡ []
  pub usable : r.usable ≡ []
  pub unused : r.unused ≡ []

abbrev pub DoneOrNot : ℕ → ℕ → Plain → ℕ → Type 0
DoneOrNot al P r c = ((ask_answer (plainAsk al P r c)).number ≡ 0) ⊎ NoneLeft al P r c

pub done_or_not : (al P : ℕ) (r : Plain) (c : ℕ) → DoneOrNot al P r c
unfolding ask_answer
done_or_not al P r c = by_class (r.listed c) refl
  where
    done : (t : Bool) (x y : AskPlan) → (ask_answer x).number ≡ 0 → (ask_answer y).number ≡ 0
        → (ask_answer (if t then x else y)).number ≡ 0
    done t x y e f = either (λ (q : AskPlan). (ask_answer q).number ≡ 0) t x y (λ _. e) (λ _. f)

    by_unused : r.listed c ≡ [] → r.usable ≡ [] → (xs : List ℕ) → r.unused ≡ xs → DoneOrNot al P r c
    by_unused f g [] k = inr (record { plan_is = rw (f, g, k); listed = f; usable = g; unused = k })
    by_unused f g (a ∷ xs) k = inl (rw (f, g, k))

    by_freed : (a : ℕ) (us : List ℕ) → r.listed c ≡ [] → r.usable ≡ a ∷ us → (xs : List ℕ) → r.freed a ≡ xs
        → DoneOrNot al P r c
    by_freed a us f g [] k = inl (rw (f, g, k))
    by_freed a us f g (p ∷ ps) k = inl (rw (f, g, k) (done (eqb (r.class p) c) _ _ refl refl))

    by_usable : r.listed c ≡ [] → (xs : List ℕ) → r.usable ≡ xs → DoneOrNot al P r c
    by_usable f [] g = by_unused f g r.unused refl
    by_usable f (a ∷ us) g = by_freed a us f g (r.freed a) refl

    by_chain : (p k : ℕ) (ks : List ℕ) → (ask_answer (from_listed al P r c p k ks)).number ≡ 0
    by_chain p k (j ∷ js) = refl
    by_chain p k [] = done (ltb (r.virgin p) (capacity (size_of al c))) _ _ refl refl

    by_class : (xs : List ℕ) → r.listed c ≡ xs → DoneOrNot al P r c
    by_class [] f = by_usable f r.usable refl
    by_class (p ∷ ps) f = inl (rw f (by_chain p (front (r.chain p)) (rest (r.chain p))))

-- ---- ask
module _ {al A P : ℕ} {h : Heap} {r : Plain} (L : Aligned al) (S : Sound al A P h r) (n : ℕ) where
  pub ask_size : size_number n ≡ 3 → ask h n ≡ refused 3 h
  unfolding ask
  ask_size e = rw (shape_zero S.rule1, e)

  module _ (low : 1 ≤ n) (high : n ≤ 512) where
    pub ask_done : Asked al A P h r (class_of al n)
    ask_done = ask_any L S (class_of al n) (has_class L n high)

    -- an ask answers number and offset as the plain heap does
    pub ask_is : ask h n
        ≡ outcome (ask_answer (plainAsk al P r (class_of al n)))
        (after_ask al A P (class_of al n) (plainAsk al P r (class_of al n)) h)
    unfolding ask ask_step size_number
    ask_is =
        rw (
          shape_zero S.rule1,
          le-leb 1 n low,
          le-leb n 512 high,
          S.rule1.alignment_is,
          S.rule1.arenas_are,
          S.rule1.pools_are,
          ask_done.plan_is,
        )

    -- an ask that is done adds the block at its offset, with the bytes that stand there
    pub ask_leaves : (ask_answer (plainAsk al P r (class_of al n))).number ≡ 0
        → Leaves al A P h (ask h n).heap (ask_plain al P r n)
        (to (ask h n).answer.offset
        (part (ask h n).answer.offset (size_of al (class_of al n)) (ask h n).heap.memory) (holding al A P h))
    ask_leaves z = rw ask_is (record { sound = ask_done.sound; holds = λ o. go o (ℕ_discrete o new); first = ask_done.quiet.first_bytes })
      where
        new : ℕ
        new = (ask_answer (plainAsk al P r (class_of al n))).offset

        h' : Heap
        h' = after_ask al A P (class_of al n) (plainAsk al P r (class_of al n)) h

        go : (o : ℕ) → Dec (o ≡ new)
            → holding al A P h' o ≡ to new (part new (size_of al (class_of al n)) h'.memory) (holding al A P h) o
        go o (yes q) = rw (eq-eqb o new q, q) (holding_new L S ask_done.sound ask_done.quiet (has_class L n high) (ask_done.hand z))
        go o (no q) = rw (ne_eqb o new q) (holding_others L S ask_done.sound ask_done.quiet (has_class L n high) (ask_done.hand z) o q)

-- the sizes that are refused with 3
pub size_number_lem : (n : ℕ) → ((1 ≤ n) × (n ≤ 512)) ⊎ (size_number n ≡ 3)
unfolding size_number
size_number_lem n = go (leb 1 n) (leb n 512) refl refl
  where
    go : (t u : Bool) → leb 1 n ≡ t → leb n 512 ≡ u → ((1 ≤ n) × (n ≤ 512)) ⊎ (◌≡◌ {A = ℕ} (if t && u then 0 else 3) 3)
    go true true e f = inl (leb-true 1 n e, leb-true n 512 f)
    go true false e f = inr refl
    go false u e f = inr refl

-- what holds of an ask that is refused for its size, of one that finds no room and of one that is done
pub ask_cases : {al A P : ℕ} {h : Heap} {r : Plain} (L : Aligned al) (S : Sound al A P h r) (n : ℕ)
    (F : Outcome → Type 0) → F (refused 3 h) → F (refused 4 h)
    → (1 ≤ n → n ≤ 512 → (ask_answer (plainAsk al P r (class_of al n))).number ≡ 0 → F (ask h n)) → F (ask h n)
unfolding ask_answer after_ask
ask_cases {al} {A} {P} {h} {r} L S n F small none asked = go (size_number_lem n)
  where
    served : 1 ≤ n → n ≤ 512 → DoneOrNot al P r (class_of al n) → F (ask h n)
    served lo hi (inl z) = asked lo hi z
    served lo hi (inr z) = rw (ask_is L S n lo hi, z.plan_is) none

    go : ((1 ≤ n) × (n ≤ 512)) ⊎ (size_number n ≡ 3) → F (ask h n)
    go (inr e) = rw (ask_size L S n e) small
    go (inl t) = served t.0 t.1 (done_or_not al P r (class_of al n))

-- ---- give back
-- what holds of a path and of every move holds where a walk ends
past_any : (P : ℕ) (r : Plain) (n : ℕ) (Q : BackPlan → Type 0) → ((q : ℕ) → Q (Moves q)) → (xs : List ℕ) (q : BackPlan)
    → Q q → Q (past P r n xs q)
past_any P r n Q moves [] q t = t
past_any P r n Q moves (x ∷ xs) q t =
    either Q (ltb (free P r x) n) (past P r n xs (Moves x)) q (λ _. past_any P r n Q moves xs (Moves x) (moves x)) (λ _. t)

-- every path of the plain heap is done, turns the block off, leaves the classes and the virgin blocks, and the marks
-- but for that of an arena that it releases
pub plain_back : (P : ℕ) (r : Plain) (p j o : ℕ)
    → (back_answer o (plainBack P r p j) ≡ answer_of 0 o)
    × ((back_plain P r p j).live ≡ to p (to j false (r.live p)) r.live)
    × ((back_plain P r p j).class ≡ r.class)
    × ((back_plain P r p j).virgin ≡ r.virgin)
    × (((back_plain P r p j).mark ≡ r.mark) ⊎ ((back_plain P r p j).mark ≡ to (p / P) 0 r.mark))
unfolding back_answer
plain_back P r p j o =
    go (none (r.chain p)) (eqb (count r p) 1) (eqb (free P r (p / P) + 1) P) (eqb (free P r (p / P)) 0) _
    (past_any P r (free P r (p / P) + 1) Q (λ q. (refl, refl, refl, refl, inl refl)) (following (p / P) r.usable) Empties
    (refl, refl, refl, refl, inl refl))
  where
    Q : BackPlan → Type 0
    Q q =
        (back_answer o q ≡ answer_of 0 o)
        × ((plainAfterBack P r p j q).live ≡ to p (to j false (r.live p)) r.live)
        × ((plainAfterBack P r p j q).class ≡ r.class)
        × ((plainAfterBack P r p j q).virgin ≡ r.virgin)
        × (((plainAfterBack P r p j q).mark ≡ r.mark) ⊎ ((plainAfterBack P r p j q).mark ≡ to (p / P) 0 r.mark))

    go : (t u v w : Bool) (q : BackPlan) → Q q
        → Q (if t then Joins else (if u then (if v then Releases else (if w then Returns else q)) else Stays))
    go true u v w q e = (refl, refl, refl, refl, inl refl)
    go false false v w q e = (refl, refl, refl, refl, inl refl)
    go false true true w q e = (refl, refl, refl, refl, inr refl)
    go false true false true q e = (refl, refl, refl, refl, inl refl)
    go false true false false q e = e

module _ {al A P : ℕ} {h : Heap} {r : Plain} (L : Aligned al) (S : Sound al A P h r) (o : ℕ) where
  pub back_dead : live al A P h.books h.map o ≡ false
      → give_back h o ≡ refused (dead_number al A P h.books o) h
  unfolding give_back
  back_dead e = by_live S o (λ k. refused k h) _ ∙ rw e

  module _ (e : live al A P h.books h.map o ≡ true) where
    pub block_of : LiveAt al A P r o
    block_of = live_rows L S o e

    back_done : Backed al A P h r block_of.pool block_of.block
    back_done = back_any L S block_of.pool block_of.block block_of.inside block_of.on

    -- what it leaves
    abbrev back_heap : Heap
    back_heap =
        after_back al A P (r.class block_of.pool) block_of.pool
        (start_of (live_size block_of) block_of.block) (plainBack P r block_of.pool block_of.block) h

    pub back_is : give_back h o ≡ outcome (answer_of 0 o) back_heap
    unfolding give_back back_step live_number
    back_is =
        rw (
          shape_zero S.rule1,
          S.rule1.alignment_is,
          S.rule1.arenas_are,
          S.rule1.pools_are,
          e,
          class_is L S o block_of,
          pool_is L S o block_of,
          start_at L S o block_of,
          back_done.plan_is,
          (plain_back P r block_of.pool block_of.block o).0,
        )

    -- a give-back takes the block at its offset away
    pub back_leaves : Leaves al A P h (give_back h o).heap
        (back_plain P r block_of.pool block_of.block) (to o [] (holding al A P h))
    back_leaves = rw back_is (record { sound = back_done.sound; holds = λ x. go x (ℕ_discrete x o); first = back_done.quiet.first_bytes })
      where
        go : (x : ℕ) → Dec (x ≡ o) → holding al A P back_heap x ≡ to o [] (holding al A P h) x
        go x (yes q) =
            let z = plain_back P r block_of.pool block_of.block o in
            rw (eq-eqb x o q, q) (holding_gone L S back_done.sound back_done.quiet o block_of z.2 z.1)
        go x (no q) =
            let z = plain_back P r block_of.pool block_of.block o in
            rw (ne_eqb x o q) (holding_kept L S back_done.sound back_done.quiet o block_of z.2 z.1 x q)
