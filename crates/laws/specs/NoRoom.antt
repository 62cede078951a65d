-- When an ask finds no room: exactly if every pool holds a live block and every pool of the class is full of them. It
-- finds none exactly with three lists empty, and these hold just the closed arenas, the open ones with a free pool,
-- and the pools of the class with a spare block.
-- Assumes nothing.
use Rattle.std.specs.Prelude.{◌≡◌, refl, ◌≢◌, ◌⊎◌, true, false, not, List, [], ◌∷◌, ℕ, ◌+◌, ◌*◌, ◌/◌, ◌%◌, ◌≤◌, ◌<◌, length}
use Rattle.std.proofs.Math.Path.{sym, ap}
use Rattle.std.proofs.Common.{◌∙◌, inl, inr, true≢false, div-add-mod', mod-lt, arith, ltb-true}
use Rattle.std.proofs.lemmas.Bool.{not-false}
use Rattle.rules.specs.declared.AskPlan.{AskPlan}
use Rattle.rules.specs.declared.AskPlan.TheVariants.{NoRoom}
use Rattle.rules.specs.Books.{Heap, class_head, offset_of}
use Rattle.rules.specs.Blocks.{class_of, size_of, start_of, capacity, live}
use Rattle.rules.specs.Ask.{ask_answer}
use Rattle.rules.specs.Outcome.{Outcome}
use Rattle.rules.specs.Numbers.{ask}
use Rattle.books.specs.Known.{in_range_lem}
use Rattle.books.specs.Sizes.{Aligned, has_class, capacity_high, class_low}
use Rattle.sound.specs.Plain.{Plain, count, in_use, free, plan_ask as plainAsk, after_ask as plainAfterAsk}
use Rattle.sequences.specs.Counting.{Passes, many_has, none_many}
use Rattle.sequences.specs.Sequences.{among}
use Rattle.sound.specs.Chains.{room}
use Rattle.sound.specs.Sound.{Sound}
use Rattle.sound.specs.Held.{held, Says, InClassOf, in_class, home_listed, base_unused, base_usable, arena_low}
use Rattle.sound.specs.Paths.{Hand}
use Rattle.laws.specs.Holding.{holding, live_rows, rows_live, pool_is, block_live, block_pool, holding_more, holding_none}
use Rattle.laws.specs.History.{Full}
use Rattle.laws.specs.Calls.{NoneLeft, DoneOrNot, done_or_not, ask_done, ask_is}

module _ {al A P : ℕ} {h : Heap} {r : Plain} (L : Aligned al)
    (S : Sound al A P h r) (n : ℕ) (low : 1 ≤ n) (high : n ≤ 512) where
  F : Says al A P (held S).view h.memory h.map r
  F = (held S).says

  -- ---- refused with 4, the heap is full
  module _ (none : NoneLeft al P r (class_of al n)) where
    pools_low : 2 ≤ P
    pools_low = (in_range_lem A P S.rule1.range).2

    -- every pool is in use: its arena is open, and has no free pool
    all_used : (p : ℕ) → p < A * P → 1 ≤ count r p
    all_used p l =
        let e : not (in_use r (p / P * P + p % P)) ≡ false =
        none_many (λ i. not (in_use r (p / P * P + i))) P no_free (p % P) (mod-lt p (omega (arith, pools_low))) in
        ltb-true 0 (count r p) (not-false (in_use r p) (rw (div-add-mod' p P) at e))
      where
        la : p / P < A
        la = arena_low A P p pools_low l

        marked : r.mark (p / P) ≢ 0
        marked z = absurd (rw none.unused at (S.rule6.arenas.all 3 (omega arith) (p / P) la (base_unused P r (p / P) z)))

        no_free : free P r (p / P) ≡ 0
        no_free =
            let d : ¬ (1 ≤ free P r (p / P)) =
            (λ q. rw none.usable at (S.rule6.arenas.all 2 (omega arith) (p / P) la (base_usable P r (p / P) marked (omega arith)))) in
            omega arith

    is_full_lem : Full al A P h (class_of al n)
    is_full_lem =
        record {
          held_all = λ p l.
              let t = many_has (r.live p) 512 (all_used p l) in
              let u = block_live L S p t.number l t.yes in
              let o = offset_of p (start_of (size_of al (r.class p)) t.number) in
              record { offset = o; inside = pool_is L S o u ∙ block_pool L S p t.number l t.yes; is_live = rows_live L S o u };
          full_class = λ p l e k u. whole p l (sym (S.classes p l) ∙ e) k u;
        }
      where
        whole : (p : ℕ) → p < A * P → r.class p ≡ class_of al n → (k : ℕ) → k < capacity (size_of al (class_of al n))
            → live al A P h.books h.map (offset_of p (start_of (size_of al (class_of al n)) k)) ≡ true
        whole p l e k u = rw (← e) (rows_live L S (offset_of p (start_of (size_of al (r.class p)) k)) (block_live L S p k l on))
          where
            t : Passes (r.live p) 512
            t = many_has (r.live p) 512 (all_used p l)

            I : InClassOf al (held S).view h.memory r p
            I = in_class L F p t.number l t.yes

            less : count r p < capacity (size_of al (r.class p)) → ⊥
            less z =
                rw none.listed at (S.rule6.listed.all (class_of al n)
                (class_low L (class_of al n) (has_class L n high)) p l (home_listed al P r p (all_used p l) z ∙ ap class_head e))

            rooms : count r p + length (r.chain p) ≡ r.virgin p
            rooms = room I.blocks (omega (arith, capacity_high L (r.class p) I.class_low))

            u' : k < capacity (size_of al (r.class p))
            u' = rw e u

            all_live : capacity (size_of al (r.class p)) ≤ count r p
            all_live = let d : ¬ (count r p < capacity (size_of al (r.class p))) = less in omega arith

            on : r.live p k ≡ true
            on =
                I.blocks.either k (omega (arith, rooms, all_live, I.blocks.fits, u')) ∙ empty (r.chain p) (omega (arith, rooms, all_live, I.blocks.fits))
              where
                empty : (ks : List ℕ) → length ks ≡ 0 → not (among k ks) ≡ true
                empty [] z = refl
                empty (j ∷ js) z = absurd (omega arith)

  -- ---- a full heap refuses
  refuses : Full al A P h (class_of al n) → plainAsk al P r (class_of al n) ≡ NoRoom
  refuses Z = go (done_or_not al P r (class_of al n))
    where
      go : DoneOrNot al P r (class_of al n) → plainAsk al P r (class_of al n) ≡ NoRoom
      go (inr e) = e.plan_is
      go (inl e) = absurd (none H.kind)
        where
          H : Hand al A P r (plainAfterAsk al P r (class_of al n) (plainAsk al P r (class_of al n)))
              (class_of al n) (ask_answer (plainAsk al P r (class_of al n))).offset
          H = (ask_done L S n low high).hand e

          none : (r.class H.pool ≡ class_of al n) ⊎ ((j : ℕ) → r.live H.pool j ≡ false) → ⊥
          none (inl c) =
              let D = ask_done L S n low high in
              let o = offset_of H.pool (start_of (size_of al (class_of al n)) H.block) in
              let e = Z.full_class H.pool H.inside (S.classes H.pool H.inside ∙ c) H.block H.fits in
              let z : holding al A P h o ≡ [] = ap (holding al A P h) (sym H.place) ∙ holding_none L S D.sound D.quiet (has_class L n high) H in
              absurd (omega (arith, holding_more L S o (live_rows L S o e), ap length z))
          none (inr d) =
              let t = Z.held_all H.pool H.inside in
              let u = live_rows L S t.offset t.is_live in
              true≢false (sym u.on ∙ ap (λ (p : ℕ). r.live p u.block) (sym (pool_is L S t.offset u) ∙ t.inside) ∙ d u.block)

  -- ask n is refused with 4 exactly if the heap is full for its class
  pub four_full : (ask h n).answer.number ≡ 4 → Full al A P h (class_of al n)
  unfolding ask_answer
  four_full e = is_full_lem (go (done_or_not al P r (class_of al n)))
    where
      number : (ask_answer (plainAsk al P r (class_of al n))).number ≡ 4
      number = sym (ap (λ (y : Outcome). y.answer.number) (ask_is L S n low high)) ∙ e

      go : DoneOrNot al P r (class_of al n) → NoneLeft al P r (class_of al n)
      go (inl z) = absurd (omega (arith, number))
      go (inr z) = z

  pub full_four : Full al A P h (class_of al n) → (ask h n).answer.number ≡ 4
  unfolding ask_answer
  full_four Z = ap (λ (y : Outcome). y.answer.number) (ask_is L S n low high) ∙ ap (λ (q : AskPlan). (ask_answer q).number) (refuses Z)
