-- Resize over a sound heap: it answers as the plain heap does, and what it leaves holds what the plain heap leaves.
-- It is an ask, a copy into the block handed out, which keeps the plain heap, and a give-back of the old block, which
-- is still the block that it was.
-- Assumes nothing.
use Rattle.std.specs.Prelude.{◌≡◌, ◌≢◌, ◌⊎◌, Bool, true, false, List, [], ◌++◌, ℕ, ◌+◌, ◌≤◌, min, length, take, drop}
use Rattle.std.proofs.Math.Path.{refl, ap}
use Rattle.std.proofs.Common.{sym, ap₂, ◌∙◌, subst, inl, inr, arith, length-drop, length-take-le, take-take}
use Rattle.std.proofs.Math.Nat.{min-le_left, min-le_right}
use Rattle.std.proofs.Math.Decide.{ℕ_discrete}
use Rattle.std.proofs.lemmas.List.Edits.{sets}
use Rattle.std.proofs.Math.Seq.{length-sets}
use borrow.Author.Tests.{eq-eqb, ne_eqb, le-leb}
use Rattle.rules.specs.declared.AskPlan.TheVariants.{NoRoom}
use Rattle.rules.specs.Books.{Heap}
use Rattle.rules.specs.Blocks.{class_of, size_of, live, dead_number, live_number, size_at}
use Rattle.rules.specs.Outcome.{Outcome, heap_of, refused, done, answer_of}
use Rattle.rules.specs.Ask.{ask_answer, after_ask, ask_step}
use Rattle.rules.specs.Resize.{keeps, give_old, moved, resize_step}
use Rattle.rules.specs.View.{part}
use Rattle.rules.specs.Numbers.{give_back, resize, size_number}
use Rattle.books.specs.Sizes.{Aligned, has_class, class_fits}
use Rattle.sequences.specs.Update.{to, to_cong}
use Rattle.sound.specs.Plain.{Plain, plan_ask as plainAsk, ask_plain, back_plain, resize_plain, resize_answer}
use Rattle.sound.specs.Sound.{Sound}
use Rattle.sound.specs.Grounds.{shape_zero}
use Rattle.sound.specs.Paths.{Hand, Asked}
use Rattle.sound.specs.Bytes.{outside_less, sets_off, text_part}
use Rattle.laws.specs.Holding.{
  LiveAt,
  live_size,
  holding,
  live_rows,
  class_is,
  rows_live,
  in_memory,
  one_pool,
  one_block,
  at_block,
  at_class_lem,
  holding_live,
  holding_long,
  holding_more,
  holding_some,
  holding_none,
  holding_others,
  Leaves,
}
use Rattle.laws.specs.Calls.{live_test, DoneOrNot, done_or_not, ask_done, size_number_lem, block_of, back_is, back_leaves}
use Rattle.laws.specs.Written.{written_leaves}
use Rattle.laws.specs.History.{carried}

module _ {al A P : ℕ} {h : Heap} {r : Plain} (L : Aligned al) (S : Sound al A P h r) (o n : ℕ) where
  pub resize_size : size_number n ≡ 3 → resize h o n ≡ refused 3 h
  unfolding resize
  resize_size e = rw (shape_zero S.rule1, e)

  module _ (lo : 1 ≤ n) (hi : n ≤ 512) where
    pub resize_dead : live al A P h.books h.map o ≡ false
        → resize h o n ≡ refused (dead_number al A P h.books o) h
    unfolding resize size_number
    resize_dead e =
        rw (shape_zero S.rule1, le-leb 1 n lo, le-leb n 512 hi, S.rule1.alignment_is, S.rule1.arenas_are, S.rule1.pools_are)
        (live_test al A P h.books o h.map (λ k. refused k h) _ ∙ rw e)

    module _ (e : live al A P h.books h.map o ≡ true) where
      abbrev pub t : LiveAt al A P r o
      t = block_of L S o e

      D : Asked al A P h r (class_of al n)
      D = ask_done L S n lo hi

      size_is : size_at al A h.books o ≡ live_size t
      size_is = ap (size_of al) (class_is L S o t)

      pub resize_keeps_lem : keeps (live_size t) n ≡ true → resize h o n ≡ done o h
      unfolding resize resize_step size_number live_number
      resize_keeps_lem q =
          rw (
            shape_zero S.rule1,
            le-leb 1 n lo,
            le-leb n 512 hi,
            S.rule1.alignment_is,
            S.rule1.arenas_are,
            S.rule1.pools_are,
            e,
            size_is,
            q,
          )

      pub resize_none : keeps (live_size t) n ≡ false → plainAsk al P r (class_of al n) ≡ NoRoom
          → resize h o n ≡ refused 4 h
      unfolding resize resize_step moved ask_step ask_answer after_ask size_number live_number
      resize_none q z =
          rw (
            shape_zero S.rule1,
            le-leb 1 n lo,
            le-leb n 512 hi,
            S.rule1.alignment_is,
            S.rule1.arenas_are,
            S.rule1.pools_are,
            e,
            size_is,
            q,
            D.plan_is,
            z,
          )

      -- ---- the ask is done
      module _ (z : (ask_answer (plainAsk al P r (class_of al n))).number ≡ 0) where
        abbrev pub new : ℕ
        new = (ask_answer (plainAsk al P r (class_of al n))).offset

        abbrev pub asked : Heap
        asked = after_ask al A P (class_of al n) (plainAsk al P r (class_of al n)) h

        H : Hand al A P r (ask_plain al P r n) (class_of al n) new
        H = D.hand z

        -- the block handed out is another one, and the old block is what it was
        pub differ : o ≢ new
        differ q =
            absurd (omega (arith, holding_more L S o t, ap length (ap (holding al A P h) q ∙ holding_none L S D.sound D.quiet (has_class L n hi) H)))

        old_stays : holding al A P asked o ≡ holding al A P h o
        old_stays = holding_others L S D.sound D.quiet (has_class L n hi) H o differ

        u : LiveAt al A P (ask_plain al P r n) o
        u = live_rows L D.sound o (holding_some al A P asked o (λ q. absurd (omega (arith, holding_more L S o t, ap length (sym old_stays ∙ q)))))

        same_size : live_size u ≡ live_size t
        same_size = sym (holding_long L D.sound o u) ∙ ap length old_stays ∙ holding_long L S o t

        -- ---- the copy goes into the new block
        new_at : LiveAt al A P (ask_plain al P r n) new
        new_at = at_block L S D.sound D.quiet (has_class L n hi) H

        new_size : live_size new_at ≡ size_of al (class_of al n)
        unfolding new_at
        new_size = ap (size_of al) (at_class_lem L S D.sound D.quiet (has_class L n hi) H)

        abbrev pub text : List ℕ
        text = take (min n (size_at al A h.books o)) (drop o asked.memory)

        text_long : length text ≡ min n (size_at al A h.books o)
        text_long =
            length-take-le (min n (size_at al A h.books o)) (drop o asked.memory)
            (omega (arith, length-drop o asked.memory, in_memory L D.sound o u, same_size, size_is, min-le_right n (size_at al A h.books o)))

        abbrev pub copied : Heap
        copied = heap_of (sets asked.memory new text) asked.books asked.map

        text_fits : length text ≤ live_size new_at
        text_fits = omega (arith, text_long, new_size, min-le_left n (size_at al A h.books o), class_fits L n)

        copy : Leaves al A P asked copied (ask_plain al P r n)
            (to new (part new (live_size new_at) copied.memory) (holding al A P asked))
        copy =
            written_leaves L D.sound new new_at copied.memory (length-sets asked.memory new text)
            (λ i f. sets_off asked.memory new text i (outside_less text_fits f))

        pub copied_sound : Sound al A P copied (ask_plain al P r n)
        copied_sound = copy.sound

        -- ---- the old block is given back
        pub still_live : live al A P copied.books copied.map o ≡ true
        still_live = rows_live L copied_sound o u

        given : (give_back copied o).answer.number ≡ 0
        given = ap (λ (y : Outcome). y.answer.number) (back_is L copied_sound o still_live)

        give_old_is : give_old al A P copied o ≡ give_back copied o
        unfolding give_old give_back live_number
        give_old_is =
            let shape = D.sound.rule1 in
            rw (shape_zero copied_sound.rule1, shape.alignment_is, shape.arenas_are, shape.pools_are, still_live)

        pub resize_moves : keeps (live_size t) n ≡ false → resize h o n ≡ done new (give_back copied o).heap
        unfolding resize resize_step moved ask_step size_number live_number
        resize_moves q =
            rw (
              shape_zero S.rule1,
              le-leb 1 n lo,
              le-leb n 512 hi,
              S.rule1.alignment_is,
              S.rule1.arenas_are,
              S.rule1.pools_are,
              e,
              size_is,
              q,
              D.plan_is,
              z,
              ← size_is,
              give_old_is,
              given,
            )

        moved_sound : Sound al A P (give_back copied o).heap (back_plain P (ask_plain al P r n) t.pool t.block)
        moved_sound =
            subst (λ (x : Plain). Sound al A P (give_back copied o).heap x) (ap₂ (back_plain P (ask_plain al P r n)) same_pool same_block)
            (back_leaves L copied_sound o still_live).sound
          where
            v : LiveAt al A P (ask_plain al P r n) o
            v = block_of L copied_sound o still_live

            same_pool : v.pool ≡ t.pool
            same_pool = one_pool L S copied_sound o t v

            same_block : v.block ≡ t.block
            same_block =
                one_block L S copied_sound o t v (ap (λ (p : ℕ). size_of al ((ask_plain al P r n).class p)) (one_pool L D.sound copied_sound o u v) ∙ same_size)

        -- ---- what is held then: the copied bytes are the old block's, and the block at o is gone
        abbrev size : ℕ
        size = size_of al (class_of al n)

        abbrev k : ℕ
        k = min n (size_at al A h.books o)

        copied_holds : (y : ℕ) → holding al A P copied y ≡ to new (part new size copied.memory) (holding al A P h) y
        copied_holds y =
            copy.holds y
            ∙ ap (λ (s : ℕ). to new (part new s copied.memory) (holding al A P asked) y) new_size
            ∙ go (ℕ_discrete y new)
          where
            go : Dec (y ≡ new)
                → to new (part new size copied.memory) (holding al A P asked) y
                ≡ to new (part new size copied.memory) (holding al A P h) y
            go (yes q) = rw (eq-eqb y new q)
            go (no q) = rw (ne_eqb y new q) (holding_others L S D.sound D.quiet (has_class L n hi) H y q)

        moved_holds : (y : ℕ) → holding al A P (give_back copied o).heap y
            ≡ to o [] (to new (part new size copied.memory) (holding al A P h)) y
        moved_holds y =
            (back_leaves L copied_sound o still_live).holds y
            ∙ to_cong o (holding al A P copied) (to new (part new size copied.memory) (holding al A P h)) refl y (copied_holds y)

        new_fits : new + size ≤ length asked.memory
        new_fits = rw (← new_size) (in_memory L D.sound new new_at)

        text_is : text ≡ take k (holding al A P h o)
        text_is =
            sym (take-take k (live_size u) (drop o asked.memory) (omega (arith, same_size, size_is, min-le_right n (size_at al A h.books o))))
            ∙ ap (take k) (sym (holding_live L D.sound o u) ∙ old_stays)

        new_bytes : part new size copied.memory
            ≡ take k (holding al A P h o) ++ drop k (part new size asked.memory)
        new_bytes =
            text_part asked.memory text new size (omega (arith, text_fits, new_size)) new_fits
            ∙ ap₂ (λ (b : List ℕ) (i : ℕ). b ++ drop i (part new size asked.memory)) text_is text_long

        -- a moving resize carries the first bytes of the old block over to the new one
        pub moved_leaves : Leaves al A P h (give_back copied o).heap
            (back_plain P (ask_plain al P r n) t.pool t.block)
            (carried size n o new asked.memory (holding al A P h))
        moved_leaves =
            record {
              sound = moved_sound;
              holds = λ y. moved_holds y ∙ go y (ℕ_discrete y new) (ℕ_discrete y o);
              first = λ i l.
                  (back_leaves L copied_sound o still_live).first i l
                  ∙ copy.first i l
                  ∙ D.quiet.first_bytes i l;
            }
          where
            length_is : k ≡ min n (length (holding al A P h o))
            length_is = ap (min n) (size_is ∙ sym (holding_long L S o t))

            go : (y : ℕ) → Dec (y ≡ new) → Dec (y ≡ o)
                → to o [] (to new (part new size copied.memory) (holding al A P h)) y
                ≡ carried size n o new asked.memory (holding al A P h) y
            go y (yes q) d = rw (ne_eqb y o (λ v. differ (sym v ∙ q)), eq-eqb y new q, ← length_is) new_bytes
            go y (no q) (yes d) = rw (ne_eqb y new q, eq-eqb y o d)
            go y (no q) (no d) = rw (ne_eqb y new q, ne_eqb y o d)

    -- ---- the whole call: number and offset are the plain heap's, and the heap after it holds the plain heap after it
    pub resize_done : (e : live al A P h.books h.map o ≡ true)
        → ((resize h o n).answer ≡ resize_answer al P r o (t e).pool n)
        × Sound al A P (resize h o n).heap (resize_plain al P r (t e).pool (t e).block n)
    unfolding ask_answer
    resize_done e = by_keep (keeps (live_size (t e)) n) refl
      where
        Q : Outcome → Type 0
        Q y = (y.answer ≡ resize_answer al P r o (t e).pool n) × Sound al A P y.heap (resize_plain al P r (t e).pool (t e).block n)

        by_room : keeps (live_size (t e)) n ≡ false → DoneOrNot al P r (class_of al n) → Q (resize h o n)
        by_room q (inl z) = rw (resize_moves e z q, q, z) (ap (λ (k : ℕ). answer_of k (new e z)) (sym z), moved_sound e z)
        by_room q (inr z) = rw (resize_none e q z.plan_is, q, z.plan_is) (refl, S)

        by_keep : (b : Bool) → keeps (live_size (t e)) n ≡ b → Q (resize h o n)
        by_keep true q = rw (resize_keeps_lem e q, q) (refl, S)
        by_keep false q = by_room q (done_or_not al P r (class_of al n))

-- what holds of a resize that is refused for its size, for room, or because its offset is not live; of one that keeps
-- the block, and of one that moves it
pub resize_cases : {al A P : ℕ} {h : Heap} {r : Plain} (L : Aligned al) (S : Sound al A P h r) (o n : ℕ)
    (F : Outcome → Type 0) → F (refused 3 h) → F (refused 4 h)
    → F (refused (dead_number al A P h.books o) h) → F (done o h)
    → ((lo : 1 ≤ n) (hi : n ≤ 512) (e : live al A P h.books h.map o ≡ true)
    → keeps (live_size (block_of L S o e)) n ≡ false → (ask_answer (plainAsk al P r (class_of al n))).number ≡ 0
    → F (resize h o n))
    → F (resize h o n)
resize_cases {al} {A} {P} {h} {r} L S o n F small none dead kept moves = by_size (size_number_lem n)
  where
    by_room : (lo : 1 ≤ n) (hi : n ≤ 512) (e : live al A P h.books h.map o ≡ true)
        → keeps (live_size (block_of L S o e)) n ≡ false → DoneOrNot al P r (class_of al n) → F (resize h o n)
    by_room lo hi e q (inl z) = moves lo hi e q z
    by_room lo hi e q (inr z) = rw (resize_none L S o n lo hi e q z.plan_is) none

    by_keep : (lo : 1 ≤ n) (hi : n ≤ 512) (e : live al A P h.books h.map o ≡ true) (b : Bool)
        → keeps (live_size (block_of L S o e)) n ≡ b → F (resize h o n)
    by_keep lo hi e true q = rw (resize_keeps_lem L S o n lo hi e q) kept
    by_keep lo hi e false q = by_room lo hi e q (done_or_not al P r (class_of al n))

    by_live : (lo : 1 ≤ n) (hi : n ≤ 512) (b : Bool) → live al A P h.books h.map o ≡ b → F (resize h o n)
    by_live lo hi false e = rw (resize_dead L S o n lo hi e) dead
    by_live lo hi true e = by_keep lo hi e (keeps (live_size (block_of L S o e)) n) refl

    by_size : ((1 ≤ n) × (n ≤ 512)) ⊎ (size_number n ≡ 3) → F (resize h o n)
    by_size (inr e) = rw (resize_size L S o n e) small
    by_size (inl t) = by_live t.0 t.1 (live al A P h.books h.map o) refl
