-- The usable list as it is met in the books of a sound heap: it is the plain heap's, so it rises by free pools, has
-- each arena once, and has just the open arenas with free pools.
-- Assumes nothing.
use Rattle.std.specs.Prelude.{◌≡◌, refl, List, [], ◌∷◌, ℕ, zero, suc, ◌-◌, ◌≤◌, ◌<◌, length}
use Rattle.std.proofs.Common.{sym, ap, ◌∙◌, arith, ne_eqb}
use Rattle.std.proofs.Math.Dec.{eqb-suc-zero}
use Rattle.rules.specs.Books.{Heap, usable_head, free_pools, arena}
use Rattle.books.specs.Sizes.{Aligned}
use Rattle.sequences.specs.Sequences.{In, Once, Seg, once_short, all_map, all_in}
use Rattle.sequences.specs.Rising.{Rising, rising_same}
use Rattle.sequences.specs.Families.{At}
use Rattle.sound.specs.Plain.{Plain, free}
use Rattle.sound.specs.Sound.{Sound}
use Rattle.sound.specs.Held.{held, open_mark, open_word_lem, usable_word, usable_row, usable_members, usable_in}
use Rattle.laws.specs.History.{met, usable_list, Usable}

-- what is linked from k on is met, if so many are
met_is : (next prev : ℕ → ℕ) (more : ℕ) (xs : List ℕ) → length xs ≤ more → (k p : ℕ) → Seg next prev k p xs
    → met more next k ≡ xs
met_is next prev zero [] l k p s = refl
met_is next prev (suc more) [] l k p s = rw s
met_is next prev zero (x ∷ xs) l k p s = absurd (omega arith)
met_is next prev (suc more) (x ∷ xs) l k p s =
    let link : suc x - 1 ≡ x = omega arith in
    rw (s.0, eqb-suc-zero x, link) (ap (λ (ys : List ℕ). x ∷ ys) (met_is next prev more xs (omega arith) (next x) (suc x) s.1.1))

module _ {al A P : ℕ} {h : Heap} {r : Plain} (L : Aligned al) (S : Sound al A P h r) where
  open held S use {view as U, books as K, says as F}

  list_is : usable_list h ≡ r.usable
  list_is =
      rw S.rule1.arenas_are
      (met_is _ _ A r.usable
      (once_short A r.usable (all_map {R = λ y. y < A} (λ y (t : At A U.base usable_head y). t.low) r.usable (usable_members L K F))
      (usable_row L K F).row.once) _ 0 (usable_row L K F).row.walk)

  pub list_rises : Rising (λ a. arena h.books free_pools a) (usable_list h)
  list_rises =
      rw list_is
      (rising_same (free P r) (λ a. arena h.books free_pools a) r.usable
      (all_map {R = λ y. arena h.books free_pools y ≡ free P r y}
      (λ y (t : At A U.base usable_head y). (usable_word L K F y t).2) r.usable (usable_members L K F)) S.rule9)

  pub list_once : Once (usable_list h)
  list_once = rw list_is (usable_row L K F).row.once

  pub list_usable : (a : ℕ) → In a (usable_list h) → Usable h a
  list_usable a i =
      let t = all_in (At A U.base usable_head) a r.usable (usable_members L K F) (rw list_is at i) in
      let w = usable_word L K F a t in
      (rw S.rule1.arenas_are t.low, open_word_lem L K F a t.low ∙ rw (ne_eqb (r.mark a) 0 w.0), λ z. w.1 (sym w.2 ∙ z))

  pub usable_listed : (a : ℕ) → Usable h a → In a (usable_list h)
  usable_listed a u =
      let l : a < A = rw S.rule1.arenas_are at u.0 in
      let d = open_mark (r.mark a) (sym (open_word_lem L K F a l) ∙ u.1) in
      rw list_is (usable_in L K F a l d (λ z. u.2 ((S.rule4 a l u.1).free_pools_lem ∙ z)))
