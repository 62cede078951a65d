-- Entries that are noted: stored in the list from a place on, where they fit, or only counted. A loop notes a part at
-- each turn.
-- Assumes nothing.
use Rattle.std.specs.Prelude.{◌≡◌, refl, List, [], ◌++◌, ℕ, ◌+◌, ◌≤◌, ◌<◌, length}
use Rattle.std.proofs.Common.{sym, ap, ap₂, ◌∙◌, arith, length-append}
use Rattle.std.proofs.lemmas.List.Edits.{sets}
use Rattle.loops.specs.Sets.{sets_append}

-- where `all` fits the list x₀ from place `at` on, x is x₀ with it stored there; j is the place after it
pub record Noted (x₀ : List ℕ) (at : ℕ) (all x : List ℕ) (j : ℕ) : Type 0 where
  pub stored : at + length all ≤ length x₀ → x ≡ sets x₀ at all
  pub place : j ≡ at + length all

-- x is on the way there: `left` is still to be noted, from place j on
pub record Noting (x₀ : List ℕ) (at : ℕ) (all x : List ℕ) (j : ℕ) (left : List ℕ) : Type 0 where
  pub stored : at + length all ≤ length x₀ → sets x j left ≡ sets x₀ at all
  pub place : j + length left ≡ at + length all
  pub long : length x ≡ length x₀

-- nothing is noted yet
pub unnoted : (x : List ℕ) (at : ℕ) (all : List ℕ) → Noting x at all x at all
unnoted x at all = record { stored = λ _. refl; place = refl; long = refl }

module _ {x₀ all x left : List ℕ} {at j : ℕ} (n : Noting x₀ at all x j left) where
  -- a part of what is left is noted
  pub note : {part rest y : List ℕ} {k : ℕ} → left ≡ part ++ rest → length y ≡ length x → Noted x j part y k
      → Noting x₀ at all y k rest
  note {part} {rest} {y} {k} e long s = record {
    stored = λ h.
        ap₂ (λ (z : List ℕ) (p : ℕ). sets z p rest) (s.stored (omega (arith, h, n.place, n.long, split))) s.place
        ∙ sym (sets_append x j part rest) ∙ ap (sets x j) (sym e) ∙ n.stored h;
    place = omega (arith, split, n.place, s.place);
    long = long ∙ n.long;
  }
    where
      split : length left ≡ length part + length rest
      split = ap length e ∙ length-append part rest

  -- nothing is left, so all is noted
  pub finish : left ≡ [] → Noted x₀ at all x j
  finish e = record {
    stored = λ h. sym (ap (sets x j) e) ∙ n.stored h;
    place = omega (arith, ap length e, n.place);
  }

  -- the place after a part of what is left is small
  pub small : (part rest : List ℕ) (k : ℕ) → at + length all < k → left ≡ part ++ rest → j + length part < k
  small part rest k r e = omega (arith, r, ap length e, length-append part rest, n.place)
