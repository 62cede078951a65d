-- Parts of memory: what lies outside one, their length, when two are equal, and what a text or a byte that is written
-- makes of one.
-- Assumes nothing.
use Rattle.std.specs.Prelude.{◌≡◌, refl, ◌⊎◌, List, [], ◌∷◌, ◌++◌, ℕ, suc, ◌+◌, ◌-◌, ◌≤◌, ◌<◌, length, set, take, drop}
use Rattle.std.proofs.Common.{
  sym,
  ap,
  ◌∙◌,
  inl,
  inr,
  append_assoc,
  arith,
  length-drop,
  ext_get_or,
  get_or-take,
  get_or-drop,
  drop_at,
  take-add,
  drop-drop,
  get_or-set_other,
  length-take-le,
}
use Rattle.std.proofs.lemmas.List.Edits.{sets, sets-eq}
use Rattle.std.proofs.Math.Seq.{take-append-add, take-set-lt}
use Rattle.std.proofs.lemmas.List.{drop-set-add}
use Rattle.rules.specs.Books.{at}
use Rattle.rules.specs.View.{part}

-- byte i lies outside the s bytes from o on
abbrev pub Outside : ℕ → ℕ → ℕ → Type 0
Outside o s i = (i < o) ⊎ (o + s ≤ i)

pub outside_less : {o s t i : ℕ} → t ≤ s → Outside o s i → Outside o t i
outside_less l (inl a) = inl a
outside_less l (inr a) = inr (omega arith)

-- s bytes from o on and t bytes from x on do not meet
abbrev pub Clear : ℕ → ℕ → ℕ → ℕ → Type 0
Clear o s x t = (o + s ≤ x) ⊎ (x + t ≤ o)

pub clear_outside : (o s x t d : ℕ) → Clear o s x t → d < t → Outside o s (x + d)
clear_outside o s x t d (inl a) l = inr (omega arith)
clear_outside o s x t d (inr a) l = inl (omega arith)

-- a part that lies in memory is as long as it says
pub part_long : (m : List ℕ) (o s : ℕ) → o + s ≤ length m → length (part o s m) ≡ s
part_long m o s l = length-take-le s (drop o m) (omega (arith, length-drop o m))

-- two parts are equal where their bytes are
pub part_same : (m m' : List ℕ) (o s : ℕ) → length m' ≡ length m → o + s ≤ length m
    → ((d : ℕ) → d < s → at m' (o + d) ≡ at m (o + d)) → part o s m' ≡ part o s m
part_same m m' o s e l f =
    ext_get_or 0 (part o s m') (part o s m) (part_long m' o s (rw e l) ∙ sym (part_long m o s l))
    (λ i u. let v : i < s = rw (part_long m' o s (rw e l)) at u in
    get_or-take s (drop o m') i 0 v ∙ get_or-drop o m' i 0 ∙ f i v ∙ sym (get_or-take s (drop o m) i 0 v ∙ get_or-drop o m i 0))

-- the bytes of a part after a text, or one byte, is written in it
pub text_part : (m text : List ℕ) (o s : ℕ) → length text ≤ s → o + s ≤ length m
    → part o s (sets m o text) ≡ text ++ drop (length text) (part o s m)
text_part m text o s l f =
    let e : s ≡ length text + (s - length text) = omega arith in
    let g : length (take (length text) (drop o m)) ≡ length text = length-take-le (length text) (drop o m) (omega (arith, length-drop o m)) in
    ap (part o s) (sets-eq text m o (omega arith) ∙ append_assoc (take o m) text (drop (o + length text) m))
    ∙ ap (take s) (drop_at (take o m) (text ++ drop (o + length text) m) o (length-take-le o m (omega arith)))
    ∙ ap (λ (k : ℕ). take k (text ++ drop (o + length text) m)) e
    ∙ take-append-add text (drop (o + length text) m) (s - length text)
    ∙ ap (λ (r : List ℕ). text ++ r)
    (sym (ap (λ (k : ℕ). drop (length text) (take k (drop o m))) e
    ∙ ap (drop (length text)) (take-add (length text) (s - length text) (drop o m))
    ∙ drop_at (take (length text) (drop o m)) (take (s - length text) (drop (length text) (drop o m))) (length text) g
    ∙ ap (take (s - length text)) (drop-drop (length text) o m)))

pub byte_part : (m : List ℕ) (o s d v : ℕ) → d < s → part o s (set m (o + d) v) ≡ set (part o s m) d v
byte_part m o s d v l = ap (take s) (drop-set-add o m d v) ∙ take-set-lt s (drop o m) d v l

-- a text leaves the bytes outside it
pub sets_off : (m : List ℕ) (o : ℕ) (text : List ℕ) (i : ℕ) → Outside o (length text) i → at (sets m o text) i ≡ at m i
sets_off m o [] i f = refl
sets_off m o (v ∷ vs) i f = sets_off (set m o v) (suc o) vs i (later f) ∙ get_or-set_other m o i v 0 (λ e. here f e)
  where
    later : Outside o (suc (length vs)) i → Outside (suc o) (length vs) i
    later (inl a) = inl (omega arith)
    later (inr a) = inr (omega arith)

    here : Outside o (suc (length vs)) i → i ≡ o → ⊥
    here (inl a) e = omega arith
    here (inr a) e = omega arith
