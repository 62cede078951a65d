-- Every list is the table of its own elements: what a computed table needs of buffers that are not written out.
-- Assumes nothing.
use Rattle.std.specs.Prelude.{◌≡◌, refl, List, [], ◌∷◌, ℕ, zero, suc, ◌+◌, length, get_or}
use Rattle.std.proofs.Common.{sym, ap, ◌∙◌, subst, suc-add, add-zero, add-suc, zero-add}

-- n elements, the first being f i; each tail waits until it is read
abbrev pub tab : ℕ → ℕ → (ℕ → ℕ) → List ℕ
tab zero i f = []
tab (suc n) i f = let x = f i in let t = tab n (suc i) f in x ∷ t

tab_eq : (xs : List ℕ) (i : ℕ) (f : ℕ → ℕ) → ((k : ℕ) → f (i + k) ≡ get_or xs k 0)
    → tab (length xs) i f ≡ xs
tab_eq [] i f e = refl
tab_eq (x ∷ xs) i f e =
    ap {B = List ℕ} (λ y. y ∷ tab (length xs) (suc i) f) (sym (ap f (add-zero i)) ∙ e 0)
    ∙ ap {B = List ℕ} (λ r. x ∷ r)
    (tab_eq xs (suc i) f (λ k. ap f (suc-add i k ∙ sym (add-suc i k)) ∙ e (suc k)))

-- what holds of every table of n elements holds of every list of n elements
pub each : (Q : List ℕ → Type 0) (n : ℕ) → ((f : ℕ → ℕ) → Q (tab n 0 f))
    → (xs : List ℕ) → length xs ≡ n → Q xs
each Q n q xs e =
    subst Q
    (sym (ap (λ (m : ℕ). tab m 0 (λ k. get_or xs k 0)) e)
    ∙ tab_eq xs 0 (λ k. get_or xs k 0) (λ k. ap (λ (j : ℕ). get_or xs j 0) (zero-add k)))
    (q (λ k. get_or xs k 0))

-- the same of three lists at once
pub each_three : (Q : List ℕ → List ℕ → List ℕ → Type 0) (i j n : ℕ)
    → ((f g h : ℕ → ℕ) → Q (tab i 0 f) (tab j 0 g) (tab n 0 h))
    → (xs ys zs : List ℕ) → length xs ≡ i → length ys ≡ j → length zs ≡ n → Q xs ys zs
each_three Q i j n q xs ys zs ex ey ez =
    each (λ x. Q x ys zs) i
    (λ f. each (λ y. Q (tab i 0 f) y zs) j
    (λ g. each (λ z. Q (tab i 0 f) (tab j 0 g) z) n (λ h. q f g h) zs ez)
    ys ey)
    xs ex
