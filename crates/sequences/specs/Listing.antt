-- The laws of a listing: what is held at each number, 0 where nothing is, as a list by rising number. And of one where
-- only every s-th number can hold something, as in a pool, whose blocks start s bytes apart.
-- Assumes nothing.
use Rattle.std.specs.Prelude.{◌≡◌, refl, ◌≢◌, ◌↔◌, Bool, true, false, not, eqb, length, if◌then◌else◌}
use Rattle.std.proofs.Common.{
  sym,
  ◌∙◌,
  subst,
  add-zero,
  mul-le-mul_right,
  div-mul-le_self,
  div-lt_iff_lt-mul,
  mod-eq_of_lt,
  length-append,
  get_or-append-add,
  eq-eqb,
  ne_eqb,
}
use Rattle.std.proofs.Math.Path.{ap, ap₂}
use Rattle.std.proofs.Math.Bool.{and-false}
use mathlib.Core.List.{List, [], ◌∷◌, ◌++◌, append_assoc, append-nil}
use Prim.Native.Nat.{ℕ, zero, suc, ◌+◌, ◌*◌, ◌-◌, ◌/◌, ◌%◌, ◌≤◌, ◌<◌}
use Rattle.std.proofs.Math.Nat.{suc-mul, add-mul-mod_self_right}
use Rattle.std.proofs.Math.Decide.{ℕ_discrete}
use native.Mathlib.Omega.{arith}
use Rattle.std.proofs.Math.Seq.{get_or-append_seam}
use Rattle.std.proofs.lemmas.Bool.{lt-leb}
use Rattle.rules.specs.Say.{how_many, listing}
use Rattle.rules.specs.Books.{at}
use Rattle.rules.specs.Blocks.{last_start, is_start, capacity}
use Rattle.sequences.specs.Counting.{many_rises}

-- how many of the numbers below o hold something
abbrev pub held_below : (ℕ → ℕ) → ℕ → ℕ
held_below g o = how_many (λ x. not (eqb (g x) 0)) o

-- what is listed of one number
abbrev pub entry : (ℕ → ℕ) → ℕ → List ℕ
entry g o = if eqb (g o) 0 then [] else (o ∷ g o ∷ [])

pub entry_none : (g : ℕ → ℕ) (o : ℕ) → g o ≡ 0 → entry g o ≡ []
entry_none g o e = rw (eq-eqb (g o) 0 e)

-- the same is listed where the same is held
pub listing_alike : (f g : ℕ → ℕ) (o n : ℕ) → ((i : ℕ) → i < n → f (o + i) ≡ g (o + i)) → listing f o n ≡ listing g o n
unfolding listing
listing_alike f g o zero e = refl
listing_alike f g o (suc n) e =
    let z : f o ≡ g o = (let q : o + 0 ≡ o = omega arith in rw q at (e 0 (omega arith))) in
    rw (z, listing_alike f g (suc o) n (λ i l. let q : o + suc i ≡ suc o + i = omega arith in rw q at (e (suc i) (omega arith))))

pub listing_same : (f g : ℕ → ℕ) → ((o : ℕ) → f o ≡ g o) → (o n : ℕ) → listing f o n ≡ listing g o n
listing_same f g e o n = listing_alike f g o n (λ i l. e (o + i))

-- nothing is listed where nothing is held
pub listing_none : (g : ℕ → ℕ) (o n : ℕ) → ((i : ℕ) → i < n → g (o + i) ≡ 0) → listing g o n ≡ []
unfolding listing
listing_none g o zero e = refl
listing_none g o (suc n) e =
    let z : g o ≡ 0 = ap g (sym (add-zero o)) ∙ e 0 (omega arith) in
    rw z (listing_none g (suc o) n (λ i l. let q : suc o + i ≡ o + suc i = omega arith in ap g q ∙ e (suc i) (omega arith)))

-- the list over m and n numbers is the list over m, then the one over n
pub listing_add : (g : ℕ → ℕ) (o m n : ℕ) → listing g o (m + n) ≡ listing g o m ++ listing g (o + m) n
unfolding listing
listing_add g o zero n =
    let a : o ≡ o + 0 = omega arith in
    let e : 0 + n ≡ n = omega arith in
    ap₂ (λ (x y : ℕ). listing g x y) a e
listing_add g o (suc m) n =
    let q : suc m + n ≡ suc (m + n) = omega arith in
    let t : suc o + m ≡ o + suc m = omega arith in
    ap (listing g o) q
    ∙ ap (λ (l : List ℕ). entry g o ++ l) (listing_add g (suc o) m n ∙ ap (λ (x : ℕ). listing g (suc o) m ++ listing g x n) t)
    ∙ sym (append_assoc (entry g o) (listing g (suc o) m) (listing g (o + suc m) n))

-- the list is as long as what is held, and has it in its place: after what is held below it
pub listing_count : (g : ℕ → ℕ) (n : ℕ) → length (listing g 0 n) ≡ 2 * held_below g n
unfolding listing how_many
listing_count g zero = refl
listing_count g (suc n) =
    let e : suc n ≡ n + 1 = omega arith in
    let z : 0 + n ≡ n = omega arith in
    ap (λ (k : ℕ). length (listing g 0 k)) e
    ∙ ap length (listing_add g 0 n 1 ∙ ap (λ (x : ℕ). listing g 0 n ++ listing g x 1) z)
    ∙ length-append (listing g 0 n) (listing g n 1)
    ∙ ap (λ (k : ℕ). k + length (listing g n 1)) (listing_count g n)
    ∙ go (eqb (g n) 0)
  where
    go : (b : Bool) → 2 * held_below g n + length ((if b then [] else (n ∷ g n ∷ [])) ++ [])
        ≡ 2 * ((if not b then 1 else 0) + held_below g n)
    go true = omega arith
    go false = omega arith

pub listing_place : (g : ℕ → ℕ) (o n : ℕ) → o < n → g o ≢ 0
    → (at (listing g 0 n) (2 * held_below g o) ≡ o) × (at (listing g 0 n) (2 * held_below g o + 1) ≡ g o)
unfolding listing
listing_place g o n l some =
    let e : n ≡ o + suc (n - suc o) = omega arith in
    let z : 0 + o ≡ o = omega arith in
    let q : listing g 0 n ≡ listing g 0 o ++ (o ∷ g o ∷ listing g (suc o) (n - suc o)) =
    ap (listing g 0) e
    ∙ listing_add g 0 o (suc (n - suc o))
    ∙ ap (λ (x : ℕ). listing g 0 o ++ listing g x (suc (n - suc o))) z
    ∙ ap (λ (b : Bool). listing g 0 o ++ ((if b then [] else (o ∷ g o ∷ [])) ++ listing g (suc o) (n - suc o))) (ne_eqb (g o) 0 some) in
    rw (q, ← listing_count g o) (
      get_or-append_seam (listing g 0 o) o (g o ∷ listing g (suc o) (n - suc o)) 0,
      get_or-append-add (listing g 0 o) (o ∷ g o ∷ listing g (suc o) (n - suc o)) 1 0,
    )

-- of as many numbers as hold something, each is behind as many others
nth_held : (g : ℕ → ℕ) (n i : ℕ) → i < held_below g n → (o : ℕ) × (o < n) × (g o ≢ 0) × (held_below g o ≡ i)
unfolding how_many
nth_held g zero i l = absurd (omega (arith, l))
nth_held g (suc n) i l = go (ℕ_discrete (g n) 0) (ℕ_discrete i (held_below g n)) (nth_held g n i)
  where
    go : Dec (g n ≡ 0) → Dec (i ≡ held_below g n)
        → (i < held_below g n → (o : ℕ) × (o < n) × (g o ≢ 0) × (held_below g o ≡ i))
        → (o : ℕ) × (o < suc n) × (g o ≢ 0) × (held_below g o ≡ i)
    go (yes q) d more =
        let u : i < 0 + held_below g n = rw q at l in
        let t = more (omega (arith, u)) in (t.0, omega (arith, t.1), t.2, t.3)
    go (no q) (yes e) more = (n, omega arith, q, sym e)
    go (no q) (no e) more =
        let u : i < 1 + held_below g n = rw (ne_eqb (g n) 0 q) at l in
        let t = more (omega (arith, u, e)) in (t.0, omega (arith, t.1), t.2, t.3)

-- so the i-th entry is of o exactly if o holds something, and i numbers below it do
pub listing_entry : (g : ℕ → ℕ) (n o i : ℕ)
    → ((i < held_below g n) × (at (listing g 0 n) (2 * i) ≡ o) ↔ (o < n) × (g o ≢ 0) × (held_below g o ≡ i))
unfolding how_many
listing_entry g n o i = (there, back)
  where
    there : (i < held_below g n) × (at (listing g 0 n) (2 * i) ≡ o) → (o < n) × (g o ≢ 0) × (held_below g o ≡ i)
    there t =
        let x = nth_held g n i t.0 in
        let q : x.0 ≡ o = sym (listing_place g x.0 n x.1 x.2).0
        ∙ ap (λ (k : ℕ). at (listing g 0 n) (2 * k)) x.3
        ∙ t.1 in
        subst (λ (y : ℕ). (y < n) × (g y ≢ 0) × (held_below g y ≡ i)) q (x.1, x.2, x.3)

    back : (o < n) × (g o ≢ 0) × (held_below g o ≡ i) → (i < held_below g n) × (at (listing g 0 n) (2 * i) ≡ o)
    back t =
        let more = many_rises (λ x. not (eqb (g x) 0)) (suc o) n t.0 in
        let one : held_below g (suc o) ≡ suc (held_below g o) = rw (ne_eqb (g o) 0 t.1) (omega arith) in (
          omega (arith, more, one, t.2),
          ap (λ (k : ℕ). at (listing g 0 n) (2 * k)) (sym t.2) ∙ (listing_place g o n t.0 t.1).0,
        )

-- what is listed first is the first number or a later one
first_listed : (g : ℕ → ℕ) (o n x : ℕ) (l : List ℕ) → listing g o n ≡ x ∷ l → o ≤ x
unfolding listing
first_listed g o zero x l e = absurd (omega (arith, ap length e))
first_listed g o (suc n) x l e = go (eqb (g o) 0) e (first_listed g (suc o) n x l)
  where
    go : (t : Bool) → (if t then [] else (o ∷ g o ∷ [])) ++ listing g (suc o) n ≡ x ∷ l
        → (listing g (suc o) n ≡ x ∷ l → suc o ≤ x) → o ≤ x
    go true q more = omega (arith, more q)
    go false q more = let f : o ≡ x = cc in omega arith

-- so two lists over the same numbers are equal only where the same is held
pub listing_only : (f g : ℕ → ℕ) (o n : ℕ) → listing f o n ≡ listing g o n → (i : ℕ) → i < n → f (o + i) ≡ g (o + i)
unfolding listing
listing_only f g o zero e i l = absurd (omega arith)
listing_only f g o (suc n) e i l = go (ℕ_discrete (f o) 0) (ℕ_discrete (g o) 0) (listing_only f g (suc o) n) i l
  where
    F : List ℕ
    F = listing f (suc o) n

    G : List ℕ
    G = listing g (suc o) n

    -- at o, and past it
    past : f o ≡ g o → (F ≡ G → (i : ℕ) → i < n → f (suc o + i) ≡ g (suc o + i)) → F ≡ G
        → (i : ℕ) → i < suc n → f (o + i) ≡ g (o + i)
    past q more r zero u = let z : o + 0 ≡ o = omega arith in rw z q
    past q more r (suc i) u = let z : o + suc i ≡ suc o + i = omega arith in rw z (more r i (omega arith))

    go : Dec (f o ≡ 0) → Dec (g o ≡ 0) → (F ≡ G → (i : ℕ) → i < n → f (suc o + i) ≡ g (suc o + i))
        → (i : ℕ) → i < suc n → f (o + i) ≡ g (o + i)
    go (yes p) (yes q) more = past (p ∙ sym q) more (rw (p, q) at e)
    go (yes p) (no q) more = absurd (omega (arith, first_listed f (suc o) n o _ (rw (p, ne_eqb (g o) 0 q) at e)))
    go (no p) (yes q) more = absurd (omega (arith, first_listed g (suc o) n o _ (sym (rw (ne_eqb (f o) 0 p, q) at e))))
    go (no p) (no q) more =
        let r : o ∷ f o ∷ F ≡ o ∷ g o ∷ G = rw (ne_eqb (f o) 0 p, ne_eqb (g o) 0 q) at e in
        past (cc) more (cc)

-- the next number that holds something comes first
pub listing_next : (g : ℕ → ℕ) (o k n : ℕ) → k < n → ((i : ℕ) → i < k → g (o + i) ≡ 0)
    → listing g o n ≡ entry g (o + k) ++ listing g (o + k + 1) (n - (k + 1))
unfolding listing
listing_next g o k n l none =
    let e : n ≡ k + suc (n - (k + 1)) = omega arith in
    let q : suc (o + k) ≡ o + k + 1 = omega arith in
    ap (listing g o) e
    ∙ listing_add g o k (suc (n - (k + 1)))
    ∙ rw (listing_none g o k none) (ap (λ (x : ℕ). entry g (o + k) ++ listing g x (n - (k + 1))) q)

-- ---- at every s-th number: of the n numbers o, o + s and so on
unfoldable pub at_steps : (ℕ → ℕ) → ℕ → ℕ → ℕ → List ℕ
at_steps g o s zero = []
at_steps g o s (suc n) = entry g o ++ at_steps g (o + s) s n

-- two words for each at most
pub length_steps : (g : ℕ → ℕ) (o s n : ℕ) → length (at_steps g o s n) ≤ 2 * n
unfolding at_steps
length_steps g o s zero = omega arith
length_steps g o s (suc n) =
    omega (arith, length-append (entry g o) (at_steps g (o + s) s n), length_steps g (o + s) s n, few (eqb (g o) 0))
  where
    few : (t : Bool) → length (if t then [] else (o ∷ g o ∷ [])) ≤ 2
    few true = omega arith
    few false = omega arith

pub steps_same : (f g : ℕ → ℕ) (o s n : ℕ) → ((k : ℕ) → k < n → f (o + k * s) ≡ g (o + k * s))
    → at_steps f o s n ≡ at_steps g o s n
unfolding at_steps
steps_same f g o s zero e = refl
steps_same f g o s (suc n) e =
    let z : f o ≡ g o = (let q : o + 0 * s ≡ o = omega arith in rw q at (e 0 (omega arith))) in
    rw (
      z,
      steps_same f g (o + s) s n
          (λ k l. let q : o + suc k * s ≡ o + s + k * s = omega (arith, suc-mul k s) in rw q at (e (suc k) (omega arith))),
    )

-- a run of steps and the run after it
pub steps_add : (g : ℕ → ℕ) (o s m n : ℕ) → at_steps g o s (m + n) ≡ at_steps g o s m ++ at_steps g (o + m * s) s n
unfolding at_steps
steps_add g o s zero n =
    let a : o ≡ o + 0 * s = omega arith in
    let e : 0 + n ≡ n = omega arith in
    ap₂ (λ (x y : ℕ). at_steps g x s y) a e
steps_add g o s (suc m) n =
    let q : suc m + n ≡ suc (m + n) = omega arith in
    let t : o + s + m * s ≡ o + suc m * s = omega (arith, suc-mul m s) in
    ap (at_steps g o s) q
    ∙ ap (λ (l : List ℕ). entry g o ++ l) (steps_add g (o + s) s m n ∙ ap (λ (x : ℕ). at_steps g (o + s) s m ++ at_steps g x s n) t)
    ∙ sym (append_assoc (entry g o) (at_steps g (o + s) s m) (at_steps g (o + suc m * s) s n))

-- between the steps nothing is held
module _ (g : ℕ → ℕ) (s : ℕ) (low : 1 ≤ s) where
  -- so a step is listed as its first number
  one_step : (o : ℕ) → ((i : ℕ) → 1 ≤ i → i < s → g (o + i) ≡ 0) → listing g o s ≡ entry g o
  unfolding listing
  one_step o none =
      let e : s ≡ suc (s - 1) = omega arith in
      ap (listing g o) e
      ∙ ap (λ (l : List ℕ). entry g o ++ l)
      (listing_none g (suc o) (s - 1)
      (λ i u. let w : suc o + i ≡ o + suc i = omega arith in ap g w ∙ none (suc i) (omega arith) (omega arith)))
      ∙ append-nil (entry g o)

  -- and n steps as their first numbers
  pub steps_are : (o n : ℕ) → ((k i : ℕ) → k < n → 1 ≤ i → i < s → g (o + k * s + i) ≡ 0)
      → listing g o (n * s) ≡ at_steps g o s n
  unfolding at_steps listing
  steps_are o zero none = let z : 0 * s ≡ 0 = omega arith in ap (listing g o) z
  steps_are o (suc n) none =
      let q : suc n * s ≡ s + n * s = omega (arith, suc-mul n s) in
      ap (listing g o) q
      ∙ listing_add g o s (n * s)
      ∙ ap₂ (λ (x y : List ℕ). x ++ y)
      (one_step o (λ i a b. let w : o + i ≡ o + 0 * s + i = omega arith in ap g w ∙ none 0 i (omega arith) a b))
      (steps_are (o + s) n
      (λ k i l a b. let w : o + s + k * s + i ≡ o + suc k * s + i = omega (arith, suc-mul k s) in
      ap g w ∙ none (suc k) i (omega arith) a b))

-- ---- a pool's 4,096 numbers: its first 48, its blocks of the size s, and what is left past them. Only where a block
-- starts something can be held
pub record InBlocks (g : ℕ → ℕ) (p s : ℕ) : Type 0 where
  pub some : 1 ≤ s
  pub low : (x : ℕ) → x < 48 → g (4096 * p + x) ≡ 0
  pub other : (k i : ℕ) → k < capacity s → 1 ≤ i → i < s → g (4096 * p + 48 + k * s + i) ≡ 0
  pub high : (x : ℕ) → 48 + capacity s * s ≤ x → x < 4096 → g (4096 * p + x) ≡ 0

pub pool_is : {g : ℕ → ℕ} {p s : ℕ} → InBlocks g p s
    → listing g (4096 * p) 4096 ≡ at_steps g (4096 * p + 48) s (capacity s)
pool_is {g} {p} {s} H =
    let n = 4048 / s in
    let first = listing_none g (4096 * p) 48 H.low in
    let rest = listing_none g (4096 * p + 48 + n * s) (4048 - n * s)
    (λ i u. let w : 4096 * p + 48 + n * s + i ≡ 4096 * p + (48 + n * s + i) = omega arith in
    ap g w ∙ H.high (48 + n * s + i) (omega arith) (omega arith)) in
    let all : 4096 ≡ 48 + (n * s + (4048 - n * s)) = omega (arith, div-mul-le_self 4048 s) in
    ap (listing g (4096 * p)) all
    ∙ listing_add g (4096 * p) 48 (n * s + (4048 - n * s))
    ∙ rw first (listing_add g (4096 * p + 48) (n * s) (4048 - n * s)
    ∙ rw rest (append-nil (listing g (4096 * p + 48) (n * s)) ∙ steps_are g s H.some (4096 * p + 48) n H.other))

-- that is so where nothing is held at a place that is no start
pub starts_only : (g : ℕ → ℕ) (p s : ℕ) → 1 ≤ s → ((x : ℕ) → x < 4096 → is_start s x ≡ false → g (4096 * p + x) ≡ 0)
    → InBlocks g p s
unfolding is_start
starts_only g p s some none = record {
  some = some;
  low = λ x u. none x (omega arith) (rw (lt-leb 48 x u));
  other = λ k i u v w.
      let q : 4096 * p + 48 + k * s + i ≡ 4096 * p + (48 + k * s + i) = omega arith in
      let f : 48 + k * s + i < 4096 = omega (arith, mul-le-mul_right s u, suc-mul k s, div-mul-le_self 4048 s) in
      let d : 48 + k * s + i - 48 ≡ i + k * s = omega arith in
      let z : (i + k * s) % s ≡ i = add-mul-mod_self_right i k s ∙ mod-eq_of_lt w in
      ap g q ∙ none (48 + k * s + i) f (rw (d, z, ne_eqb i 0 (omega arith), and-false));
  high = λ x u v.
      let past = (div-lt_iff_lt-mul {k = s} {x = 4048} {y = capacity s + 1} some).0 (omega arith) in
      none x v (rw (lt-leb x (last_start s) (omega (arith, past, suc-mul (capacity s) s)), and-false));
}
