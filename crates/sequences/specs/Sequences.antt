-- Sequences: plain lists of numbers without repetition, and doubly linked lists read from the front over abstract
-- links. A link to n is suc n; 0 is none.
-- Assumes nothing.
use Rattle.std.specs.Prelude.{◌≡◌, refl, ◌≢◌, ◌⊎◌, Bool, true, false, ◌||◌, List, [], ◌∷◌, ◌++◌, ℕ, zero, suc, ◌<◌, ◌≤◌, eqb, length, if◌then◌else◌}
use Rattle.std.proofs.Common.{sym, ap, ◌∙◌, inl, inr, true≢false, arith, length-append, eq-eqb, ne_eqb}
use Rattle.std.proofs.Math.Logic.{Ne-symm as flip}
use Rattle.std.proofs.Math.Bool.{or-true}
use Rattle.std.proofs.lemmas.Bool.{false≢true}
use Rattle.std.proofs.Math.Decide.{ℕ_discrete}

-- ---- what holds of every member; members, each once
abbrev pub All : (ℕ → Type 0) → List ℕ → Type 0
All Q [] = Unit {0}
All Q (x ∷ xs) = Q x × All Q xs

-- x is a member; x is none
abbrev pub In : ℕ → List ℕ → Type 0
In x [] = ⊥
In x (y ∷ ys) = (x ≡ y) ⊎ In x ys

abbrev pub Not : ℕ → List ℕ → Type 0
Not x xs = All (λ y. x ≢ y) xs

-- whether x is one
abbrev pub among : ℕ → List ℕ → Bool
among x [] = false
among x (y ∷ ys) = eqb x y || among x ys

-- R holds of each member and every one that follows it
abbrev pub Pairs : (ℕ → ℕ → Type 0) → List ℕ → Type 0
Pairs R [] = Unit {0}
Pairs R (x ∷ xs) = All (R x) xs × Pairs R xs

-- each member is there once: none follows itself
abbrev pub Once : List ℕ → Type 0
Once xs = Pairs (λ x y. x ≢ y) xs

-- the sequence without x
abbrev pub unless : Bool → ℕ → List ℕ → List ℕ
unless true y ys = ys
unless false y ys = y ∷ ys

abbrev pub erase : ℕ → List ℕ → List ℕ
erase x [] = []
erase x (y ∷ ys) = unless (eqb x y) y (erase x ys)

-- the sequence with x right after q
abbrev pub after : ℕ → ℕ → List ℕ → List ℕ
after q x [] = []
after q x (y ∷ ys) = y ∷ (if eqb q y then x ∷ ys else after q x ys)

-- ---- the laws of members
pub all_map : {Q R : ℕ → Type 0} (f : (y : ℕ) → Q y → R y) (xs : List ℕ) → All Q xs → All R xs
all_map f [] a = tt
all_map f (x ∷ xs) a = (f x a.0, all_map f xs a.1)

pub all_two : {Q R S : ℕ → Type 0} (f : (y : ℕ) → Q y → R y → S y) (xs : List ℕ) → All Q xs → All R xs → All S xs
all_two f [] a b = tt
all_two f (x ∷ xs) a b = (f x a.0 b.0, all_two f xs a.1 b.1)

pub all_every : {Q : ℕ → Type 0} (f : (y : ℕ) → Q y) (xs : List ℕ) → All Q xs
all_every f [] = tt
all_every f (x ∷ xs) = (f x, all_every f xs)

-- of two parts; of a member in its place, and of any; without one, and with one more
module _ (Q : ℕ → Type 0) where
  pub all_parts : (xs ys : List ℕ) → All Q (xs ++ ys) → All Q xs × All Q ys
  all_parts [] ys a = (tt, a)
  all_parts (x ∷ xs) ys a = let t = all_parts xs ys a.1 in ((a.0, t.0), t.1)

  all_append : (xs ys : List ℕ) → All Q xs → All Q ys → All Q (xs ++ ys)
  all_append [] ys a b = b
  all_append (x ∷ xs) ys a b = (a.0, all_append xs ys a.1 b)

  pub all_at : (x : ℕ) (xs ys : List ℕ) → All Q (xs ++ x ∷ ys) → Q x
  all_at x xs ys a = (all_parts xs (x ∷ ys) a).1.0

  pub all_in : (x : ℕ) (xs : List ℕ) → All Q xs → In x xs → Q x
  all_in x [] a x3 = elim x3 [ ]
  all_in x (y ∷ ys) a (inl e) = rw e a.0
  all_in x (y ∷ ys) a (inr i) = all_in x ys a.1 i

  pub all_drop : (x : ℕ) (xs ys : List ℕ) → All Q (xs ++ x ∷ ys) → All Q (xs ++ ys)
  all_drop x xs ys a = let t = all_parts xs (x ∷ ys) a in all_append xs ys t.0 t.1.1

  pub all_put : (x : ℕ) (xs ys : List ℕ) → Q x → All Q (xs ++ ys) → All Q (xs ++ x ∷ ys)
  all_put x xs ys q a = let t = all_parts xs ys a in all_append xs (x ∷ ys) t.0 (q, t.1)

-- ---- a member in its place
pub record Split (x : ℕ) (xs : List ℕ) : Type 0 where
  pub pre : List ℕ
  pub post : List ℕ
  pub is : xs ≡ pre ++ x ∷ post

-- with one more in front
abbrev pub further : {x : ℕ} {xs : List ℕ} (y : ℕ) → Split x xs → Split x (y ∷ xs)
further y s = record { pre = y ∷ s.pre; post = s.post; is = ap (λ (l : List ℕ). y ∷ l) s.is }

pub split : (x : ℕ) (xs : List ℕ) → In x xs → Split x xs
split x [] x'' = elim x'' [ ]
split x (y ∷ ys) (inl e) = record { pre = []; post = ys; is = ap (λ (z : ℕ). z ∷ ys) (sym e) }
split x (y ∷ ys) (inr i) = further y (split x ys i)

-- erased, the sequence is what stands before it and behind it, each once
erase_not : (x : ℕ) (xs : List ℕ) → Not x xs → erase x xs ≡ xs
erase_not x [] n = refl
erase_not x (y ∷ ys) n = rw (ne_eqb x y n.0, erase_not x ys n.1)

erase_split : (x : ℕ) (pre post : List ℕ) → Once (pre ++ x ∷ post) → erase x (pre ++ x ∷ post) ≡ pre ++ post
erase_split x [] post o = rw (eq-eqb x x refl) (erase_not x post o.0)
erase_split x (y ∷ pre) post o =
    let n : y ≢ x = all_at (λ z. y ≢ z) x pre post o.0 in
    rw (ne_eqb x y (flip n)) (ap (λ (l : List ℕ). y ∷ l) (erase_split x pre post o.1))

pub erase_is : (x : ℕ) (xs : List ℕ) (s : Split x xs) → Once xs → erase x xs ≡ s.pre ++ s.post
erase_is x xs s o = ap (erase x) s.is ∙ erase_split x s.pre s.post (rw s.is at o)

pub erase_front : (x : ℕ) (xs : List ℕ) → Once (x ∷ xs) → erase x (x ∷ xs) ≡ xs
erase_front x xs o = erase_split x [] xs o

pub in_drop : (x y : ℕ) (pre post : List ℕ) → y ≢ x → In y (pre ++ x ∷ post) → In y (pre ++ post)
in_drop x y [] post n (inl e) = absurd (n e)
in_drop x y [] post n (inr i) = i
in_drop x y (z ∷ pre) post n (inl e) = inl e
in_drop x y (z ∷ pre) post n (inr i) = inr (in_drop x y pre post n i)

-- y is a member with x put in, if it is x or was one before
pub in_put : (x y : ℕ) (pre post : List ℕ) → In y (x ∷ (pre ++ post)) → In y (pre ++ x ∷ post)
in_put x y [] post i = i
in_put x y (z ∷ pre) post (inl e) = inr (in_put x y pre post (inl e))
in_put x y (z ∷ pre) post (inr (inl e)) = inl e
in_put x y (z ∷ pre) post (inr (inr i)) = inr (in_put x y pre post (inr i))

-- of two members: in either part, and one in each; without x, and with x
module _ (R : ℕ → ℕ → Type 0) where
  pub pairs_parts : (xs ys : List ℕ) → Pairs R (xs ++ ys) → Pairs R xs × All (λ x. All (R x) ys) xs × Pairs R ys
  pairs_parts [] ys o = (tt, tt, o)
  pairs_parts (x ∷ xs) ys o =
      let t = pairs_parts xs ys o.1 in
      let u = all_parts (R x) xs ys o.0 in
      ((u.0, t.0), (u.1, t.1), t.2)

  pub pairs_append : (xs ys : List ℕ) → Pairs R xs → All (λ x. All (R x) ys) xs → Pairs R ys → Pairs R (xs ++ ys)
  pairs_append [] ys o a p = p
  pairs_append (x ∷ xs) ys o a p = (all_append (R x) xs ys o.0 a.0, pairs_append xs ys o.1 a.1 p)

  pub pairs_drop : (x : ℕ) (pre post : List ℕ) → Pairs R (pre ++ x ∷ post) → Pairs R (pre ++ post)
  pairs_drop x pre post o =
      let t = pairs_parts pre (x ∷ post) o in
      pairs_append pre post t.0 (all_map (λ y (n : All (R y) (x ∷ post)). n.1) pre t.1) t.2.1

  pub pairs_put : (x : ℕ) (pre post : List ℕ) → All (λ y. R y x) pre → All (R x) post → Pairs R (pre ++ post)
      → Pairs R (pre ++ x ∷ post)
  pairs_put x pre post m n o =
      let t = pairs_parts pre post o in
      pairs_append pre (x ∷ post) t.0 (all_two (λ y (c : R y x) (d : All (R y) post). (c, d)) pre m t.1) (n, t.2)

-- each once: in two parts; without x; and with x, which was none
pub once_parts : (xs ys : List ℕ) → Once (xs ++ ys) → Once xs × All (λ y. Not y ys) xs × Once ys
once_parts = pairs_parts (λ y z. y ≢ z)

pub once_drop : (x : ℕ) (pre post : List ℕ) → Once (pre ++ x ∷ post) → Once (pre ++ post)
once_drop = pairs_drop (λ y z. y ≢ z)

once_put : (x : ℕ) (pre post : List ℕ) → Not x (pre ++ post) → Once (pre ++ post) → Once (pre ++ x ∷ post)
once_put x pre post n =
    let m = all_parts (λ y. x ≢ y) pre post n in
    pairs_put (λ y z. y ≢ z) x pre post (all_map (λ y (c : x ≢ y). flip c) pre m.0) m.1

pub once_gone : (x : ℕ) (pre post : List ℕ) → Once (pre ++ x ∷ post) → Not x (pre ++ post)
once_gone x pre post o =
    let t = once_parts pre (x ∷ post) o in
    all_append (λ y. x ≢ y) pre post (all_map (λ y (n : Not y (x ∷ post)). flip n.0) pre t.1) t.2.0

-- after q, in its place
pub after_is : (q x : ℕ) (pre post : List ℕ) → Once (pre ++ q ∷ post)
    → after q x (pre ++ q ∷ post) ≡ pre ++ q ∷ x ∷ post
after_is q x [] post o = rw (eq-eqb q q refl)
after_is q x (y ∷ pre) post o =
    let n : y ≢ q = all_at (λ z. y ≢ z) q pre post o.0 in
    rw (ne_eqb q y (flip n)) (ap (λ (l : List ℕ). y ∷ l) (after_is q x pre post o.1))

-- x is a member or is none
in_or_not : (x : ℕ) (xs : List ℕ) → In x xs ⊎ Not x xs
in_or_not x [] = inr tt
in_or_not x (y ∷ ys) = go (ℕ_discrete x y) (in_or_not x ys)
  where
    go : Dec (x ≡ y) → In x ys ⊎ Not x ys → In x (y ∷ ys) ⊎ Not x (y ∷ ys)
    go (yes e) m = inl (inl e)
    go (no n) (inl i) = inl (inr i)
    go (no n) (inr m) = inr (n, m)

-- what the test of it says, and what passes and fails it
pub among_in : (x : ℕ) (xs : List ℕ) → among x xs ≡ true → In x xs
among_in x [] e = absurd (false≢true e)
among_in x (y ∷ ys) e = go (ℕ_discrete x y) (among_in x ys)
  where
    go : Dec (x ≡ y) → (among x ys ≡ true → In x ys) → In x (y ∷ ys)
    go (yes q) h = inl q
    go (no q) h = inr (h (sym (ap (λ (t : Bool). t || among x ys) (ne_eqb x y q)) ∙ e))

pub in_among : (x : ℕ) (xs : List ℕ) → In x xs → among x xs ≡ true
in_among x [] x'' = elim x'' [ ]
in_among x (y ∷ ys) (inl q) = rw (eq-eqb x y q)
in_among x (y ∷ ys) (inr i) = rw (in_among x ys i, or-true)

pub among_not : (x : ℕ) (xs : List ℕ) → Not x xs → among x xs ≡ false
among_not x [] n = refl
among_not x (y ∷ ys) n = rw (ne_eqb x y n.0) (among_not x ys n.1)

pub not_among : (x : ℕ) (xs : List ℕ) → among x xs ≡ false → Not x xs
not_among x xs e = go (in_or_not x xs)
  where
    go : In x xs ⊎ Not x xs → Not x xs
    go (inl i) = absurd (true≢false (sym (in_among x xs i) ∙ e))
    go (inr n) = n

-- there are no more members, each once, than numbers below N
pub once_short : (N : ℕ) (xs : List ℕ) → All (λ y. y < N) xs → Once xs → length xs ≤ N
once_short zero [] a o = omega arith
once_short zero (x ∷ xs) a o = absurd (omega (arith, a.0))
once_short (suc N) xs a o = go (once_short N) (in_or_not N xs)
  where
    below : (ys : List ℕ) → All (λ y. y < suc N) ys → Not N ys → All (λ y. y < N) ys
    below = all_two {S = λ y. y < N} (λ y (l : y < suc N) (n : N ≢ y). omega arith)

    go : ((ys : List ℕ) → All (λ y. y < N) ys → Once ys → length ys ≤ N) → In N xs ⊎ Not N xs → length xs ≤ suc N
    go fewer (inr n) = omega (arith, fewer xs (below xs a n) o)
    go fewer (inl i) =
        let s : Split N xs = split N xs i in
        let once : Once (s.pre ++ N ∷ s.post) = rw s.is at o in
        let all : All (λ y. y < suc N) (s.pre ++ s.post) = all_drop (λ y. y < suc N) N s.pre s.post (rw s.is at a) in
        rw s.is (omega (
          arith,
          fewer (s.pre ++ s.post) (below (s.pre ++ s.post) all (once_gone N s.pre s.post once)) (once_drop N s.pre s.post once),
          length-append s.pre s.post,
          length-append s.pre (N ∷ s.post),
        ))

-- ---- doubly linked sequences
-- from the link k, with the link p behind it, exactly xs is met
abbrev pub Seg : (ℕ → ℕ) → (ℕ → ℕ) → ℕ → ℕ → List ℕ → Type 0
Seg next prev k p [] = k ≡ 0
Seg next prev k p (x ∷ xs) = (k ≡ suc x) × ((prev x ≡ p) × Seg next prev (next x) (suc x) xs)

pub record Row (next prev : ℕ → ℕ) (h : ℕ) (xs : List ℕ) : Type 0 where
  pub walk : Seg next prev h 0 xs
  pub once : Once xs

-- ---- gaps, where a member joins or has left
-- the link to the last of xs, or p where there is none
abbrev pub last_link : ℕ → List ℕ → ℕ
last_link p [] = p
last_link p (x ∷ xs) = last_link (suc x) xs

-- of the gap behind the link p: h where it is at the front, otherwise f of the member that p leads to. The link that
-- stands at the gap is `place h next p`
abbrev pub place : ℕ → (ℕ → ℕ) → ℕ → ℕ
place h f zero = h
place h f (suc y) = f y

-- what is written at the gap between the links p and n, x's own links aside: v before it (the head, where p is 0), and
-- w behind it
pub record AtGap (x p n v w : ℕ) (next prev : ℕ → ℕ) (h : ℕ) (next' prev' : ℕ → ℕ) (h' : ℕ) : Type 0 where
  pub head : p ≡ 0 → h' ≡ v
  pub head_same : p ≢ 0 → h' ≡ h
  pub before : (y : ℕ) → y ≢ x → p ≡ suc y → next' y ≡ v
  pub behind : (y : ℕ) → y ≢ x → n ≡ suc y → prev' y ≡ w
  pub next_same : (y : ℕ) → y ≢ x → p ≢ suc y → next' y ≡ next y
  pub prev_same : (y : ℕ) → y ≢ x → n ≢ suc y → prev' y ≡ prev y

-- what joining there writes
pub record Joined (x p n : ℕ) (next prev : ℕ → ℕ) (h : ℕ) (next' prev' : ℕ → ℕ) (h' : ℕ) : Type 0 where
  pub own_next : next' x ≡ n
  pub own_prev : prev' x ≡ p
  pub rest : AtGap x p n (suc x) (suc x) next prev h next' prev' h'

-- what leaving writes, where p and n are the links of x
abbrev pub Left : (x p n : ℕ) → (ℕ → ℕ) → (ℕ → ℕ) → ℕ → (ℕ → ℕ) → (ℕ → ℕ) → ℕ → Type 0
Left x p n = AtGap x p n n p

module _ (next prev next' prev' : ℕ → ℕ) where
  -- a sequence depends on its members' links alone: the one frame law
  seg_same : (k p : ℕ) (xs : List ℕ) → All (λ y. next' y ≡ next y) xs → All (λ y. prev' y ≡ prev y) xs
      → Seg next prev k p xs → Seg next' prev' k p xs
  seg_same k p [] a b s = s
  seg_same k p (x ∷ xs) a b s =
      (s.0, (b.0 ∙ s.1.0, rw a.0 (seg_same (next x) (suc x) xs a.1 b.1 s.1.1)))

  -- only the first member knows what is behind it
  seg_behind : (k p p' : ℕ) (xs : List ℕ) → All (λ y. next' y ≡ next y) xs → All (λ y. k ≡ suc y → prev' y ≡ p') xs
      → All (λ y. k ≢ suc y → prev' y ≡ prev y) xs → Once xs → Seg next prev k p xs → Seg next' prev' k p' xs
  seg_behind k p p' [] a b c o s = s
  seg_behind k p p' (x ∷ xs) a b c o s = (
    s.0,
    (
      b.0 s.0,
      rw a.0 (seg_same (next x) (suc x) xs a.1
          (all_two (λ y (f : k ≢ suc y → prev' y ≡ prev y) (g : x ≢ y). f (λ e. g (omega (arith, s.0)))) xs c.1 o.0)
          s.1.1),
    ),
  )

pub row_same : {next prev next' prev' : ℕ → ℕ} {h : ℕ} {xs : List ℕ} → All (λ y. next' y ≡ next y) xs
    → All (λ y. prev' y ≡ prev y) xs
    → Row next prev h xs → Row next' prev' h xs
row_same {next} {prev} {next'} {prev'} {h} {xs} a b r =
    record { walk = seg_same next prev next' prev' h 0 xs a b r.walk; once = r.once }

-- ---- what stands at a gap
-- what holds of p and of the links to all members holds of the last link
last_is : (Q : ℕ → Type 0) (p : ℕ) (xs : List ℕ) → Q p → All (λ y. Q (suc y)) xs → Q (last_link p xs)
last_is Q p [] q a = q
last_is Q p (x ∷ xs) q a = last_is Q (suc x) xs a.0 a.1

-- right after q the last link is the one to q
pub last_link_lem : (q p : ℕ) (pre : List ℕ) → last_link p (pre ++ q ∷ []) ≡ suc q
last_link_lem q p [] = refl
last_link_lem q p (x ∷ pre) = last_link_lem q (suc x) pre

-- from the gap behind pre exactly post is met
pub seg_cut : (next prev : ℕ → ℕ) (h p : ℕ) (pre post : List ℕ) → Seg next prev (place h next p) p (pre ++ post)
    → Seg next prev (place h next (last_link p pre)) (last_link p pre) post
seg_cut next prev h p [] post s = s
seg_cut next prev h p (x ∷ pre) post s = seg_cut next prev h (suc x) pre post s.1.1

-- the link before a gap is to none behind it
gap_apart : {p : ℕ} (pre post : List ℕ) → p ≡ last_link 0 pre → All (λ y. Not y post) pre → All (λ y. p ≢ suc y) post
gap_apart pre post e a =
    rw e (last_is (λ l. All (λ z. l ≢ suc z) post) 0 pre (all_every (λ z. omega arith) post)
    (all_map (λ y (n : Not y post). all_map (λ z (d : y ≢ z). omega arith) post n) pre a))

-- what holds of all members holds of what a link in the sequence leads to: the first link of a part, ..
module _ (Q : ℕ → Type 0) where
  head_in : (next prev : ℕ → ℕ) (k p : ℕ) (xs : List ℕ) → All Q xs → Seg next prev k p xs → (y : ℕ) → k ≡ suc y → Q y
  head_in next prev k p [] a s y e = absurd (omega arith)
  head_in next prev k p (x ∷ xs) a s y e = let q : y ≡ x = omega (arith, s.0) in rw q a.0

  -- .. the link before a gap and the one that stands there, ..
  pub before_in : {p : ℕ} (pre post : List ℕ) → p ≡ last_link 0 pre → All Q (pre ++ post) → (y : ℕ) → p ≡ suc y → Q y
  before_in pre post e a =
      rw e (last_is (λ l. (y : ℕ) → l ≡ suc y → Q y) 0 pre (λ y q. absurd (omega arith))
      (all_map {R = λ z. (y : ℕ) → suc z ≡ suc y → Q y} (λ z (t : Q z) y q. let d : y ≡ z = omega arith in rw d t) pre (all_parts Q pre post a).0))

  pub behind_in : {next prev : ℕ → ℕ} {p h : ℕ} (pre post : List ℕ) → p ≡ last_link 0 pre → All Q (pre ++ post)
      → Row next prev h (pre ++ post) → (y : ℕ) → place h next p ≡ suc y → Q y
  behind_in {next} {prev} {p} {h} pre post e a r =
      rw e (head_in next prev (place h next (last_link 0 pre)) (last_link 0 pre) post (all_parts Q pre post a).1 (seg_cut next prev h 0 pre post r.walk))

  -- .. and a member's previous and next
  module _ {next prev : ℕ → ℕ} {h x : ℕ} (pre post : List ℕ)
      (a : All Q (pre ++ x ∷ post)) (r : Row next prev h (pre ++ x ∷ post)) where
    pub prev_in : (y : ℕ) → prev x ≡ suc y → Q y
    prev_in = before_in pre (x ∷ post) (seg_cut next prev h 0 pre (x ∷ post) r.walk).1.0 a

    pub next_in : (y : ℕ) → next x ≡ suc y → Q y
    next_in =
        head_in next prev (next x) (suc x) post (all_parts Q pre (x ∷ post) a).1.1 (seg_cut next prev h 0 pre (x ∷ post) r.walk).1.1

-- ---- joining and leaving at a gap
module _ {next prev next' prev' : ℕ → ℕ} {x p n v w h h' : ℕ} (g : AtGap x p n v w next prev h next' prev' h') where
  -- who stands before the gap is met as before, and then ys in the place of xs
  before_gap : (xs ys : List ℕ) → Seg next' prev' v p ys → (pre : List ℕ) (k k' q : ℕ) → p ≡ last_link q pre
      → (p ≡ q → k' ≡ v) → (p ≢ q → k' ≡ k) → All (λ y. (x ≢ y) × (n ≢ suc y)) pre → All (λ y. q ≢ suc y) pre → Once pre
      → Seg next prev k q (pre ++ xs) → Seg next' prev' k' q (pre ++ ys)
  before_gap xs ys t [] k k' q e f f' d a o s = rw (f e, ← e) t
  before_gap xs ys t (b ∷ pre) k k' q e f f' d a o s =
      let other : b ≢ x = flip d.0.0 in (
        f' (λ u. last_is (λ l. q ≢ l) (suc b) pre a.0 a.1 (sym u ∙ e)) ∙ s.0,
        (
          g.prev_same b other d.0.1 ∙ s.1.0,
          before_gap xs ys t pre (next b) (next' b) (suc b) e (g.before b other) (g.next_same b other) d.1
              (all_map (λ y (c : b ≢ y). omega arith) pre o.0) o.1 s.1.1,
        ),
      )

  -- so it is with the whole, where post stands behind the gap before and after
  walk_gap : (pre post xs ys : List ℕ) (q : ℕ) → p ≡ last_link 0 pre → Not x (pre ++ post) → Once (pre ++ post)
      → Seg next prev n q post → (Seg next' prev' n w post → Seg next' prev' v p ys)
      → Seg next prev h 0 (pre ++ xs) → Seg next' prev' h' 0 (pre ++ ys)
  walk_gap pre post xs ys q e m o s t =
      let u = once_parts pre post o in
      let d = all_parts (λ y. x ≢ y) pre post m in
      before_gap xs ys
      (t (seg_behind next prev next' prev' n q w post
      (all_two (λ y (c : x ≢ y) (f : p ≢ suc y). g.next_same y (flip c) f) post d.1 (gap_apart pre post e u.1))
      (all_map (λ y (c : x ≢ y). g.behind y (flip c)) post d.1)
      (all_map (λ y (c : x ≢ y). g.prev_same y (flip c)) post d.1) u.2 s))
      pre h h' 0 e g.head g.head_same
      (all_two (λ y (c : x ≢ y) (f : Not y post). (c, λ a. head_in (λ z. y ≢ z) next prev n q post f s y a refl)) pre d.0 u.1)
      (all_every (λ y. omega arith) pre) u.0

-- x, which is no member, joins at the gap behind pre, where p is the link to the last
pub row_joins : {next prev next' prev' : ℕ → ℕ} {x p h h' : ℕ} (pre post : List ℕ) → p ≡ last_link 0 pre
    → Joined x p (place h next p) next prev h next' prev' h'
    → Not x (pre ++ post) → Row next prev h (pre ++ post) → Row next' prev' h' (pre ++ x ∷ post)
row_joins {next} {prev} {next'} {prev'} {x} {p} {h} {h'} pre post e j n r =
    record {
      walk = walk_gap j.rest pre post post (x ∷ post) p e n r.once (rw e (seg_cut next prev h 0 pre post r.walk))
          (λ t. (refl, (j.own_prev, rw j.own_next t))) r.walk;
      once = once_put x pre post n r.once;
    }

-- a member leaves
pub row_leaves : {next prev next' prev' : ℕ → ℕ} {x h h' : ℕ} (pre post : List ℕ)
    → Left x (prev x) (next x) next prev h next' prev' h'
    → Row next prev h (pre ++ x ∷ post) → Row next' prev' h' (pre ++ post)
row_leaves {next} {prev} {next'} {prev'} {x} {h} {h'} pre post l r =
    let s = seg_cut next prev h 0 pre (x ∷ post) r.walk in
    let once = once_drop x pre post r.once in
    record {
      walk = walk_gap l pre post (x ∷ post) post (suc x) s.1.0 (once_gone x pre post r.once) once s.1.1 (λ t. t) r.walk;
      once = once;
    }
