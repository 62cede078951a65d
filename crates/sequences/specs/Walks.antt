-- The walks of W-201's audit, `meets` and `holds` of crate rules, over records of any kind: the sequence that such a
-- walk reads, and that the list then has it, singly or doubly linked; and the other way round. A walk that ends meets
-- none twice, for it would go on as it went before; so one that meets as many members as there are meets each of them.
-- Assumes nothing.
use Rattle.std.specs.Prelude.{◌≡◌, refl, ◌≢◌, Bool, true, false, not, ◌&&◌, length, if◌then◌else◌}
use Rattle.std.proofs.Common.{sym, ◌∙◌}
use Rattle.std.proofs.Math.Path.{ap}
use Rattle.std.proofs.Math.Bool.{and-true}
use mathlib.Core.List.{List, [], ◌∷◌}
use Prim.Native.Nat.{ℕ, zero, suc, ◌+◌, ◌-◌, ◌≤◌, ◌<◌}
use native.Mathlib.Omega.{arith}
use Rattle.std.proofs.Math.Dec.{leb, eqb}
use borrow.Author.Tests.{eq-eqb, ne_eqb, le-leb, leb-true, eqb-true, eqb-false, not-true, not-false}
use Rattle.rules.specs.Say.{how_many}
use Rattle.rules.specs.Books.{at, none?, linked}
use Rattle.rules.specs.Audit.{leads, meets, holds}
use Rattle.books.specs.Tests.{both}
use Rattle.sequences.specs.Sequences.{All, In, Not, Once, Seg, among, all_map, among_in, in_among, among_not}
use Rattle.sequences.specs.Counting.{many_same, many_more, many_none, none_many}
use Rattle.sequences.specs.Linked.{Doubly, Singly, Stack}
use Rattle.sequences.specs.Families.{At, Family}

-- ---- members are counted
-- y is one of the N numbers that the test picks out of
abbrev pub Member : (ℕ → Bool) → ℕ → ℕ → Type 0
Member test N y = (y < N) × (test y ≡ true)

module _ (test : ℕ → Bool) (N : ℕ) where
  -- those of a sequence, and those that it leaves, are all
  pub left_over : (xs : List ℕ) → Once xs → All (Member test N) xs
      → length xs + how_many (λ k. test k && not (among k xs)) N ≡ how_many test N
  left_over [] o a = omega (arith, many_same test (λ k. test k && true) N (λ k l. and-true (test k)))
  left_over (x ∷ xs) o a =
      omega (
        arith,
        many_more (λ k. test k && not (among k (x ∷ xs))) (λ k. test k && not (among k xs)) x N a.0.0
            (rw (a.0.1, eq-eqb x x refl)) (rw (a.0.1, among_not x xs o.0)) (λ k d. rw (ne_eqb k x d)),
        left_over xs o.1 a.1,
      )

  -- so where it has as many as there are, it has each; and where it has each, as many
  pub has_all : (xs : List ℕ) → Once xs → All (Member test N) xs → length xs ≡ how_many test N
      → (y : ℕ) → y < N → test y ≡ true → In y xs
  has_all xs o a e y l t =
      let z : how_many (λ k. test k && not (among k xs)) N ≡ 0 = omega (arith, left_over xs o a) in
      among_in y xs (not-false (among y xs) (rw t at (none_many (λ k. test k && not (among k xs)) N z y l)))

  as_many : (xs : List ℕ) → Once xs → All (Member test N) xs → ((y : ℕ) → y < N → test y ≡ true → In y xs)
      → length xs ≡ how_many test N
  as_many xs o a i = omega (arith, left_over xs o a, many_none (λ k. test k && not (among k xs)) N (λ k l. go k l (test k) refl))
    where
      go : (k : ℕ) → k < N → (t : Bool) → test k ≡ t → t && not (among k xs) ≡ false
      go k l true e = rw (in_among k xs (i k l e))
      go k l false e = refl

-- ---- a walk that ends meets none twice
-- two walks from one link are as long as each other
stack_one : (next : ℕ → ℕ) (k : ℕ) (xs ys : List ℕ) → Stack next k xs → Stack next k ys → length xs ≡ length ys
stack_one next k [] [] s t = refl
stack_one next k [] (y ∷ ys) s t = absurd (omega (arith, s, t.0))
stack_one next k (x ∷ xs) [] s t = absurd (omega (arith, s.0, t))
stack_one next k (x ∷ xs) (y ∷ ys) s t =
    let q : y ≡ x = omega (arith, s.0, t.0) in
    ap suc (stack_one next (next x) xs ys s.1 (rw q at t.1))

-- so x, from which every walk is at least as long as xs, is none of xs
stack_not : (next : ℕ → ℕ) (x k : ℕ) (xs : List ℕ) → Stack next k xs
    → ((ys : List ℕ) → Stack next (next x) ys → length xs ≤ length ys) → Not x xs
stack_not next x k [] s f = tt
stack_not next x k (y ∷ ys) s f =
    ((λ q. omega (arith, f ys (rw q s.1))), stack_not next x (next y) ys s.1 (λ zs t. omega (arith, f zs t)))

pub stack_once : (next : ℕ → ℕ) (k : ℕ) (xs : List ℕ) → Stack next k xs → Once xs
stack_once next k [] s = tt
stack_once next k (x ∷ xs) s = (
  stack_not next x (next x) xs s.1 (λ ys t. omega (arith, stack_one next (next x) xs ys s.1 t)),
  stack_once next (next x) xs s.1,
)

-- ---- what is met
-- the k records that are met from the link l on
abbrev read : (ℕ → ℕ) → ℕ → ℕ → List ℕ
read next zero l = []
read next (suc k) l = linked l ∷ read next k (next (linked l))

-- those of a list, by its head word: as many as it has members
abbrev pub list_read : (ℕ → ℕ) → (ℕ → Bool) → ℕ → List ℕ → ℕ → List ℕ
list_read nx member most b head = read (λ n. at b (nx n)) (how_many member most) (at b head)

-- from the link l on exactly xs is met, and p is the first one's previous word
abbrev Met : (ℕ → ℕ) → (ℕ → ℕ) → Bool → ℕ → ℕ → List ℕ → Type 0
Met next prev doubly l p [] = l ≡ 0
Met next prev doubly l p (x ∷ xs) =
    (l ≡ suc x) × ((prev x ≡ p) × Met next prev doubly (next x) (if doubly then suc x else 0) xs)

-- which says the same as the sequences of the two kinds of lists
module _ (next prev : ℕ → ℕ) where
  met_stack : (doubly : Bool) (l p : ℕ) (xs : List ℕ) → Met next prev doubly l p xs → Stack next l xs
  met_stack doubly l p [] w = w
  met_stack doubly l p (x ∷ xs) w = (w.0, met_stack doubly (next x) (if doubly then suc x else 0) xs w.1.1)

  met_seg : (l p : ℕ) (xs : List ℕ) → Met next prev true l p xs → Seg next prev l p xs
  met_seg l p [] w = w
  met_seg l p (x ∷ xs) w = (w.0, (w.1.0, met_seg (next x) (suc x) xs w.1.1))

  seg_met : (l p : ℕ) (xs : List ℕ) → Seg next prev l p xs → Met next prev true l p xs
  seg_met l p [] w = w
  seg_met l p (x ∷ xs) w = (w.0, (w.1.0, seg_met (next x) (suc x) xs w.1.1))

  met_zeros : (l : ℕ) (xs : List ℕ) → Met next prev false l 0 xs → All (λ y. prev y ≡ 0) xs
  met_zeros l [] w = tt
  met_zeros l (x ∷ xs) w = (w.1.0, met_zeros (next x) xs w.1.1)

  stack_met : (l : ℕ) (xs : List ℕ) → Stack next l xs → All (λ y. prev y ≡ 0) xs → Met next prev false l 0 xs
  stack_met l [] w a = w
  stack_met l (x ∷ xs) w a = (w.0, (a.0, stack_met (next x) xs w.1 a.1))

-- ---- the tests of one list
module _ (nx pv : ℕ → ℕ) (member : ℕ → Bool) (most : ℕ) (b : List ℕ) where
  abbrev next : ℕ → ℕ
  next n = at b (nx n)

  abbrev prev : ℕ → ℕ
  prev n = at b (pv n)

  -- the link l leads to a member, and p is its previous word
  pub leads_is : (l p : ℕ) → leads pv member most b l p ≡ true
      → (l ≡ suc (linked l)) × (prev (linked l) ≡ p) × Member member most (linked l)
  unfolding leads
  leads_is l p e =
      let t = both (not (none? l) && leb l most) (member (linked l) && eqb (prev (linked l)) p) e in
      let u = both (not (none? l)) (leb l most) t.0 in
      let v = both (member (linked l)) (eqb (prev (linked l)) p) t.1 in
      let d : l ≢ 0 = eqb-false l 0 (not-true (none? l) u.0) in
      (omega arith, eqb-true (prev (linked l)) p v.1, (omega (arith, leb-true l most u.1), v.0))

  is_leads : (x p : ℕ) → prev x ≡ p → Member member most x → leads pv member most b (suc x) p ≡ true
  unfolding leads
  is_leads x p e m =
      let q : suc x - 1 ≡ x = omega arith in
      rw (ne_eqb (suc x) 0 (omega arith), le-leb (suc x) most m.0, q, m.1, eq-eqb (prev x) p e)

  -- k members are met
  meets_is : (doubly : Bool) (k l p : ℕ) → meets nx pv member most b doubly k l p ≡ true
      → Met next prev doubly l p (read next k l)
      × All (Member member most) (read next k l) × (length (read next k l) ≡ k)
  unfolding meets
  meets_is doubly zero l p e = (eqb-true l 0 e, tt, refl)
  meets_is doubly (suc k) l p e =
      let t = both (leads pv member most b l p) (meets nx pv member most b doubly k (next (linked l)) (if doubly then l else 0)) e in
      let u = leads_is l p t.0 in
      let i = meets_is doubly k (next (linked l)) (if doubly then l else 0) t.1 in
      let behind : (if doubly then l else 0) ≡ (if doubly then suc (linked l) else 0) = ap (λ (x : ℕ). if doubly then x else 0) u.0 in
      ((u.0, (u.1, rw behind at i.0)), (u.2, i.1), ap suc i.2)

  is_meets : (doubly : Bool) (l p : ℕ) (xs : List ℕ) → Met next prev doubly l p xs → All (Member member most) xs
      → meets nx pv member most b doubly (length xs) l p ≡ true
  unfolding meets
  is_meets doubly l p [] w a = eq-eqb l 0 w
  is_meets doubly l p (x ∷ xs) w a =
      let q : suc x - 1 ≡ x = omega arith in
      rw (w.0, is_leads x p w.1.0 a.0, q) (is_meets doubly (next x) (if doubly then suc x else 0) xs w.1.1 a.1)

  -- the list holds xs: just its members, each once
  pub record Whole (doubly : Bool) (head : ℕ) (xs : List ℕ) : Type 0 where
    pub walk : Met next prev doubly (at b head) 0 xs
    pub once : Once xs
    pub members : All (Member member most) xs
    pub all : (y : ℕ) → y < most → member y ≡ true → In y xs

  pub holds_is : (doubly : Bool) (head : ℕ) → holds nx pv member most b doubly head ≡ true
      → Whole doubly head (list_read nx member most b head)
  holds_is doubly head e =
      let xs = list_read nx member most b head in
      let i = meets_is doubly (how_many member most) (at b head) 0 e in
      let o : Once xs = stack_once next (at b head) xs (met_stack next prev doubly (at b head) 0 xs i.0) in
      record { walk = i.0; once = o; members = i.1; all = has_all member most xs o i.1 i.2 }

  pub is_holds : (doubly : Bool) (head : ℕ) (xs : List ℕ) → Whole doubly head xs
      → holds nx pv member most b doubly head ≡ true
  is_holds doubly head xs W =
      rw (← as_many member most xs W.once W.members W.all) (is_meets doubly (at b head) 0 xs W.walk W.members)

-- ---- families of lists: the members of list i are those whose home is its head
module _ {nx pv : ℕ → ℕ} {member : ℕ → ℕ → Bool} {N : ℕ} {b : List ℕ} {H : ℕ → Type 0} {place home : ℕ → ℕ} {rows : ℕ → List ℕ}
    (same : (i y : ℕ) → H i → y < N → member i y ≡ eqb (home y) (place i)) where
  family : {Meets : ℕ → List ℕ → Type 0} (doubly : Bool)
      → ((i : ℕ) → H i → Whole nx pv (member i) N b doubly (place i) (rows i))
      → ((i : ℕ) → H i → Meets (place i) (rows i)) → Family Meets H place N home rows
  family doubly W row =
      record {
        row = row;
        members = λ i k. all_map {R = At N home (place i)}
            (λ y (t : Member (member i) N y). record { low = t.0; is = eqb-true (home y) (place i) (sym (same i y k t.0) ∙ t.1) })
            (rows i) (W i k).members;
        all = λ i k y l e. (W i k).all y l (same i y k l ∙ eq-eqb (home y) (place i) e);
      }

  whole : {Meets : ℕ → List ℕ → Type 0} (doubly : Bool) (i : ℕ) → H i → Family Meets H place N home rows
      → Met (λ n. at b (nx n)) (λ n. at b (pv n)) doubly (at b (place i)) 0 (rows i) → Once (rows i)
      → Whole nx pv (member i) N b doubly (place i) (rows i)
  whole doubly i k F walk once =
      record {
        walk = walk;
        once = once;
        members = all_map {R = Member (member i) N}
            (λ y (t : At N home (place i) y). (t.low, same i y k t.low ∙ eq-eqb (home y) (place i) t.is)) (rows i) (F.members i k);
        all = λ y l e. F.all i k y l (eqb-true (home y) (place i) (sym (same i y k l) ∙ e));
      }

  pub doubly_read : ((i : ℕ) → H i → Whole nx pv (member i) N b true (place i) (rows i))
      → Family (Doubly nx pv b) H place N home rows
  doubly_read W =
      family true W (λ i k. record {
        row = record { walk = met_seg (λ n. at b (nx n)) (λ n. at b (pv n)) (at b (place i)) 0 (rows i) (W i k).walk; once = (W i k).once };
      })

  pub singly_read : ((i : ℕ) → H i → Whole nx pv (member i) N b false (place i) (rows i))
      → Family (Singly nx pv b) H place N home rows
  singly_read W =
      family false W (λ i k. record {
        walk = met_stack (λ n. at b (nx n)) (λ n. at b (pv n)) false (at b (place i)) 0 (rows i) (W i k).walk;
        once = (W i k).once;
        behind = met_zeros (λ n. at b (nx n)) (λ n. at b (pv n)) (at b (place i)) (rows i) (W i k).walk;
      })

  pub read_doubly : Family (Doubly nx pv b) H place N home rows → (i : ℕ) → H i
      → holds nx pv (member i) N b true (place i) ≡ true
  read_doubly F i k =
      is_holds nx pv (member i) N b true (place i) (rows i)
      (whole true i k F (seg_met (λ n. at b (nx n)) (λ n. at b (pv n)) (at b (place i)) 0 (rows i) (F.row i k).row.walk) (F.row i k).row.once)

  pub read_singly : Family (Singly nx pv b) H place N home rows → (i : ℕ) → H i
      → holds nx pv (member i) N b false (place i) ≡ true
  read_singly F i k =
      is_holds nx pv (member i) N b false (place i) (rows i)
      (whole false i k F (stack_met (λ n. at b (nx n)) (λ n. at b (pv n)) (at b (place i)) (rows i) (F.row i k).walk (F.row i k).behind) (F.row i k).once)
