-- A family of lists over one kind of record. Each record has at most one home, the head word of the list that it
-- belongs to, so the lists have no member in common. What joining, leaving and writes elsewhere leave of a family.
-- Assumes nothing.
use Rattle.std.specs.Prelude.{◌≡◌, refl, ◌≢◌, List, [], ◌∷◌, ◌++◌, ℕ, zero, suc, ◌<◌, ◌≤◌, length}
use Rattle.std.proofs.Common.{sym, ap, ◌∙◌, inl, inr, arith}
use Rattle.std.proofs.Math.Logic.{Ne-symm as flip}
use Rattle.std.proofs.Math.Decide.{ℕ_discrete}
use Rattle.rules.specs.Books.{at}
use Rattle.sequences.specs.Update.{to, to_same, to_other}
use Rattle.sequences.specs.Sequences.{
  All,
  Not,
  Once,
  In,
  erase,
  Split,
  split,
  erase_is,
  in_drop,
  in_put,
  once_gone,
  all_drop,
  all_put,
  last_link,
  all_map,
  all_two,
  behind_in,
  next_in,
  prev_in,
}
use Rattle.sequences.specs.Linked.{
  Doubly,
  Singly,
  Stack,
  Lay,
  joined,
  left,
  join_in,
  leave_in,
  join_strange,
  leave_strange,
  joined_other,
  left_other,
  LinksSame,
  doubly_same,
  singly_same,
}

-- record y is one of N, and its home is h
pub record At (N : ℕ) (home : ℕ → ℕ) (h y : ℕ) : Type 0 where
  pub low : y < N
  pub is : home y ≡ h

-- list i, for i of the kind H, has its head at `place i`. `Meets h xs` says that the list with the head h holds xs
pub record Family (Meets : ℕ → List ℕ → Type 0) (H : ℕ → Type 0)
    (place : ℕ → ℕ) (N : ℕ) (home : ℕ → ℕ) (rows : ℕ → List ℕ) : Type 0 where
  pub row : (i : ℕ) → H i → Meets (place i) (rows i)
  pub members : (i : ℕ) → H i → All (At N home (place i)) (rows i)
  pub all : (i : ℕ) → H i → (y : ℕ) → y < N → home y ≡ place i → In y (rows i)

module _ {Meets : ℕ → List ℕ → Type 0} {H : ℕ → Type 0} {place : ℕ → ℕ} {N : ℕ}
    {home : ℕ → ℕ} {rows : ℕ → List ℕ} (F : Family Meets H place N home rows) where
  -- a record with another home is no member
  pub stranger : (i y : ℕ) → H i → home y ≢ place i → Not y (rows i)
  stranger i y k n = all_map {R = λ z. y ≢ z} (λ z (t : At N home (place i) z) e. n (ap home e ∙ t.is)) (rows i) (F.members i k)

  pub inside : (i : ℕ) → H i → All (λ y. y < N) (rows i)
  inside i k = all_map {R = λ y. y < N} (λ y (t : At N home (place i) y). t.low) (rows i) (F.members i k)

  -- list i has other members: x comes or goes
  module _ (Meets' : ℕ → List ℕ → Type 0) {rows' : ℕ → List ℕ} (i x : ℕ)
      (k : H i) (l : x < N) (others : (j : ℕ) → j ≢ i → rows' j ≡ rows j)
      (new : Meets' (place i) (rows' i)) (old : (j : ℕ) → H j → j ≢ i → Meets' (place j) (rows j)) where
    row_after : (j : ℕ) → H j → Dec (j ≡ i) → Meets' (place j) (rows' j)
    row_after j h (yes q) = rw q new
    row_after j h (no q) = rw (others j q) (old j h q)

    -- who is not x stays where it was
    kept : (v j : ℕ) (xs : List ℕ) → Not x xs → All (At N home (place j)) xs → All (At N (to x v home) (place j)) xs
    kept v j =
        all_two {S = At N (to x v home) (place j)}
        (λ y (d : x ≢ y) (t : At N home (place j) y). record { low = t.low; is = to_other x v home y (flip d) ∙ t.is })

    -- x, which has no home among the heads, comes to list i, at the gap behind pre
    pub comes : ((j : ℕ) → H j → place j ≡ place i → j ≡ i) → ((j : ℕ) → H j → home x ≢ place j)
        → (pre post : List ℕ) → rows i ≡ pre ++ post → rows' i ≡ pre ++ x ∷ post
        → Family Meets' H place N (to x (place i) home) rows'
    comes one out pre post s r =
        record {
          row = λ j h. row_after j h (ℕ_discrete j i);
          members = λ j h. members' j h (ℕ_discrete j i);
          all = λ j h y m e. all' j h y m e (ℕ_discrete y x) (ℕ_discrete j i);
        }
      where
        members' : (j : ℕ) → H j → Dec (j ≡ i) → All (At N (to x (place i) home) (place j)) (rows' j)
        members' j h (yes q) =
            rw (q, r) (all_put (At N (to x (place i) home) (place i)) x pre post (record { low = l; is = to_same x (place i) home x refl })
            (kept (place i) i (pre ++ post) (rw s at (stranger i x k (out i k))) (rw s at (F.members i k))))
        members' j h (no q) = rw (others j q) (kept (place i) j (rows j) (stranger j x h (out j h)) (F.members j h))

        all' : (j : ℕ) → H j → (y : ℕ) → y < N → to x (place i) home y ≡ place j → Dec (y ≡ x) → Dec (j ≡ i)
            → In y (rows' j)
        all' j h y m e (yes p) (yes q) = rw (q, r) (in_put x y pre post (inl p))
        all' j h y m e (yes p) (no q) = absurd (q (one j h (sym e ∙ to_same x (place i) home y p)))
        all' j h y m e (no p) (yes q) =
            rw (q, r) (in_put x y pre post (inr (rw s at (F.all i k y m (sym (to_other x (place i) home y p) ∙ e ∙ ap place q)))))
        all' j h y m e (no p) (no q) = rw (others j q) (F.all j h y m (sym (to_other x (place i) home y p) ∙ e))

    -- x leaves list i, and v is its home then, no head
    pub goes : (v : ℕ) → Once (rows i) → home x ≡ place i → ((j : ℕ) → H j → v ≢ place j)
        → ((j : ℕ) → H j → place j ≡ place i → j ≡ i) → rows' i ≡ erase x (rows i)
        → Family Meets' H place N (to x v home) rows'
    goes v o e out one r =
        record {
          row = λ j h. row_after j h (ℕ_discrete j i);
          members = λ j h. members' j h (ℕ_discrete j i);
          all = λ j h y m f. all' j h y m f (ℕ_discrete y x) (ℕ_discrete j i);
        }
      where
        s : Split x (rows i)
        s = split x (rows i) (F.all i k x l e)

        is : rows' i ≡ s.pre ++ s.post
        is = r ∙ erase_is x (rows i) s o

        members' : (j : ℕ) → H j → Dec (j ≡ i) → All (At N (to x v home) (place j)) (rows' j)
        members' j h (yes q) =
            rw (q, is) (kept v i (s.pre ++ s.post) (once_gone x s.pre s.post (rw s.is at o))
            (all_drop (At N home (place i)) x s.pre s.post (rw s.is at (F.members i k))))
        members' j h (no q) =
            rw (others j q) (kept v j (rows j) (stranger j x h (λ t. q (one j h (sym t ∙ e)))) (F.members j h))

        all' : (j : ℕ) → H j → (y : ℕ) → y < N → to x v home y ≡ place j → Dec (y ≡ x) → Dec (j ≡ i) → In y (rows' j)
        all' j h y m f (yes p) q = absurd (out j h (sym (to_same x v home y p) ∙ f))
        all' j h y m f (no p) (yes q) =
            rw (q, is) (in_drop x y s.pre s.post p (rw s.is at (F.all i k y m (sym (to_other x v home y p) ∙ f ∙ ap place q))))
        all' j h y m f (no p) (no q) = rw (others j q) (F.all j h y m (sym (to_other x v home y p) ∙ f))

-- ---- the lists stand where their words stand, and homes may change that are no heads of the family
-- homes before and after name the same members
pub record Alike (H : ℕ → Type 0) (place : ℕ → ℕ) (N : ℕ) (home home' : ℕ → ℕ) : Type 0 where
  pub keep : (i y : ℕ) → H i → y < N → home y ≡ place i → home' y ≡ place i
  pub back : (i y : ℕ) → H i → y < N → home' y ≡ place i → home y ≡ place i

pub alike : {H : ℕ → Type 0} {place : ℕ → ℕ} {N : ℕ} {home home' : ℕ → ℕ} → ((y : ℕ) → y < N → home' y ≡ home y)
    → Alike H place N home home'
alike f = record { keep = λ i y k l e. f y l ∙ e; back = λ i y k l e. sym (f y l) ∙ e }

-- x has no home among the heads, before and after
pub aside : {H : ℕ → Type 0} {place : ℕ → ℕ} {N : ℕ} {home : ℕ → ℕ} (x v : ℕ)
    → ((i : ℕ) → H i → (home x ≢ place i) × (v ≢ place i))
    → Alike H place N home (to x v home)
aside {H} {place} {N} {home} x v out =
    record { keep = λ i y k l e. keep' i y k e (ℕ_discrete y x); back = λ i y k l e. back' i y k e (ℕ_discrete y x) }
  where
    keep' : (i y : ℕ) → H i → home y ≡ place i → Dec (y ≡ x) → to x v home y ≡ place i
    keep' i y k e (yes q) = absurd ((out i k).0 (ap home (sym q) ∙ e))
    keep' i y k e (no q) = to_other x v home y q ∙ e

    back' : (i y : ℕ) → H i → to x v home y ≡ place i → Dec (y ≡ x) → home y ≡ place i
    back' i y k e (yes q) = absurd ((out i k).1 (sym (to_same x v home y q) ∙ e))
    back' i y k e (no q) = sym (to_other x v home y q) ∙ e

-- the words of the lists are in b' what they are in b
pub record Stand (nx pv : ℕ → ℕ) (H : ℕ → Type 0) (place : ℕ → ℕ) (N : ℕ) (home : ℕ → ℕ) (b b' : List ℕ) : Type 0 where
  pub heads : (i : ℕ) → H i → at b' (place i) ≡ at b (place i)
  pub links : (i y : ℕ) → H i → y < N → home y ≡ place i → LinksSame nx pv b b' y

module _ {nx pv : ℕ → ℕ} {H : ℕ → Type 0} {place : ℕ → ℕ} {N : ℕ} {home home' : ℕ → ℕ} {b b' : List ℕ}
    (S : Stand nx pv H place N home b b') (homes : Alike H place N home home') where
  same_links : (i : ℕ) (xs : List ℕ) → H i → All (At N home (place i)) xs → All (LinksSame nx pv b b') xs
  same_links i xs k = all_map {R = LinksSame nx pv b b'} (λ y (t : At N home (place i) y). S.links i y k t.low t.is) xs

  same_members : (i : ℕ) (xs : List ℕ) → H i → All (At N home (place i)) xs → All (At N home' (place i)) xs
  same_members i xs k =
      all_map {R = At N home' (place i)} (λ y (t : At N home (place i) y). record { low = t.low; is = homes.keep i y k t.low t.is }) xs

  pub doubly_stay : {rows : ℕ → List ℕ} → Family (Doubly nx pv b) H place N home rows
      → Family (Doubly nx pv b') H place N home' rows
  doubly_stay {rows} F =
      record {
        row = λ i k. doubly_same (same_links i (rows i) k (F.members i k)) (S.heads i k) (F.row i k);
        members = λ i k. same_members i (rows i) k (F.members i k);
        all = λ i k y l e. F.all i k y l (homes.back i y k l e);
      }

  pub singly_stay : {rows : ℕ → List ℕ} → Family (Singly nx pv b) H place N home rows
      → Family (Singly nx pv b') H place N home' rows
  singly_stay {rows} F =
      record {
        row = λ i k. singly_same (same_links i (rows i) k (F.members i k)) (S.heads i k) (F.row i k);
        members = λ i k. same_members i (rows i) k (F.members i k);
        all = λ i k y l e. F.all i k y l (homes.back i y k l e);
      }

-- ---- links are to records
-- a link that leads to one of N, or to none, is at most N
link_low : (N v : ℕ) → ((y : ℕ) → v ≡ suc y → y < N) → v ≤ N
link_low N zero f = omega arith
link_low N (suc v) f = f v refl

pub stack_link : {nx pv : ℕ → ℕ} {H : ℕ → Type 0} {place : ℕ → ℕ}
    {N : ℕ} {home : ℕ → ℕ} {b : List ℕ} {rows : ℕ → List ℕ}
    → Family (Singly nx pv b) H place N home rows → (i : ℕ) → H i → at b (place i) ≤ N
stack_link {nx} {pv} {H} {place} {N} {home} {b} {rows} F i k = go (rows i) (F.row i k).walk (inside F i k)
  where
    go : (xs : List ℕ) → Stack (λ n. at b (nx n)) (at b (place i)) xs → All (λ y. y < N) xs → at b (place i) ≤ N
    go [] w a = omega arith
    go (x ∷ xs) w a = omega (arith, w.0, a.0)

-- ---- a doubly linked list of the family, in the words of the books
-- the heads of the family and the links of its N records are different words of len
pub record Apart (nx pv : ℕ → ℕ) (H : ℕ → Type 0) (place : ℕ → ℕ) (N len : ℕ) : Type 0 where
  pub lay : (i : ℕ) → H i → Lay nx pv (place i) N len
  pub one : (i j : ℕ) → H i → H j → place j ≡ place i → j ≡ i

module _ {nx pv : ℕ → ℕ} {H : ℕ → Type 0} {place : ℕ → ℕ} {N : ℕ} {home : ℕ → ℕ} {b : List ℕ} {rows : ℕ → List ℕ}
    (F : Family (Doubly nx pv b) H place N home rows) (i : ℕ) (k : H i) where
  pub head_link : at b (place i) ≤ N
  head_link = link_low N (at b (place i)) (behind_in (λ y. y < N) [] (rows i) refl (inside F i k) (F.row i k).row)

  module _ (x : ℕ) (l : x < N) (e : home x ≡ place i) where
    s : Split x (rows i)
    s = split x (rows i) (F.all i k x l e)

    pub member_links : (at b (nx x) ≤ N) × (at b (pv x) ≤ N)
    member_links =
        let row = rw s.is at (F.row i k).row in
        let all = rw s.is at (inside F i k) in (
          link_low N (at b (nx x)) (next_in (λ y. y < N) s.pre s.post all row),
          link_low N (at b (pv x)) (prev_in (λ y. y < N) s.pre s.post all row),
        )

    -- x leaves: who is neither x nor on its list keeps its links, and every list has its members
    module _ (W : Apart nx pv H place N (length b)) where
      pub leave_keeps : (y : ℕ) → y ≢ x → home y ≢ place i → LinksSame nx pv b (left nx pv (place i) x b) y
      leave_keeps y d n = leave_strange (W.lay i k) x y d (rows i) (stranger F i y k n) (F.row i k) s.pre s.post s.is

      pub leaves : (v : ℕ) → ((j : ℕ) → H j → v ≢ place j)
          → Family (Doubly nx pv (left nx pv (place i) x b)) H place N (to x v home) (to i (erase x (rows i)) rows)
      leaves v out =
          goes F (Doubly nx pv (left nx pv (place i) x b)) i x k l
          (λ j d. to_other i (erase x (rows i)) rows j d) new old v (F.row i k).row.once e out (λ j h. W.one i j k h)
          (to_same i (erase x (rows i)) rows i refl)
        where
          new : Doubly nx pv (left nx pv (place i) x b) (place i) (to i (erase x (rows i)) rows i)
          new =
              rw (to_same i (erase x (rows i)) rows i refl, erase_is x (rows i) s (F.row i k).row.once)
              (leave_in (W.lay i k) x s.pre s.post (rw s.is at (inside F i k)) (rw s.is at (F.row i k)))

          old : (j : ℕ) → H j → j ≢ i → Doubly nx pv (left nx pv (place i) x b) (place j) (rows j)
          old j h d =
              doubly_same (all_map {R = LinksSame nx pv b (left nx pv (place i) x b)}
              (λ y (t : At N home (place j) y). leave_keeps y (λ q. d (W.one i j k h (sym t.is ∙ ap home q ∙ e)))
              (λ q. d (W.one i j k h (sym t.is ∙ q)))) (rows j) (F.members j h))
              (left_other nx pv (place i) x (place j) b ((W.lay j h).h_nx x) ((W.lay j h).h_pv x)
              (λ q. d (W.one i j k h q)) (λ y _. (W.lay j h).h_nx y) (λ y _. (W.lay j h).h_pv y))
              (F.row j h)

  -- x, at home in no list, joins at the gap behind pre, where p is the link to the last: the same
  module _ (x : ℕ) (l : x < N) (out : (j : ℕ) → H j → home x ≢ place j) (W : Apart nx pv H place N (length b))
      (p : ℕ) (pre post : List ℕ) (s : rows i ≡ pre ++ post) (e : p ≡ last_link 0 pre) where
    pub join_keeps : (y : ℕ) → y ≢ x → home y ≢ place i → LinksSame nx pv b (joined nx pv (place i) p x b) y
    join_keeps y d n = join_strange (W.lay i k) x y d (rows i) (stranger F i y k n) (F.row i k) pre post e s

    pub joins : Family (Doubly nx pv (joined nx pv (place i) p x b)) H place N
        (to x (place i) home) (to i (pre ++ x ∷ post) rows)
    joins =
        comes F (Doubly nx pv (joined nx pv (place i) p x b)) i x k l (λ j d. to_other i (pre ++ x ∷ post) rows j d) new old
        (λ j h. W.one i j k h) out pre post s (to_same i (pre ++ x ∷ post) rows i refl)
      where
        new : Doubly nx pv (joined nx pv (place i) p x b) (place i) (to i (pre ++ x ∷ post) rows i)
        new =
            rw (to_same i (pre ++ x ∷ post) rows i refl)
            (join_in (W.lay i k) pre post e l (rw s at (stranger F i x k (out i k))) (rw s at (inside F i k)) (rw s at (F.row i k)))

        old : (j : ℕ) → H j → j ≢ i → Doubly nx pv (joined nx pv (place i) p x b) (place j) (rows j)
        old j h d =
            doubly_same (all_map {R = LinksSame nx pv b (joined nx pv (place i) p x b)}
            (λ y (t : At N home (place j) y). join_keeps y (λ q. out j h (ap home (sym q) ∙ t.is)) (λ q. d (W.one i j k h (sym t.is ∙ q))))
            (rows j) (F.members j h))
            (joined_other nx pv (place i) p x (place j) b ((W.lay j h).h_nx x) ((W.lay j h).h_pv x)
            (λ q. d (W.one i j k h q)) (λ y _. (W.lay j h).h_nx y) (λ y _. (W.lay j h).h_pv y))
            (F.row j h)
