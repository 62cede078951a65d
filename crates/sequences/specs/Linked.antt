-- Sequences in the words of the books: the writes of joining and leaving a doubly linked list, and what they leave of
-- it and of every other word; and the freed pools' lists, which are linked by next alone.
-- Assumes nothing.
use Rattle.std.specs.Prelude.{◌≡◌, ◌≢◌, not, List, [], ◌∷◌, ◌++◌, set, if◌then◌else◌}
use Rattle.std.proofs.Math.Path.{refl, ap}
use Rattle.std.proofs.Common.{sym, ◌∙◌, length-set}
use Prim.Native.Nat.{ℕ, zero, suc, ◌+◌, ◌*◌, ◌-◌, ◌<◌}
use native.Mathlib.Omega.{arith}
use Rattle.std.proofs.Math.Dec.{eqb-suc-zero}
use Rattle.std.proofs.Math.ListN.{length}
use Rattle.std.proofs.Math.Seq.{get_or-set_same, get_or-set_other, lt-length-set}
use Rattle.rules.specs.Say.{only}
use Rattle.rules.specs.Books.{at, none?}
use Rattle.rules.specs.Lists.{leave, join, go_in_after, leave_by, join_by}
use Rattle.sequences.specs.Sequences.{
  All,
  Not,
  Once,
  Row,
  last_link,
  place,
  Joined,
  Left,
  row_same,
  row_joins,
  row_leaves,
  next_in,
  prev_in,
  before_in,
  behind_in,
  all_map,
  all_two,
}

-- ---- the two kinds of lists, by their head word
-- from the head word h exactly xs is met, linked both ways
pub record Doubly (nx pv : ℕ → ℕ) (b : List ℕ) (h : ℕ) (xs : List ℕ) : Type 0 where
  pub row : Row (λ n. at b (nx n)) (λ n. at b (pv n)) (at b h) xs

-- the same by next alone, and each previous is 0
abbrev pub Stack : (ℕ → ℕ) → ℕ → List ℕ → Type 0
Stack next k [] = k ≡ 0
Stack next k (x ∷ xs) = (k ≡ suc x) × Stack next (next x) xs

pub record Singly (nx pv : ℕ → ℕ) (b : List ℕ) (h : ℕ) (xs : List ℕ) : Type 0 where
  pub walk : Stack (λ n. at b (nx n)) (at b h) xs
  pub once : Once xs
  pub behind : All (λ y. at b (pv y) ≡ 0) xs

-- the words of one list, of at most N members, lie in len words and do not meet
pub record Lay (nx pv : ℕ → ℕ) (h N len : ℕ) : Type 0 where
  pub nx_nx : (m n : ℕ) → m ≢ n → nx m ≢ nx n
  pub pv_pv : (m n : ℕ) → m ≢ n → pv m ≢ pv n
  pub nx_pv : (m n : ℕ) → nx m ≢ pv n
  pub pv_nx : (m n : ℕ) → pv m ≢ nx n
  pub nx_h : (n : ℕ) → nx n ≢ h
  pub pv_h : (n : ℕ) → pv n ≢ h
  pub h_nx : (n : ℕ) → h ≢ nx n
  pub h_pv : (n : ℕ) → h ≢ pv n
  pub h_in : h < len
  pub nx_in : (n : ℕ) → n < N → nx n < len
  pub pv_in : (n : ℕ) → n < N → pv n < len

-- ---- the writes, over any two words nx n and pv n of member n
-- v is stored at the word that f gives for the link's target, if it has one
abbrev store : List ℕ → (ℕ → ℕ) → ℕ → ℕ → List ℕ
store b f zero v = b
store b f (suc n) v = set b (f n) v

-- x joins behind the link p, at the front where p is 0, and k is the link that stood there
unfoldable pub joined_by : (nx pv : ℕ → ℕ) (h k p x : ℕ) → List ℕ → List ℕ
joined_by nx pv h k p x b = set (store (set (set b (nx x) k) (pv x) p) pv k (suc x)) (place h nx p) (suc x)

-- the same, that link being read from the books
abbrev pub standing : (nx : ℕ → ℕ) (h p : ℕ) → List ℕ → ℕ
standing nx h p b = place (at b h) (λ n. at b (nx n)) p

abbrev pub joined : (nx pv : ℕ → ℕ) (h p x : ℕ) → List ℕ → List ℕ
joined nx pv h p x b = joined_by nx pv h (standing nx h p b) p x b

unfoldable pub left : (nx pv : ℕ → ℕ) (h x : ℕ) → List ℕ → List ℕ
left nx pv h x b =
    set (set (store (set b (place h nx (at b (pv x))) (at b (nx x))) pv (at b (nx x)) (at b (pv x))) (nx x) 0) (pv x) 0

-- what a store leaves: v at the target's word, and every other word
store_same : (f : ℕ → ℕ) (k v y : ℕ) (b : List ℕ) → k ≡ suc y → f y < length b → at (store b f k v) (f y) ≡ v
store_same f zero v y b e l = absurd (omega arith)
store_same f (suc k) v y b e l = let q : k ≡ y = omega arith in rw q (get_or-set_same b (f y) v 0 l)

store_other : (f : ℕ → ℕ) (k v i : ℕ) (b : List ℕ) → ((y : ℕ) → k ≡ suc y → i ≢ f y) → at (store b f k v) i ≡ at b i
store_other f zero v i b n = refl
store_other f (suc k) v i b n = get_or-set_other b (f k) i v 0 (n k refl)

store_length : (b : List ℕ) (f : ℕ → ℕ) (k v : ℕ) → length (store b f k v) ≡ length b
store_length b f zero v = refl
store_length b f (suc k) v = length-set b (f k) v

lt_store : (b : List ℕ) (f : ℕ → ℕ) (k v : ℕ) {i : ℕ} → i < length b → i < length (store b f k v)
lt_store b f k v {i} h = rw store_length h

place_other : (f : ℕ → ℕ) (h k i : ℕ) → (k ≡ 0 → i ≢ h) → ((y : ℕ) → k ≡ suc y → i ≢ f y) → i ≢ place h f k
place_other f h zero i m n = m refl
place_other f h (suc k) i m n = n k refl

-- ---- they are the rules' writes
store_only : (b : List ℕ) (f : ℕ → ℕ) (base k v : ℕ) → ((y : ℕ) → f y ≡ base + 8 * y + 1)
    → only (not (none? k)) (λ x. set x (base + 8 * (k - 1) + 1) v) b ≡ store b f k v
store_only b f base zero v e = refl
store_only b f base (suc k) v e =
    let q : base + 8 * (suc k - 1) + 1 ≡ f k = omega (arith, e k) in
    rw (eqb-suc-zero k, q)

place_only : (f : ℕ → ℕ) (base h k : ℕ) → ((y : ℕ) → f y ≡ base + 8 * y)
    → (if none? k then h else base + 8 * (k - 1)) ≡ place h f k
place_only f base h zero e = refl
place_only f base h (suc k) e = rw (eqb-suc-zero k) (omega (arith, e k))

module _ (nx pv : ℕ → ℕ) (base : ℕ) (e : (y : ℕ) → nx y ≡ base + 8 * y)
    (f : (y : ℕ) → pv y ≡ base + 8 * y + 1) (h n : ℕ) (b : List ℕ) where
  pub leave_is : leave base h n b ≡ left nx pv h n b
  unfolding leave_by left
  leave_is =
      rw (place_only nx base h (at b (base + 8 * n + 1)) e, store_only _ pv base (at b (base + 8 * n)) (at b (base + 8 * n + 1)) f, ← f n, ← e n)

  -- joining at the front and going in after q are one, behind the link 0 and behind the link to q
  join_by_is : (k p : ℕ) → join_by base (place h nx p) k p n b ≡ joined_by nx pv h k p n b
  unfolding join_by joined_by
  join_by_is k p = let q : n + 1 ≡ suc n = omega arith in rw (store_only _ pv base k (n + 1) f, ← f n, ← e n, q)

  pub join_is : join base h n b ≡ joined nx pv h 0 n b
  join_is = join_by_is (at b h) 0

  pub go_in_is : (q : ℕ) → go_in_after base q n b ≡ joined nx pv h (suc q) n b
  go_in_is q = let d : q + 1 ≡ suc q = omega arith in rw (← e q, d) (join_by_is (at b (nx q)) (suc q))

-- ---- what they write, b' being the books after
module _ {nx pv : ℕ → ℕ} {h N len : ℕ} (L : Lay nx pv h N len) (x : ℕ) (b b' : List ℕ) where
  join_writes : (k p : ℕ) → b' ≡ joined_by nx pv h k p x b → nx x < length b → pv x < length b → h < length b
      → ((y : ℕ) → p ≡ suc y → nx y < length b) → ((y : ℕ) → k ≡ suc y → pv y < length b) → p ≢ suc x → k ≢ suc x
      → Joined x p k (λ n. at b (nx n)) (λ n. at b (pv n)) (at b h) (λ n. at b' (nx n)) (λ n. at b' (pv n)) (at b' h)
  unfolding joined_by
  join_writes k p e i j l f g c d =
      record {
        own_next = past (nx x) (λ _. L.nx_h x) (λ y q. L.nx_nx x y (λ t. c (q ∙ ap suc (sym t)))) (λ y _. L.nx_pv x y)
            ∙ get_or-set_other (set b (nx x) k) (pv x) (nx x) p 0 (L.nx_pv x x)
            ∙ get_or-set_same b (nx x) k 0 i;
        own_prev = past (pv x) (λ _. L.pv_h x) (λ y _. L.pv_nx x y) (λ y q. L.pv_pv x y (λ t. d (q ∙ ap suc (sym t))))
            ∙ get_or-set_same (set b (nx x) k) (pv x) p 0 (lt-length-set b (nx x) k j);
        rest = record {
          head = λ z. rw (e, z) (search (get_or-set_same, lt-length-set, lt_store));
          head_same = λ z. past h (λ q. absurd (z q)) (λ y _. L.h_nx y) (λ y _. L.h_pv y) ∙ simp (get_or-set_other, L.h_nx, L.h_pv);
          before = λ y a q. let u : nx y < length b = f y q in rw (e, q) (search (get_or-set_same, lt-length-set, lt_store));
          behind = λ y a q. rw e (simp (get_or-set_other, place_other nx h p (pv y) (λ _. L.pv_h y) (λ z _. L.pv_nx y z))
              (store_same pv k (suc x) y (set (set b (nx x) k) (pv x) p) q (lt-length-set (set b (nx x) k) (pv x) p (lt-length-set b (nx x) k (g y q)))));
          next_same = λ y a q. past (nx y) (λ _. L.nx_h y) (λ z r. L.nx_nx y z (λ t. q (r ∙ ap suc (sym t)))) (λ z _. L.nx_pv y z)
              ∙ simp (get_or-set_other, L.nx_pv, L.nx_nx);
          prev_same = λ y a q. past (pv y) (λ _. L.pv_h y) (λ z _. L.pv_nx y z) (λ z r. L.pv_pv y z (λ t. q (r ∙ ap suc (sym t))))
              ∙ simp (get_or-set_other, L.pv_pv, L.pv_nx);
        };
      }
    where
      past : (i : ℕ) → (p ≡ 0 → i ≢ h) → ((y : ℕ) → p ≡ suc y → i ≢ nx y) → ((y : ℕ) → k ≡ suc y → i ≢ pv y)
          → at b' i ≡ at (set (set b (nx x) k) (pv x) p) i
      past i m n o = let d : i ≢ place h nx p = place_other nx h p i m n in rw e (simp (get_or-set_other, store_other))

  leave_writes : (p n : ℕ) → b' ≡ set (set (store (set b (place h nx p) n) pv n p) (nx x) 0) (pv x) 0
      → h < length b → ((y : ℕ) → p ≡ suc y → nx y < length b) → ((y : ℕ) → n ≡ suc y → pv y < length b)
      → Left x p n (λ n. at b (nx n)) (λ n. at b (pv n)) (at b h) (λ n. at b' (nx n)) (λ n. at b' (pv n)) (at b' h)
  leave_writes p n e l f g =
      record {
        head = λ z. past h (L.h_nx x) (L.h_pv x) (λ y _. L.h_pv y) ∙ rw z (get_or-set_same b h n 0 l);
        head_same = λ z. past h (L.h_nx x) (L.h_pv x) (λ y _. L.h_pv y)
            ∙ get_or-set_other b (place h nx p) h n 0 (place_other nx h p h (λ q. absurd (z q)) (λ y _. L.h_nx y));
        before = λ y a c. past (nx y) (L.nx_nx y x a) (L.nx_pv y x) (λ z _. L.nx_pv y z) ∙ rw c (get_or-set_same b (nx y) n 0 (f y c));
        behind = λ y a c. rw e (simp (get_or-set_other, L.pv_pv, L.pv_nx)
            (store_same pv n p y (set b (place h nx p) n) c (lt-length-set b (place h nx p) n (g y c))));
        next_same = λ y a c. past (nx y) (L.nx_nx y x a) (L.nx_pv y x) (λ z _. L.nx_pv y z)
            ∙ get_or-set_other b (place h nx p) (nx y) n 0 (place_other nx h p (nx y) (λ _. L.nx_h y) (λ z q. L.nx_nx y z (λ t. c (q ∙ ap suc (sym t)))));
        prev_same = λ y a c. past (pv y) (L.pv_nx y x) (L.pv_pv y x a) (λ z q. L.pv_pv y z (λ t. c (q ∙ ap suc (sym t))))
            ∙ get_or-set_other b (place h nx p) (pv y) n 0 (place_other nx h p (pv y) (λ _. L.pv_h y) (λ z _. L.pv_nx y z));
      }
    where
      past : (i : ℕ) → i ≢ nx x → i ≢ pv x → ((y : ℕ) → n ≡ suc y → i ≢ pv y) → at b' i ≡ at (set b (place h nx p) n) i
      past i a c d = rw e (simp (get_or-set_other, store_other))

-- ---- the list itself
module _ {nx pv : ℕ → ℕ} {h N : ℕ} {b : List ℕ} (L : Lay nx pv h N (length b)) where
  pub join_in : {x p : ℕ} (pre post : List ℕ) → p ≡ last_link 0 pre → x < N → Not x (pre ++ post)
      → All (λ y. y < N) (pre ++ post) → Doubly nx pv b h (pre ++ post)
      → Doubly nx pv (joined nx pv h p x b) h (pre ++ x ∷ post)
  join_in {x} {p} pre post e l n i r =
      record {
        row = row_joins pre post e (join_writes L x b (joined nx pv h p x b) (standing nx h p b) p refl (L.nx_in x l) (L.pv_in x l) L.h_in
            (λ y q. L.nx_in y (before_in (λ y. y < N) pre post e i y q)) (λ y q. L.pv_in y (behind_in (λ y. y < N) pre post e i r.row y q))
            (λ q. before_in (λ y. x ≢ y) pre post e n x q refl) (λ q. behind_in (λ y. x ≢ y) pre post e n r.row x q refl)) n r.row;
      }

  pub leave_in : (x : ℕ) (pre post : List ℕ) → All (λ y. y < N) (pre ++ x ∷ post) → Doubly nx pv b h (pre ++ x ∷ post)
      → Doubly nx pv (left nx pv h x b) h (pre ++ post)
  unfolding left
  leave_in x pre post i r =
      record {
        row = row_leaves pre post (leave_writes L x b (left nx pv h x b) (at b (pv x)) (at b (nx x)) refl L.h_in
            (λ y e. L.nx_in y (prev_in (λ y. y < N) pre post i r.row y e))
            (λ y e. L.pv_in y (next_in (λ y. y < N) pre post i r.row y e))) r.row;
      }

-- ---- where the words of a list stand, the list stands
-- both links of record y are in b' what they are in b
abbrev pub LinksSame : (nx pv : ℕ → ℕ) → List ℕ → List ℕ → ℕ → Type 0
LinksSame nx pv b b' y = (at b' (nx y) ≡ at b (nx y)) × (at b' (pv y) ≡ at b (pv y))

stack_same : (nx pv : ℕ → ℕ) (b b' : List ℕ) (k : ℕ) (xs : List ℕ) → All (LinksSame nx pv b b') xs
    → Stack (λ n. at b (nx n)) k xs → Stack (λ n. at b' (nx n)) k xs
stack_same nx pv b b' k [] a s = s
stack_same nx pv b b' k (x ∷ xs) a s = (s.0, rw a.0.0 (stack_same nx pv b b' (at b (nx x)) xs a.1 s.1))

behind_same : (nx pv : ℕ → ℕ) (b b' xs : List ℕ) → All (LinksSame nx pv b b') xs → All (λ y. at b (pv y) ≡ 0) xs
    → All (λ y. at b' (pv y) ≡ 0) xs
behind_same nx pv b b' xs = all_two {S = λ y. at b' (pv y) ≡ 0} (λ y (t : LinksSame nx pv b b' y) (q : at b (pv y) ≡ 0). t.1 ∙ q) xs

module _ {nx pv : ℕ → ℕ} {b b' xs : List ℕ} {h : ℕ} (same : All (LinksSame nx pv b b') xs) where
  pub doubly_same : at b' h ≡ at b h → Doubly nx pv b h xs → Doubly nx pv b' h xs
  doubly_same e r =
      record {
        row = rw e (row_same
            (all_map {R = λ y. at b' (nx y) ≡ at b (nx y)} (λ y (t : LinksSame nx pv b b' y). t.0) xs same)
            (all_map {R = λ y. at b' (pv y) ≡ at b (pv y)} (λ y (t : LinksSame nx pv b b' y). t.1) xs same) r.row);
      }

  pub singly_same : at b' h ≡ at b h → Singly nx pv b h xs → Singly nx pv b' h xs
  singly_same e r =
      record { walk = rw e (stack_same nx pv b b' (at b h) xs same r.walk); once = r.once; behind = behind_same nx pv b b' xs same r.behind }

  -- x, which is no member, comes to the front
  pub singly_comes : {x : ℕ} → at b' h ≡ suc x → at b' (nx x) ≡ at b h → at b' (pv x) ≡ 0 → Not x xs
      → Singly nx pv b h xs → Singly nx pv b' h (x ∷ xs)
  singly_comes e f g n r =
      record {
        walk = (e, rw f (stack_same nx pv b b' (at b h) xs same r.walk));
        once = (n, r.once);
        behind = (g, behind_same nx pv b b' xs same r.behind);
      }

  -- the front goes
  pub singly_goes : {x : ℕ} → at b' h ≡ at b (nx x) → Singly nx pv b h (x ∷ xs) → Singly nx pv b' h xs
  singly_goes {x} e r =
      record {
        walk = rw e (stack_same nx pv b b' (at b (nx x)) xs same r.walk.1);
        once = r.once.1;
        behind = behind_same nx pv b b' xs same r.behind.1;
      }

-- ---- joining and leaving touch no other word
pub joined_other : (nx pv : ℕ → ℕ) (h p x i : ℕ) (b : List ℕ) → i ≢ nx x → i ≢ pv x → i ≢ h
    → ((y : ℕ) → p ≡ suc y → i ≢ nx y) → ((y : ℕ) → standing nx h p b ≡ suc y → i ≢ pv y)
    → at (joined nx pv h p x b) i ≡ at b i
unfolding joined_by
joined_other nx pv h p x i b q r s t u =
    let d : i ≢ place h nx p = place_other nx h p i (λ _. s) t in
    simp (get_or-set_other, store_other)

pub left_other : (nx pv : ℕ → ℕ) (h x i : ℕ) (b : List ℕ) → i ≢ nx x → i ≢ pv x → i ≢ h
    → ((y : ℕ) → at b (pv x) ≡ suc y → i ≢ nx y) → ((y : ℕ) → at b (nx x) ≡ suc y → i ≢ pv y)
    → at (left nx pv h x b) i ≡ at b i
unfolding left
left_other nx pv h x i b p q r s t =
    let d : i ≢ place h nx (at b (pv x)) = place_other nx h (at b (pv x)) i (λ _. r) s in
    simp (get_or-set_other, store_other)

pub joined_length : (nx pv : ℕ → ℕ) (h p x : ℕ) (b : List ℕ) → length (joined nx pv h p x b) ≡ length b
unfolding joined_by
joined_length nx pv h p x b = simp (length-set, store_length)

pub left_length : (nx pv : ℕ → ℕ) (h x : ℕ) (b : List ℕ) → length (left nx pv h x b) ≡ length b
unfolding left
left_length nx pv h x b = simp (length-set, store_length)

-- who has left has both links 0
pub left_own : {nx pv : ℕ → ℕ} {h N : ℕ} (b : List ℕ) → Lay nx pv h N (length b) → (x : ℕ) → x < N
    → (at (left nx pv h x b) (nx x) ≡ 0) × (at (left nx pv h x b) (pv x) ≡ 0)
unfolding left
left_own {nx} {pv} {h} {N} b L x l =
    let i : nx x < length b = L.nx_in x l in
    let j : pv x < length b = L.pv_in x l in
    (search (get_or-set_other, get_or-set_same, lt-length-set, lt_store, L.nx_pv), search (get_or-set_same, lt-length-set, lt_store))

-- ---- a record that is no member, nor the one that joins or leaves, keeps its links
module _ {nx pv : ℕ → ℕ} {h N : ℕ} {b : List ℕ} (L : Lay nx pv h N (length b))
    (x y : ℕ) (d : y ≢ x) (xs : List ℕ) (n : Not y xs) (r : Doubly nx pv b h xs) (pre post : List ℕ) where
  pub join_strange : {p : ℕ} → p ≡ last_link 0 pre → xs ≡ pre ++ post → LinksSame nx pv b (joined nx pv h p x b) y
  join_strange {p} f e =
      let row = rw e at r.row in
      let not = rw e at n in (
        joined_other nx pv h p x (nx y) b (L.nx_nx y x d) (L.nx_pv y x) (L.nx_h y)
            (λ z q. L.nx_nx y z (before_in (λ z. y ≢ z) pre post f not z q)) (λ z q. L.nx_pv y z),
        joined_other nx pv h p x (pv y) b (L.pv_nx y x) (L.pv_pv y x d) (L.pv_h y) (λ z q. L.pv_nx y z)
            (λ z q. L.pv_pv y z (behind_in (λ z. y ≢ z) pre post f not row z q)),
      )

  pub leave_strange : xs ≡ pre ++ x ∷ post → LinksSame nx pv b (left nx pv h x b) y
  leave_strange e =
      let row = rw e at r.row in
      let not = rw e at n in (
        left_other nx pv h x (nx y) b (L.nx_nx y x d) (L.nx_pv y x) (L.nx_h y)
            (λ z f. L.nx_nx y z (prev_in (λ z. y ≢ z) pre post not row z f)) (λ z f. L.nx_pv y z),
        left_other nx pv h x (pv y) b (L.pv_nx y x) (L.pv_pv y x d) (L.pv_h y) (λ z f. L.pv_nx y z)
            (λ z f. L.pv_pv y z (next_in (λ z. y ≢ z) pre post not row z f)),
      )
