-- W-201's audit and `Sound`, rule by rule and both ways: 1, 2, 3 and 5, which speak of the heap alone; then 4 and 7,
-- for any plain heap that has the heap's marks, classes and live blocks. Such a one has the same pools in use, for a
-- set bit is only in a carved pool.
-- Assumes nothing.
use Rattle.std.specs.Prelude.{◌≡◌, ◌⊎◌, Bool, not, ◌&&◌, List, ℕ, suc, ◌+◌, ◌*◌, ◌/◌, ◌%◌, ◌≤◌, ◌<◌, ltb, length, if◌then◌else◌}
use Rattle.std.proofs.Math.Path.{refl, sym}
use Rattle.std.proofs.Common.{ap, ◌∙◌, inl, inr, mul-le-mul_right, suc-mul, arith}
use Rattle.std.proofs.Math.Bool.{true, false, and-false}
use Rattle.std.proofs.Math.Decide.{ℕ_discrete}
use Rattle.std.proofs.Math.Dec.{leb, eqb}
use borrow.Author.Tests.{eq-eqb, le-leb, lt-ltb, le-ltb, leb-true, ltb-true, eqb-true}
use Rattle.rules.specs.Say.{all_below}
use Rattle.rules.specs.Books.{
  Heap,
  at,
  in_range,
  exact,
  is_set,
  arenas,
  pools,
  edition_word,
  edition,
  is_edition,
  alignment,
  open_word,
  carve_mark,
  free_pools,
  freed_head,
  arena,
  count as countWord,
  class,
  pool,
  carved as is_carved,
}
use Rattle.rules.specs.Blocks.{size_of, last_class, capacity}
use Rattle.rules.specs.Numbers.{range_number, edition_number, length_number, reach_number, shape_number}
use Rattle.rules.specs.Audit.{
  set_bits,
  in_use as is-used,
  blocks_of,
  arena_keeps2,
  pool_keeps2,
  rule2,
  arena_keeps3,
  rule3,
  not_in_use,
  arena_keeps4,
  rule4,
  pool_keeps5,
  rule5,
  pool_keeps7,
  rule7,
}
use Rattle.books.specs.Tests.{both}
use Rattle.books.specs.Passing.{before_zero}
use Rattle.books.specs.Known.{shaped}
use Rattle.books.specs.Sizes.{blocks_are}
use Rattle.sequences.specs.Counting.{many_same, many_has, every_is, is_every, implied, is_implied}
use Rattle.sound.specs.Plain.{Plain, count, in_use, carved, free}
use Rattle.sound.specs.Sound.{Shape, Zeros, Closed, Open, BitSet}
use Rattle.sound.specs.Held.{arena_low}

-- ---- rule 1
-- a test that gives no number holds
pub unbroken : (t : Bool) (k : ℕ) → (if t then 0 else suc k) ≡ 0 → t ≡ true
unbroken true k e = refl
unbroken false k e = absurd (omega arith)

pub zero_shape : (h : Heap) → shape_number h ≡ 0 → Shape (alignment h) (arenas h) (pools h) h
unfolding shape_number range_number edition_number length_number
zero_shape h z =
    let t = before_zero (reach_number h 1) _ z in
    let u = before_zero (range_number (arenas h) (pools h)) _ t.1 in
    let v = before_zero (reach_number h edition_word) _ u.1 in
    let w = before_zero (edition_number (edition h)) (length_number h (arenas h) (pools h)) v.1 in
    record {
      arenas_are = refl;
      pools_are = refl;
      alignment_is = refl;
      range = unbroken (in_range (arenas h) (pools h)) 0 u.0;
      an_edition = unbroken (is_edition (edition h)) 0 w.0;
      lengths = unbroken (exact (arenas h) (pools h) h) 1 w.1;
    }

pub shape_zero : {al A P : ℕ} {h : Heap} → Shape al A P h → shape_number h ≡ 0
unfolding shape_number range_number edition_number length_number reach_number
shape_zero {al} {A} {P} {h} S =
    let K = shaped h A P S.range S.lengths in
    rw (
      lt-ltb 1 (length h.books) (omega (arith, K.books)),
      lt-ltb edition_word (length h.books) (omega (arith, K.books)),
      S.arenas_are,
      S.pools_are,
      S.range,
      S.an_edition,
      S.lengths,
    )

-- ---- rule 2
module _ (A P : ℕ) (b : List ℕ) where
  pub zeros_are : rule2 A P b ≡ true → Zeros A P b
  unfolding rule2 arena_keeps2
  zeros_are e =
      let t = both _ (all_below (pool_keeps2 A b) (A * P)) e in
      let u = both (eqb (at b 69) 0 && eqb (at b 70) 0 && eqb (at b 71) 0) (all_below (arena_keeps2 b) A) t.0 in
      let v = both (eqb (at b 69) 0 && eqb (at b 70) 0) (eqb (at b 71) 0) u.0 in
      let w = both (eqb (at b 69) 0) (eqb (at b 70) 0) v.0 in
      record {
        opens = λ a l. opens a (record_of_lem u.1 a l).0;
        spare = λ i k l. spare i (eqb-true (at b 69) 0 w.0) (eqb-true (at b 70) 0 w.1) (eqb-true (at b 71) 0 v.1) k l
            (ℕ_discrete i 69) (ℕ_discrete i 70);
        arenas = λ w a k l i. last w a k l (record_of_lem u.1 a i).1 (record_of_lem u.1 a i).2 (ℕ_discrete w 6);
        pools = λ n l. eqb-true (pool A b 7 n) 0 (every_is (pool_keeps2 A b) (A * P) t.1 n l);
      }
    where
      record_of_lem : all_below (arena_keeps2 b) A ≡ true → (a : ℕ) → a < A
          → (arena b open_word a ≤ 1) × (arena b 6 a ≡ 0) × (arena b 7 a ≡ 0)
      record_of_lem f a l =
          let t = both (leb (arena b open_word a) 1 && eqb (arena b 6 a) 0) (eqb (arena b 7 a) 0) (every_is (arena_keeps2 b) A f a l) in
          let u = both (leb (arena b open_word a) 1) (eqb (arena b 6 a) 0) t.0 in
          (leb-true (arena b open_word a) 1 u.0, eqb-true (arena b 6 a) 0 u.1, eqb-true (arena b 7 a) 0 t.1)

      opens : (a : ℕ) → arena b open_word a ≤ 1 → (arena b open_word a ≡ 0) ⊎ (arena b open_word a ≡ 1)
      opens a l = go (ℕ_discrete (arena b open_word a) 0)
        where
          go : Dec (arena b open_word a ≡ 0) → (arena b open_word a ≡ 0) ⊎ (arena b open_word a ≡ 1)
          go (yes q) = inl q
          go (no q) = inr (omega arith)

      spare : (i : ℕ) → at b 69 ≡ 0 → at b 70 ≡ 0 → at b 71 ≡ 0 → edition_word < i → i < 72 → Dec (i ≡ 69)
          → Dec (i ≡ 70)
          → at b i ≡ 0
      spare i e f g k l (yes q) d = rw q e
      spare i e f g k l (no q) (yes d) = rw d f
      spare i e f g k l (no q) (no d) = let z : i ≡ 71 = omega arith in rw z g

      last : (w a : ℕ) → 6 ≤ w → w < 8 → arena b 6 a ≡ 0 → arena b 7 a ≡ 0 → Dec (w ≡ 6) → arena b w a ≡ 0
      last w a k l e f (yes q) = rw q e
      last w a k l e f (no q) = let z : w ≡ 7 = omega arith in rw z f

  pub are_zeros : Zeros A P b → rule2 A P b ≡ true
  unfolding rule2 arena_keeps2
  are_zeros Z =
      rw (
        eq-eqb (at b 69) 0 (Z.spare 69 (omega arith) (omega arith)),
        eq-eqb (at b 70) 0 (Z.spare 70 (omega arith) (omega arith)),
        eq-eqb (at b 71) 0 (Z.spare 71 (omega arith) (omega arith)),
        is_every (arena_keeps2 b) A (λ a l. rw (
          open_low a (Z.opens a l),
          eq-eqb (arena b 6 a) 0 (Z.arenas 6 a (omega arith) (omega arith) l),
          eq-eqb (arena b 7 a) 0 (Z.arenas 7 a (omega arith) (omega arith) l),
        )),
        is_every (pool_keeps2 A b) (A * P) (λ n l. eq-eqb (pool A b 7 n) 0 (Z.pools n l)),
      )
    where
      open_low : (a : ℕ) → (arena b open_word a ≡ 0) ⊎ (arena b open_word a ≡ 1) → leb (arena b open_word a) 1 ≡ true
      open_low a (inl e) = rw e
      open_low a (inr e) = rw e

-- ---- rule 3
module _ (A : ℕ) (b : List ℕ) where
  pub closed_are : rule3 A b ≡ true → (a : ℕ) → a < A → arena b open_word a ≡ 0 → Closed b a
  unfolding arena_keeps3
  closed_are e a l z =
      let t = both (eqb (arena b carve_mark a) 0 && eqb (arena b free_pools a) 0) (eqb (arena b freed_head a) 0)
      (implied (eqb (arena b open_word a) 0) _ (every_is (arena_keeps3 b) A e a l) (eq-eqb (arena b open_word a) 0 z)) in
      let u = both (eqb (arena b carve_mark a) 0) (eqb (arena b free_pools a) 0) t.0 in
      record {
        mark = eqb-true (arena b carve_mark a) 0 u.0;
        free = eqb-true (arena b free_pools a) 0 u.1;
        freed = eqb-true (arena b freed_head a) 0 t.1;
      }

  pub are_closed : ((a : ℕ) → a < A → arena b open_word a ≡ 0 → Closed b a) → rule3 A b ≡ true
  unfolding arena_keeps3
  are_closed f =
      is_every (arena_keeps3 b) A (λ a l. is_implied (eqb (arena b open_word a) 0) _
      (λ q. let C = f a l (eqb-true (arena b open_word a) 0 q) in
      rw (eq-eqb (arena b carve_mark a) 0 C.mark, eq-eqb (arena b free_pools a) 0 C.free, eq-eqb (arena b freed_head a) 0 C.freed)))

-- ---- rule 5
module _ (al A P : ℕ) (b map : List ℕ) where
  pub bits_are : rule5 al A P b map ≡ true → (n k : ℕ) → n < A * P → k < 512 → is_set map n k ≡ true
      → BitSet al A P b n k
  unfolding pool_keeps5 blocks_of
  bits_are e n k l u q =
      let t = both (is_carved P b n) (ltb k (blocks_of al (pool A b class n)))
      (implied (is_set map n k) _ (every_is _ 512 (every_is (pool_keeps5 al A P b map) (A * P) e n l) k u) q) in
      go (leb (pool A b class n) (last_class al)) refl t.0 (ltb-true k (blocks_of al (pool A b class n)) t.1)
    where
      go : (t : Bool) → leb (pool A b class n) (last_class al) ≡ t → is_carved P b n ≡ true
          → k < (if t then capacity (size_of al (pool A b class n)) else 0) → BitSet al A P b n k
      go true c p i = record { in_carved = p; in_class = leb-true (pool A b class n) (last_class al) c; at_block = i }
      go false c p i = absurd (omega arith)

  pub are_bits : ((n k : ℕ) → n < A * P → k < 512 → is_set map n k ≡ true → BitSet al A P b n k)
      → rule5 al A P b map ≡ true
  unfolding pool_keeps5
  are_bits f =
      is_every (pool_keeps5 al A P b map) (A * P) (λ n l. is_every _ 512 (λ k u. is_implied (is_set map n k) _
      (λ q. let B = f n k l u q in
      rw (B.in_carved, blocks_are al (pool A b class n) B.in_class) (lt-ltb k (capacity (size_of al (pool A b class n))) B.at_block))))

-- ---- the heap h, as far as those rules go, and a plain heap with its marks, classes and live blocks
pub record Ground (al A P : ℕ) (h : Heap) (r : Plain) : Type 0 where
  pub pools_low : 2 ≤ P
  pub marks : (a : ℕ) → a < A → arena h.books carve_mark a ≡ r.mark a
  pub classes : (n : ℕ) → n < A * P → pool A h.books class n ≡ r.class n
  pub bits : (n k : ℕ) → n < A * P → k < 512 → is_set h.map n k ≡ r.live n k
  pub rule2 : Zeros A P h.books
  pub rule3 : (a : ℕ) → a < A → arena h.books open_word a ≡ 0 → Closed h.books a
  pub rule5 : (n k : ℕ) → n < A * P → k < 512 → is_set h.map n k ≡ true → BitSet al A P h.books n k

module _ {al A P : ℕ} {h : Heap} {r : Plain} (G : Ground al A P h r) where
  abbrev b : List ℕ
  b = h.books

  abbrev map : List ℕ
  map = h.map

  pub count_same : (n : ℕ) → n < A * P → set_bits map n ≡ count r n
  count_same n l = many_same (r.live n) (is_set map n) 512 (λ k u. G.bits n k l u)

  pub carved_same : (n : ℕ) → n < A * P → is_carved P b n ≡ carved P r n
  unfolding is_carved
  carved_same n l = go (G.rule2.opens (n / P) u)
    where
      u : n / P < A
      u = arena_low A P n G.pools_low l

      go : (arena b open_word (n / P) ≡ 0) ⊎ (arena b open_word (n / P) ≡ 1)
          → eqb (arena b open_word (n / P)) 1 && ltb (n % P) (arena b carve_mark (n / P)) ≡ carved P r n
      go (inl e) = rw e (sym (le-ltb (n % P) (r.mark (n / P)) (omega (arith, G.marks (n / P) u, (G.rule3 (n / P) u e).mark))))
      go (inr e) = rw (e, G.marks (n / P) u)

  -- a pool with a set bit is carved, and of a class
  pub used_set : (n : ℕ) → n < A * P → 1 ≤ count r n → (is_carved P b n ≡ true) × (r.class n ≤ last_class al)
  used_set n l u =
      let t = many_has (r.live n) 512 u in
      let B = G.rule5 n t.number l t.low (G.bits n t.number l t.low ∙ t.yes) in
      (B.in_carved, rw (G.classes n l) at B.in_class)

  pub used_same : (n : ℕ) → n < A * P → is-used P b map n ≡ in_use r n
  unfolding is-used
  used_same n l = rw (count_same n l) (go (in_use r n) refl)
    where
      go : (t : Bool) → in_use r n ≡ t → is_carved P b n && t ≡ t
      go true e = rw (used_set n l (ltb-true 0 (count r n) e)).0
      go false e = and-false (is_carved P b n)

  free_same : (a : ℕ) → a < A → not_in_use P b map a ≡ free P r a
  free_same a l =
      many_same (λ i. not (in_use r (a * P + i))) (λ i. not (is-used P b map (a * P + i))) P
      (λ i u. ap not (used_same (a * P + i) (omega (arith, mul-le-mul_right P l, suc-mul a P))))

  -- ---- rule 4
  pub open_are : rule4 A P b map ≡ true → (a : ℕ) → a < A → arena b open_word a ≡ 1 → Open P b r a
  unfolding arena_keeps4
  open_are e a l o =
      let t = both (leb 1 (arena b carve_mark a) && leb (arena b carve_mark a) P) (eqb (arena b free_pools a) (not_in_use P b map a))
      (implied (eqb (arena b open_word a) 1) _ (every_is (arena_keeps4 P b map) A e a l) (eq-eqb (arena b open_word a) 1 o)) in
      let u = both (leb 1 (arena b carve_mark a)) (leb (arena b carve_mark a) P) t.0 in
      record {
        mark_low = leb-true 1 (arena b carve_mark a) u.0;
        mark_high = leb-true (arena b carve_mark a) P u.1;
        free_pools_lem = eqb-true (arena b free_pools a) (not_in_use P b map a) t.1 ∙ free_same a l;
      }

  pub are_open : ((a : ℕ) → a < A → arena b open_word a ≡ 1 → Open P b r a) → rule4 A P b map ≡ true
  unfolding arena_keeps4
  are_open f =
      is_every (arena_keeps4 P b map) A (λ a l. is_implied (eqb (arena b open_word a) 1) _
      (λ q. let O = f a l (eqb-true (arena b open_word a) 1 q) in
      rw (
        le-leb 1 (arena b carve_mark a) O.mark_low,
        le-leb (arena b carve_mark a) P O.mark_high,
        eq-eqb (arena b free_pools a) (not_in_use P b map a) (O.free_pools_lem ∙ sym (free_same a l)),
      )))

  -- ---- rule 7
  pub counts_are : rule7 A P b map ≡ true → (n : ℕ) → n < A * P → pool A b countWord n ≡ count r n
  counts_are e n l = eqb-true (pool A b countWord n) (set_bits map n) (every_is (pool_keeps7 A b map) (A * P) e n l) ∙ count_same n l

  pub are_counts : ((n : ℕ) → n < A * P → pool A b countWord n ≡ count r n) → rule7 A P b map ≡ true
  are_counts f =
      is_every (pool_keeps7 A b map) (A * P) (λ n l. eq-eqb (pool A b countWord n) (set_bits map n) (f n l ∙ sym (count_same n l)))
