-- A pool's set bits, word by word: how many there are, and that none is at or past a block.
-- Assumes nothing.
use Rattle.std.specs.Prelude.{◌≡◌, ◌≢◌, Bool, true, ◌&&◌, List, ℕ, zero, suc, ◌+◌, ◌*◌, ◌-◌, ◌/◌, ◌%◌, ◌^◌, ◌≤◌, ◌<◌, eqb, if◌then◌else◌}
use Rattle.std.proofs.Common.{length, take, drop, length-drop, get_or-drop}
use Rattle.std.proofs.Common.{refl, sym, ap, ◌∙◌, add-suc, add-zero, add-one, arith, shr-shr, shr_lt, eq-eqb, ne_eqb, eqb-true}
use Rattle.std.proofs.lemmas.Bool.Decides.{same_from_decides}
use Rattle.std.proofs.Math.Nat.{zero-div}
use Rattle.std.proofs.Math.Decide.{ℕ_discrete, dec_lt}
use Rattle.std.proofs.lemmas.List.Sums.{sum_by_more}
use Rattle.std.specs.List.{sum_by}
use Rattle.std.specs.Int.Count.{ones_in}
use Rattle.rules.specs.Say.{all_below, how_many}
use Rattle.rules.specs.Books.{at, bit, is_set}
use Rattle.rules.specs.Audit.{bits_below}
use Rattle.books.specs.Tests.{both}
use Rattle.sequences.specs.Counting.{every_is, is_every, below_is, is_below}

-- ---- how many
-- the ones among the first suc j bits, by the last of them
ones_top : (j w : ℕ) → ones_in (suc j) w ≡ ones_in j w + bit w j
unfolding ones_in bit
ones_top zero w = omega arith
ones_top (suc j) w =
    let e : 1 + j ≡ suc j = omega arith in
    let half : w / 2 / 2 ^ j ≡ w / 2 ^ suc j = shr-shr w 1 j ∙ ap (λ (k : ℕ). w / 2 ^ k) e in
    omega (arith, ones_top j (w / 2), ap (λ (x : ℕ). x % 2) half)

bit_low : (w j : ℕ) → bit w j < 2
unfolding bit
bit_low w j = omega arith

one_is : (x : ℕ) → x < 2 → (if eqb x 1 then 1 else 0) ≡ x
one_is x l = go (ℕ_discrete x 1)
  where
    go : Dec (x ≡ 1) → (if eqb x 1 then 1 else 0) ≡ x
    go (yes q) = rw q
    go (no q) = rw (ne_eqb x 1 q) (omega arith)

word_bits : (m : List ℕ) (n i j : ℕ) → j ≤ 64
    → how_many (is_set m n) (64 * i + j) ≡ how_many (is_set m n) (64 * i) + ones_in j (at m (8 * n + i))
unfolding how_many ones_in
word_bits m n i zero l = rw (add-zero (64 * i)) (omega arith)
word_bits m n i (suc j) l =
    let w = at m (8 * n + i) in
    let word : (64 * i + j) / 64 ≡ i = omega arith in
    let place : (64 * i + j) % 64 ≡ j = omega arith in
    rw (add-suc (64 * i) j, word, place) (omega (arith, one_is (bit w j) (bit_low w j), word_bits m n i j (omega arith), ones_top j w))

-- and so of the first k words of pool n, added up
pub words_bits : (m : List ℕ) (n k : ℕ) → 8 * n + k ≤ length m
    → sum_by (ones_in 64) (take k (drop (8 * n) m)) ≡ how_many (is_set m n) (64 * k)
unfolding how_many
words_bits m n zero l = refl
words_bits m n (suc k) l =
    let in_map : k < length (drop (8 * n) m) = omega (arith, length-drop (8 * n) m) in
    let e : 64 * k + 64 ≡ 64 * suc k = omega arith in
    ap (λ (i : ℕ). sum_by (ones_in 64) (take i (drop (8 * n) m))) (sym (add-one k))
    ∙ sum_by_more (ones_in 64) (drop (8 * n) m) k 0 in_map
    ∙ rw (get_or-drop (8 * n) m k 0, words_bits m n k (omega arith)) (sym (word_bits m n k 64 (omega arith))) ∙ ap (how_many (is_set m n)) e

-- ---- none at or past a block
-- a word that a shift by j makes 0 has no set bit from j on
no_bit : (w j i : ℕ) → w / 2 ^ j ≡ 0 → j ≤ i → bit w i ≡ 0
unfolding bit
no_bit w j i z l =
    let e : i ≡ j + (i - j) = omega arith in
    let shifted : w / 2 ^ i ≡ w / 2 ^ j / 2 ^ (i - j) = ap (λ (k : ℕ). w / 2 ^ k) e ∙ sym (shr-shr w j (i - j)) in
    omega (arith, shifted, ap (λ (x : ℕ). x / 2 ^ (i - j)) z, zero-div (2 ^ (i - j)))

-- and one that has none among the k bits from j on, and no higher ones, is made 0
cleared : (k j w : ℕ) → w < 2 ^ (k + j) → ((i : ℕ) → j ≤ i → i < k + j → bit w i ≢ 1) → w / 2 ^ j ≡ 0
unfolding bit
cleared zero j w l f = omega (arith, shr_lt 0 j l)
cleared (suc k) j w l f =
    let e : suc k + j ≡ k + suc j = omega arith in
    let half : w / 2 ^ suc j ≡ w / 2 ^ j / 2 = rw add-one at (sym (shr-shr w j 1)) in
    let low : w / 2 ^ j % 2 ≢ 1 = f j (omega arith) (omega arith) in
    omega (arith, half, cleared k (suc j) w (rw e at l) (λ i a b. f i (omega arith) (omega arith)))

module _ (map : List ℕ) (n v : ℕ) where
  -- so where no bit is at v or past it, a word that lies there is made 0
  bits_past : (i j : ℕ) → i < 8 → j < 64 → v ≤ 64 * i + j → at map (8 * n + i) < 2 ^ 64 → bits_below map n v ≡ true
      → at map (8 * n + i) / 2 ^ j ≡ 0
  bits_past i j a b u l e = cleared (64 - j) j (at map (8 * n + i)) (rw top l) none
    where
      top : 64 - j + j ≡ 64
      top = omega arith

      none : (x : ℕ) → j ≤ x → x < 64 - j + j → bit (at map (8 * n + i)) x ≢ 1
      none x p q s =
          let word : (64 * i + x) / 64 ≡ i = omega arith in
          let place : (64 * i + x) % 64 ≡ x = omega arith in
          let set : is_set map n (64 * i + x) ≡ true = rw (word, place) (eq-eqb (bit (at map (8 * n + i)) x) 1 s) in
          omega (arith, below_is map n v e (64 * i + x) (omega arith) set)

  -- and where the word of block v is made 0, and each later one is 0, no bit is at v or past it
  bits_end : at map (8 * n + v / 64) / 2 ^ (v % 64) ≡ 0 → ((i : ℕ) → i < 8 → v / 64 < i → at map (8 * n + i) ≡ 0)
      → bits_below map n v ≡ true
  bits_end z f = is_below map n v (λ k l q. low k l (dec_lt k v) (ℕ_discrete (k / 64) (v / 64)) (eqb-true (bit (at map (8 * n + k / 64)) (k % 64)) 1 q))
    where
      low : (k : ℕ) → k < 512 → Dec (k < v) → Dec (k / 64 ≡ v / 64) → bit (at map (8 * n + k / 64)) (k % 64) ≡ 1 → k < v
      low k l (yes d) t s = d
      low k l (no d) (yes e) s =
          absurd (omega (arith, rw e at s, no_bit (at map (8 * n + v / 64)) (v % 64) (k % 64) z (omega arith)))
      low k l (no d) (no e) s =
          let w : at map (8 * n + k / 64) ≡ 0 = f (k / 64) (omega arith) (omega arith) in
          absurd (omega (arith, s, no_bit (at map (8 * n + k / 64)) 0 (k % 64) (omega arith) (omega arith)))

  -- and so two tests say where they end: of the word of block v, with the blocks below v shifted out, and of each later
  -- word
  pub ends_is : v < 512 → ((i : ℕ) → at map i < 2 ^ 64)
      → (eqb (at map (8 * n + v / 64) / 2 ^ (v % 64)) 0
      && all_below (λ i. eqb (at map (8 * n + (v / 64 + 1 + i))) 0) (8 - (v / 64 + 1)))
      ≡ bits_below map n v
  ends_is l fits = same_from_decides _ (bits_below map n v) (there, back) (λ e. e, λ e. e)
    where
      first : Bool
      first = eqb (at map (8 * n + v / 64) / 2 ^ (v % 64)) 0

      later : ℕ → Bool
      later i = eqb (at map (8 * n + (v / 64 + 1 + i))) 0

      there : (first && all_below later (8 - (v / 64 + 1))) ≡ true → bits_below map n v ≡ true
      there e =
          let t = both first (all_below later (8 - (v / 64 + 1))) e in
          bits_end (eqb-true _ 0 t.0) (λ i a b.
          let k : v / 64 + 1 + (i - (v / 64 + 1)) ≡ i = omega arith in
          rw k at (eqb-true _ 0 (every_is later (8 - (v / 64 + 1)) t.1 (i - (v / 64 + 1)) (omega arith))))

      back : bits_below map n v ≡ true → (first && all_below later (8 - (v / 64 + 1))) ≡ true
      back e =
          let f : first ≡ true = eq-eqb _ 0 (bits_past (v / 64) (v % 64) (omega arith) (omega arith) (omega arith) (fits _) e) in
          rw f (is_every later (8 - (v / 64 + 1)) (λ k m. eq-eqb _ 0
          (omega (arith, bits_past (v / 64 + 1 + k) 0 (omega arith) (omega arith) (omega arith) (fits _) e))))
