-- A map word in both heaps: what is said of each bit that is set in either, and the blocks of a pool word by word.
-- Assumes nothing.
use Rattle.std.specs.Prelude.{◌≡◌, Bool, true, false, ◌&&◌, ◌⊎◌, if◌then◌else◌}
use Rattle.std.proofs.Math.Path.{refl, ap, ap₂}
use Rattle.std.proofs.Common.{sym, ◌∙◌, inl, inr, add-mul, div-mul-le_self, mul-le-mul_right, arith, shr-shr, eq-eqb, ne_eqb}
use mathlib.Core.List.{List, [], ◌++◌}
use Prim.Native.Nat.{ℕ, zero, suc, ◌+◌, ◌*◌, ◌-◌, ◌/◌, ◌%◌, ◌^◌, ◌≤◌, ◌<◌, max}
use Rattle.std.proofs.Math.Nat.{suc-mul}
use Rattle.std.proofs.Math.Numerals.{add-one}
use Rattle.std.specs.Int.Bits.{bit_or, or_step}
use Rattle.std.proofs.lemmas.Nat.{or_shr}
use Rattle.std.proofs.Math.Dec.{eqb}
use Rattle.rules.specs.Books.{at, bit, is_set, offset_of}
use Rattle.rules.specs.Blocks.{start_of, capacity}
use Rattle.books.specs.Starts.{number_is}
use Rattle.bits.specs.Bit.{no_bit}
use Rattle.bits.specs.Halves.{parity}
use Rattle.sequences.specs.Listing.{entry, entry_none, at_steps, steps_add}
use Rattle.loops.specs.Left.{Parts}
use Rattle.loops.specs.Word.{each_bit, in_word}
use Rattle.compare.specs.Kinds.{is_bit, entry_of, together, together_at}

-- the entry of the block of bit j of a word, whose first block is at offset o; the blocks have size s
abbrev pub said_of : List ℕ → List ℕ → ℕ → ℕ → ℕ → ℕ → ℕ → List ℕ
said_of m m' w w' o s j = entry_of (o + j * s) (together m m' (is_bit w j) (is_bit w' j) (o + j * s) s)

-- ---- steps by the bits of a word: where a bit is not set nothing is held
module _ (g : ℕ → ℕ) (said : ℕ → List ℕ) (w o s : ℕ) where
  by_bits : (j n : ℕ) → ((i : ℕ) → j ≤ i → i < j + n → bit w i ≡ 1 → entry g (o + i * s) ≡ said i)
      → ((i : ℕ) → j ≤ i → i < j + n → bit w i ≡ 0 → g (o + i * s) ≡ 0)
      → at_steps g (o + j * s) s n ≡ each_bit said (w / 2 ^ j) j n
  unfolding at_steps each_bit bit
  by_bits j zero on off = refl
  by_bits j (suc n) on off =
      let half : w / 2 ^ suc j ≡ w / 2 ^ j / 2 = rw add-one at (sym (shr-shr w j 1)) in
      let next : o + j * s + s ≡ o + suc j * s = omega (arith, suc-mul j s) in
      ap₂ (λ (x y : List ℕ). x ++ y) (go (parity (w / 2 ^ j)))
      (ap (λ (x : ℕ). at_steps g x s n) next
      ∙ by_bits (suc j) n (λ i l h. on i (omega arith) (omega arith)) (λ i l h. off i (omega arith) (omega arith))
      ∙ ap (λ (x : ℕ). each_bit said x (suc j) n) half)
    where
      go : (w / 2 ^ j % 2 ≡ 1) ⊎ (w / 2 ^ j % 2 ≡ 0)
          → entry g (o + j * s) ≡ (if eqb (w / 2 ^ j % 2) 1 then said j else [])
      go (inl e) = on j (omega arith) (omega arith) e ∙ rw (eq-eqb (w / 2 ^ j % 2) 1 e)
      go (inr e) = entry_none g (o + j * s) (off j (omega arith) (omega arith) e) ∙ rw e

  pub steps_bits : (n : ℕ) → ((i : ℕ) → i < n → bit w i ≡ 1 → entry g (o + i * s) ≡ said i)
      → ((i : ℕ) → i < n → bit w i ≡ 0 → g (o + i * s) ≡ 0)
      → at_steps g o s n ≡ each_bit said w 0 n
  steps_bits n on off =
      let z : o + 0 * s ≡ o = omega arith in
      let whole : w / 2 ^ 0 ≡ w = omega arith in
      rw (z, whole) at (by_bits 0 n (λ i l h. on i (omega arith)) (λ i l h. off i (omega arith)))

-- a bit of the union is set exactly where it is in either
bit_or_lem : (w w' j : ℕ) → bit (bit_or w w') j ≡ max (bit w j) (bit w' j)
unfolding bit
bit_or_lem w w' j =
    let a = w / 2 ^ j in
    let b = w' / 2 ^ j in
    ap (λ (x : ℕ). x % 2) (or_shr w w' j) ∙ omega (arith, or_step a b)

neither_set : (w w' j : ℕ) → bit (bit_or w w') j ≡ 0 → (is_bit w j ≡ false) × (is_bit w' j ≡ false)
neither_set w w' j e =
    (ne_eqb (bit w j) 1 (λ q. absurd (omega (arith, bit_or_lem w w' j))), ne_eqb (bit w' j) 1 (λ q. absurd (omega (arith, bit_or_lem w w' j))))

-- ---- the blocks of word i of pool p, of size s, where the heaps' words there are w and w'
module _ (m m' map map' : List ℕ) (there there' : Bool) (p s i : ℕ) where
  -- a word of a heap that has no blocks in the pool counts as 0
  abbrev pub word_of : Bool → List ℕ → ℕ
  word_of t words = if t then at words (8 * p + i) else 0

  bit_is : (t : Bool) (words : List ℕ) (j : ℕ) → j < 64 → is_bit (word_of t words) j ≡ t && is_set words p (64 * i + j)
  bit_is true words j l =
      let q : (64 * i + j) / 64 ≡ i = omega arith in
      let r : (64 * i + j) % 64 ≡ j = omega arith in
      rw (q, r)
  bit_is false words j l = rw (no_bit j)

  -- the kind of block j of the word
  kind_is : (j : ℕ) → j < 64 → 64 * i + j < capacity s → 1 ≤ s
      → let o = offset_of p (start_of s (64 * i)) + j * s in
      together_at m m' map map' there there' p s o
      ≡ together m m' (is_bit (word_of there map) j) (is_bit (word_of there' map') j) o s
  kind_is j l h low =
      let k = 64 * i + j in
      let end = mul-le-mul_right s h in
      let x : (offset_of p (start_of s (64 * i)) + j * s) % 4096 ≡ start_of s k =
      omega (arith, add-mul (64 * i) j s, end, suc-mul k s, div-mul-le_self 4048 s) in
      rw (x, number_is s k low, bit_is there map j l, bit_is there' map' j l)

  word_is : (n : ℕ) → n ≤ 64 → 64 * i + n ≤ capacity s → 1 ≤ s
      → let o = offset_of p (start_of s (64 * i)) in
      let w = word_of there map in
      let w' = word_of there' map' in
      at_steps (together_at m m' map map' there there' p s) o s n ≡ each_bit (said_of m m' w w' o s) (bit_or w w') 0 n
  unfolding together
  word_is n l h low =
      let o = offset_of p (start_of s (64 * i)) in
      let w = word_of there map in
      let w' = word_of there' map' in
      steps_bits (together_at m m' map map' there there' p s) (said_of m m' w w' o s) (bit_or w w') o s n
      (λ j u e. ap (entry_of (o + j * s)) (kind_is j (omega arith) (omega arith) low))
      (λ j u e. kind_is j (omega arith) (omega arith) low ∙ none j (neither_set w w' j e))
    where
      none : (j : ℕ) → (is_bit (word_of there map) j ≡ false) × (is_bit (word_of there' map') j ≡ false)
          → let o = offset_of p (start_of s (64 * i)) + j * s in
          together m m' (is_bit (word_of there map) j) (is_bit (word_of there' map') j) o s ≡ 0
      none j t = rw (t.0, t.1)

  -- the part of the pool's blocks that is word i's
  pub word_part : 64 * i < capacity s → 1 ≤ s
      → let n = in_word (capacity s) i in
      let o = offset_of p (start_of s (64 * i)) in
      let w = word_of there map in
      let w' = word_of there' map' in
      at_steps (together_at m m' map map' there there' p s) (4096 * p + 48 + 64 * i * s) s n
      ≡ each_bit (said_of m m' w w' o s) (bit_or w w') 0 n
  word_part h low =
      let q : 4096 * p + 48 + 64 * i * s ≡ offset_of p (start_of s (64 * i)) = omega arith in
      ap (λ (x : ℕ). at_steps (together_at m m' map map' there there' p s) x s (in_word (capacity s) i)) q
      ∙ word_is (in_word (capacity s) i) (omega arith) (omega arith) low

-- ---- a run of steps: none are left; 64 at a time
pub steps_end : (g : ℕ → ℕ) (o s n : ℕ) → n ≡ 0 → at_steps g o s n ≡ []
unfolding at_steps
steps_end g o s n e = ap (at_steps g o s) e

pub word_steps : (g : ℕ → ℕ) (o s n : ℕ)
    → Parts (at_steps g o s n) ((n + 63) / 64) (λ i. at_steps g (o + 64 * i * s) s (n - 64 * i))
    (λ i. at_steps g (o + 64 * i * s) s (in_word n i))
unfolding at_steps
word_steps g o s n = record {
  first = (let z : o + 64 * 0 * s ≡ o = omega arith in let e : n - 64 * 0 ≡ n = omega arith in ap₂ (λ (x k : ℕ). at_steps g x s k) z e);
  more = λ i h.
      let e : n - 64 * i ≡ in_word n i + (n - 64 * (i + 1)) = omega arith in
      ap (at_steps g (o + 64 * i * s) s) e
      ∙ steps_add g (o + 64 * i * s) s (in_word n i) (n - 64 * (i + 1))
      ∙ ap (λ (r : List ℕ). at_steps g (o + 64 * i * s) s (in_word n i) ++ r) (next i (n - 64 * (i + 1)) refl);
  last = steps_end g (o + 64 * ((n + 63) / 64) * s) s (n - 64 * ((n + 63) / 64)) (omega arith);
}
  where
    -- where r blocks come after those of word i, it has 64, so they begin with the next word
    next : (i r : ℕ) → r ≡ n - 64 * (i + 1)
        → at_steps g (o + 64 * i * s + in_word n i * s) s r ≡ at_steps g (o + 64 * (i + 1) * s) s r
    next i zero e = refl
    next i (suc r) e =
        let k : in_word n i ≡ 64 = omega arith in
        let f : o + 64 * i * s + 64 * s ≡ o + 64 * (i + 1) * s = omega (arith, add-mul (64 * i) 64 s) in
        rw k (ap (λ (x : ℕ). at_steps g x s (suc r)) f)
