-- The next set bit of a pool from a bit on, and the next live block from a place on.
-- Assumes nothing.
use Rattle.std.specs.Prelude.{◌≡◌, Bool, ◌&&◌, List, [], ◌++◌, eqb, nat_eq, Option, Some, None, is_some, unwrap_or}
use Rattle.std.specs.Option.{option_eq}
use Rattle.std.proofs.Math.Path.{refl}
use Rattle.std.proofs.Common.{ap, ◌∙◌, le-div_iff_mul-le, shr-shr, eq-eqb, ne_eqb}
use Rattle.std.proofs.Math.Bool.{true, false, true≢false}
use Prim.Native.Nat.{ℕ, suc, ◌+◌, ◌*◌, ◌-◌, ◌/◌, ◌%◌, ◌^◌, ◌≤◌, ◌<◌, min}
use Rattle.std.proofs.Math.Nat.{suc-mul, mul-le-mul_right, div-eq_of_lt}
use Rattle.std.proofs.Math.Decide.{dec_lt, ℕ_discrete}
use native.Mathlib.Omega.{arith}
use Rattle.std.specs.Int.Count.{count_trailing_zeros}
use Rattle.std.proofs.lemmas.Nat.{shr_le}
use Rattle.std.proofs.Math.Pow.{pow-lt}
use Rattle.rules.specs.Say.{listing}
use Rattle.rules.specs.Books.{at, bit, is_set}
use Rattle.rules.specs.Blocks.{start_of, last_start, is_start, block_no, capacity}
use Rattle.bits.specs.Bit.{no_bit}
use Rattle.bits.specs.Halves.{first_there, none_before, first_set}
use Rattle.books.specs.Starts.{start, start_is, number_is}
use Rattle.sequences.specs.Listing.{listing_none, listing_next}
use Rattle.compare.specs.Kinds.{entry_of, live_in, apart, apart_at}

-- ---- no bit of pool p is set from bit k to bit n
abbrev pub Clear : List ℕ → ℕ → ℕ → ℕ → Type 0
Clear map p k n = (j : ℕ) → k ≤ j → j < n → is_set map p j ≡ false

pub clear_more : (map : List ℕ) (p : ℕ) {k m n : ℕ} → Clear map p k m → Clear map p m n → Clear map p k n
clear_more map p {k} {m} {n} f g j u v = go (dec_lt j m)
  where
    go : Dec (j < m) → is_set map p j ≡ false
    go (yes q) = f j u q
    go (no q) = g j (omega arith) v

-- the first set bit from bit k on, if there is one
abbrev pub NextSet : List ℕ → ℕ → ℕ → Option ℕ → Type 0
NextSet map p k None = Clear map p k 512
NextSet map p k (Some r) = (k ≤ r) × (r < 512) × Clear map p k r × (is_set map p r ≡ true)

-- a word's bits, shifted down by a
shifted : (w a j : ℕ) → bit (w / 2 ^ a) j ≡ bit w (a + j)
unfolding bit
shifted w a j = ap (λ (x : ℕ). x % 2) (shr-shr w a j)

-- a bit past the word's width is not set
high : (w k j : ℕ) → w < 2 ^ k → k ≤ j → bit w j ≡ 0
unfolding bit
high w k j h l = ap (λ (x : ℕ). x % 2) (div-eq_of_lt (go (dec_lt k j)))
  where
    go : Dec (k < j) → w < 2 ^ j
    go (yes q) = omega (arith, pow-lt q)
    go (no q) = let e : k ≡ j = omega arith in rw (← e) h

-- word i of pool p, from its bit a on
module _ (map : List ℕ) (p i a : ℕ) (l : a < 64) where
  abbrev rest : ℕ
  rest = at map (8 * p + i) / 2 ^ a

  bit_in_lem : (j : ℕ) → a + j < 64 → is_set map p (64 * i + a + j) ≡ eqb (bit rest j) 1
  bit_in_lem j h =
      let q : (64 * i + a + j) / 64 ≡ i = omega arith in
      let r : (64 * i + a + j) % 64 ≡ a + j = omega arith in
      rw (q, r, shifted (at map (8 * p + i)) a j)

  -- nothing is set there
  pub rest_clear : rest ≡ 0 → Clear map p (64 * i + a) (64 * (i + 1))
  rest_clear z j u v =
      let q : j ≡ 64 * i + a + (j - (64 * i + a)) = omega arith in
      rw q (bit_in_lem (j - (64 * i + a)) (omega arith) ∙ rw (z, no_bit (j - (64 * i + a))))

  -- its first set bit
  module _ (w : at map (8 * p + i) < 2 ^ 64) (low : 0 < rest) where
    abbrev t : ℕ
    t = count_trailing_zeros 64 rest

    is_set_lem : bit rest t ≡ 1
    is_set_lem = first_set 64 rest (first_there 64 rest low (omega (arith, shr_le (at map (8 * p + i)) a)))

    -- it is a bit of the word itself
    near : a + t < 64
    near = go (dec_lt (a + t) 64)
      where
        go : Dec (a + t < 64) → a + t < 64
        go (yes q) = q
        go (no q) =
            absurd (omega (arith, is_set_lem, shifted (at map (8 * p + i)) a t, high (at map (8 * p + i)) 64 (a + t) w (omega arith)))

    pub rest_first : (64 * i + a + t < 64 * (i + 1))
        × Clear map p (64 * i + a) (64 * i + a + t)
        × (is_set map p (64 * i + a + t) ≡ true)
    rest_first = (
      omega (arith, near),
      λ j u v. let q : j ≡ 64 * i + a + (j - (64 * i + a)) = omega arith in
          rw q (bit_in_lem (j - (64 * i + a)) (omega (arith, near)) ∙ rw (none_before 64 rest (j - (64 * i + a)) (omega arith))),
      bit_in_lem t near ∙ rw is_set_lem,
    )

-- where words m to n of the pool are 0, none of their bits is set
pub words_clear : (map : List ℕ) (p m n : ℕ) → ((i : ℕ) → m ≤ i → i < n → at map (8 * p + i) ≡ 0)
    → Clear map p (64 * m) (64 * n)
words_clear map p m n none j u v = rw (none (j / 64) (omega arith) (omega arith), no_bit (j % 64))

-- ---- where the first live block of size s starts in pool p from place x on, if there is one; no block is live from
-- place x to place r
abbrev pub NoneLive : ℕ → List ℕ → ℕ → ℕ → ℕ → Type 0
NoneLive s map p x r = (y : ℕ) → x ≤ y → y < r → live_in s map p y ≡ false

abbrev pub NextLive : ℕ → List ℕ → ℕ → ℕ → Option ℕ → Type 0
NextLive s map p x None = NoneLive s map p x 4096
NextLive s map p x (Some r) = (x ≤ r) × (r < 4096) × NoneLive s map p x r × (live_in s map p r ≡ true)

-- block k is the first that starts at x or after it, and no bit is set from bit k to bit r: no block that starts before
-- block r does, from x on, is live
module _ (s : ℕ) (map : List ℕ) (p x k r : ℕ) (low : 8 ≤ s)
    (first : (j : ℕ) → j < k → start_of s j < x) (clear : Clear map p k r) where
  none_till : NoneLive s map p x (start_of s r)
  unfolding live_in
  none_till y u v = go (is_start s y) refl
    where
      go : (t : Bool) → is_start s y ≡ t → t && is_set map p (block_no s y) ≡ false
      go false e = refl
      go true e =
          let t = start s y low e in
          let j = block_no s y in
          clear j (not_before (dec_lt j k)) (not_after (dec_lt j r))
        where
          not_before : Dec (block_no s y < k) → k ≤ block_no s y
          not_before (yes q) = absurd (omega (arith, first (block_no s y) q, (start s y low e).place))
          not_before (no q) = omega arith

          not_after : Dec (block_no s y < r) → block_no s y < r
          not_after (yes q) = q
          not_after (no q) =
              let l : r ≤ block_no s y = omega arith in
              absurd (omega (arith, mul-le-mul_right s l, (start s y low e).place))

  -- where bit r is set and block r lies in the pool it is the next live one
  pub next_here : x ≤ start_of s k → k ≤ r → is_set map p r ≡ true → start_of s r ≤ last_start s
      → NextLive s map p x (Some (start_of s r))
  unfolding live_in
  next_here u after on h =
      let few : r < capacity s = (le-div_iff_mul-le {k = s} {x = suc r} {y = 4048} (omega arith)).1 (omega (arith, suc-mul r s)) in (
        omega (arith, mul-le-mul_right s after),
        omega arith,
        none_till,
        rw (start_is s r few, number_is s r (omega arith)) on,
      )

  -- and where it does not there is none
  pub next_none : last_start s < start_of s r → NextLive s map p x None
  unfolding live_in
  next_none h y a _ = go (is_start s y) refl
    where
      go : (t : Bool) → is_start s y ≡ t → t && is_set map p (block_no s y) ≡ false
      go false e = refl
      go true e =
          let t = start s y low e in
          rw e at (none_till y a (omega (arith, t.ends)))

-- what is next from x on is next from a later place on too, unless it is passed
pub later : (s : ℕ) (map : List ℕ) (p x y : ℕ) (o : Option ℕ) → x ≤ y → y ≤ unwrap_or o 4096 → NextLive s map p x o
    → NextLive s map p y o
later s map p x y None u v N = λ z a b. N z (omega arith) b
later s map p x y (Some r) u v N = (omega arith, N.1, λ z a b. N.2 z (omega arith) b, N.3)

-- ---- the lesser of two places, of those that there are
abbrev pub earlier : Option ℕ → Option ℕ → Option ℕ
earlier (Some o) (Some o') = Some (min o o')
earlier (Some o) None = Some o
earlier None o' = o'

-- the next live block of either heap, in a pool whose blocks have another size in each
module _ (s s' : ℕ) (map map' : List ℕ) (p x : ℕ) where
  abbrev kind : ℕ → ℕ
  kind = apart_at map map' s s' p

  -- where none is live from x to n, nothing is said
  none_yet : (n : ℕ) → n ≤ 4096 → NoneLive s map p x n → NoneLive s' map' p x n
      → (i : ℕ) → x + i < n → kind (4096 * p + x + i) ≡ 0
  unfolding apart
  none_yet n h N N' i l =
      let r : (4096 * p + x + i) % 4096 ≡ x + i = omega arith in
      rw (r, N (x + i) (omega arith) l, N' (x + i) (omega arith) l)

  pub none_after : (o o' : Option ℕ) → NextLive s map p x o → NextLive s' map' p x o' → earlier o o' ≡ None
      → listing kind (4096 * p + x) (4096 - x) ≡ []
  none_after None None N N' e = listing_none kind (4096 * p + x) (4096 - x) (λ i l. none_yet 4096 (omega arith) N N' i (omega arith))
  none_after (Some o) None N N' e = absurd (true≢false (ap is_some e))
  none_after (Some o) (Some o') N N' e = absurd (true≢false (ap is_some e))
  none_after None (Some o') N N' e = absurd (true≢false (ap is_some e))

  -- place n comes next, live in the first or not, in the second or not
  next_at : (n : ℕ) (in_first in_second : Bool) → x ≤ n → n < 4096 → NoneLive s map p x n → NoneLive s' map' p x n
      → live_in s map p n ≡ in_first → live_in s' map' p n ≡ in_second
      → listing kind (4096 * p + x) (4096 - x)
      ≡ entry_of (4096 * p + n) (apart in_first in_second) ++ listing kind (4096 * p + (n + 1)) (4096 - (n + 1))
  next_at n in_first in_second low h N N' f g =
      let k : 4096 * p + x + (n - x) ≡ 4096 * p + n = omega arith in
      let next : 4096 * p + n + 1 ≡ 4096 * p + (n + 1) = omega arith in
      let left : 4096 - x - (n - x + 1) ≡ 4096 - (n + 1) = omega arith in
      let r : (4096 * p + n) % 4096 ≡ n = omega arith in
      rw (k, next, left) at (listing_next kind (4096 * p + x) (n - x) (4096 - x) (omega arith) (λ i u. none_yet n (omega arith) N N' i (omega arith)))
      ∙ rw (r, f, g)

  -- where place n is before what a heap has next, none is live there yet, and n is that place or not
  till : (s : ℕ) (map : List ℕ) (o : Option ℕ) (n : ℕ) → NextLive s map p x o → n ≤ unwrap_or o 4096
      → NoneLive s map p x n
  till s map None n N l y a b = N y a (omega arith)
  till s map (Some r) n N l y a b = N.2 y a (omega arith)

  whose : (s : ℕ) (map : List ℕ) (o : Option ℕ) (n : ℕ) → NextLive s map p x o → x ≤ n → n ≤ unwrap_or o 4096 → n < 4096
      → live_in s map p n ≡ option_eq nat_eq o (Some n)
  whose s map None n N u v w = N n u w
  whose s map (Some r) n N u v w = go (ℕ_discrete r n)
    where
      go : Dec (r ≡ n) → live_in s map p n ≡ nat_eq r n
      go (yes e) = rw (eq-eqb r n e, ← e) N.3
      go (no d) = rw (ne_eqb r n d) (N.2 n u (omega arith))

  pub record Earlier (o o' : Option ℕ) (n : ℕ) : Type 0 where
    pub after : x ≤ n
    pub inside : n < 4096
    pub first : n ≤ unwrap_or o 4096
    pub second : n ≤ unwrap_or o' 4096

  pub earlier_is : (o o' : Option ℕ) (n : ℕ) → NextLive s map p x o → NextLive s' map' p x o' → Some n ≡ earlier o o'
      → Earlier o o' n
  earlier_is None None n N N' e = absurd (true≢false (ap is_some e))
  earlier_is (Some r) None n N N' e =
      let q : n ≡ r = ap (λ (k : Option ℕ). unwrap_or k 0) e in
      record { after = omega (arith, N.0); inside = omega (arith, N.1); first = omega arith; second = omega (arith, N.1) }
  earlier_is None (Some r) n N N' e =
      let q : n ≡ r = ap (λ (k : Option ℕ). unwrap_or k 0) e in
      record { after = omega (arith, N'.0); inside = omega (arith, N'.1); first = omega (arith, N'.1); second = omega arith }
  earlier_is (Some r) (Some r') n N N' e =
      let q : n ≡ min r r' = ap (λ (k : Option ℕ). unwrap_or k 0) e in
      record { after = omega (arith, N.0, N'.0); inside = omega (arith, N.1); first = omega arith; second = omega arith }

  -- it is not before x
  pub not_before : (o o' : Option ℕ) → x ≤ 4096 → NextLive s map p x o → NextLive s' map' p x o'
      → x ≤ unwrap_or (earlier o o') 4096
  not_before None None u N N' = u
  not_before (Some r) None u N N' = N.0
  not_before None (Some r) u N N' = N'.0
  not_before (Some r) (Some r') u N N' = omega (arith, N.0, N'.0)

  pub next_after : (o o' : Option ℕ) (n : ℕ) → NextLive s map p x o → NextLive s' map' p x o' → Earlier o o' n
      → listing kind (4096 * p + x) (4096 - x)
      ≡ entry_of (4096 * p + n) (apart (option_eq nat_eq o (Some n)) (option_eq nat_eq o' (Some n)))
      ++ listing kind (4096 * p + (n + 1)) (4096 - (n + 1))
  next_after o o' n N N' E =
      next_at n (option_eq nat_eq o (Some n)) (option_eq nat_eq o' (Some n)) E.after E.inside
      (till s map o n N E.first) (till s' map' o' n N' E.second)
      (whose s map o n N E.after E.first E.inside) (whose s' map' o' n N' E.after E.second E.inside)
