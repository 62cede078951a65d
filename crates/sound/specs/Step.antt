-- A step that changes pool p of its arena a, and the bit of one block of p: what it has to show, and that the view
-- after it says the plain heap after it. What the view says of the others it said before, for their words, sequences
-- and bytes stand.
-- Assumes nothing.
use Rattle.std.specs.Prelude.{◌≡◌, refl, ◌≢◌, Bool, true, not, List, ℕ, ◌+◌, ◌*◌, ◌/◌, ◌≤◌, ◌<◌, ltb, eqb, length, if◌then◌else◌}
use Rattle.std.proofs.Common.{sym, ap, ap₂, ◌∙◌, inl, inr, arith, eq-eqb, ne_eqb}
use Rattle.std.proofs.Math.Logic.{Ne-symm as flip}
use Rattle.std.proofs.Math.Decide.{ℕ_discrete, dec_le}
use Rattle.std.proofs.Math.Arith.{digits_div}
use Rattle.rules.specs.Say.{how_many}
use Rattle.rules.specs.Books.{at, is_set, edition_word, is_edition, alignment_of, offset_of, put_map_bit}
use Rattle.rules.specs.Blocks.{size_of, start_of, link_at, put_link}
use Rattle.bits.specs.Map.{put_block, length_put}
use Rattle.books.specs.Sizes.{Aligned, size_low}
use Rattle.sequences.specs.Update.{to}
use Rattle.sequences.specs.Sequences.{Not, all_map}
use Rattle.sequences.specs.Rising.{Rising, rising_same}
use Rattle.sound.specs.Books.{View}
use Rattle.sound.specs.Plain.{Plain, count, in_use, carved, free}
use Rattle.sequences.specs.Counting.{many_same}
use Rattle.sound.specs.Bytes.{Outside}
use Rattle.sound.specs.Chains.{Blocks, block_ends, link_bytes, put_link_other, length_link, framed}
use Rattle.sound.specs.Sound.{home, base}
use Rattle.sound.specs.Held.{Says, ArenaSays, PoolSays, ListsSay, PoolRuleOf, rule_memory, opened}

-- ---- the plain heap but for pool p and arena a
pub record Aside (p a : ℕ) (r r' : Plain) : Type 0 where
  pub marks : (x : ℕ) → x ≢ a → r'.mark x ≡ r.mark x
  pub classes : (y : ℕ) → y ≢ p → r'.class y ≡ r.class y
  pub chains : (y : ℕ) → y ≢ p → r'.chain y ≡ r.chain y
  pub virgins : (y : ℕ) → y ≢ p → r'.virgin y ≡ r.virgin y
  pub lives : (y : ℕ) → y ≢ p → r'.live y ≡ r.live y

-- ---- the words but for pool p's and arena a's; of theirs, those that are always 0 stand too
pub record Still (p a : ℕ) (U U' : View) : Type 0 where
  pub heads : (i : ℕ) → U'.head i ≡ U.head i
  pub pools : (w y : ℕ) → y ≢ p → U'.pool w y ≡ U.pool w y
  pub spare : U'.pool 7 p ≡ U.pool 7 p
  pub arenas : (w x : ℕ) → x ≢ a → U'.arena w x ≡ U.arena w x
  pub spares : (w : ℕ) → 6 ≤ w → U'.arena w a ≡ U.arena w a
  pub bases : (x : ℕ) → x ≢ a → U'.base x ≡ U.base x

-- ---- the homes of the other pools
pub record HomesAfter (al A P p : ℕ) (U' : View) (r r' : Plain) : Type 0 where
  pub carve : (y : ℕ) → y < A * P → y ≢ p → carved P r' y ≡ true → carved P r y ≡ true
  pub keep : (y j : ℕ) → y < A * P → y ≢ p → r.live y j ≡ true → carved P r y ≡ true → carved P r' y ≡ true
  pub homes : (y : ℕ) → y < A * P → y ≢ p → U'.home y ≡ home al P r' y

-- ---- the bytes but for pool p's
pub record BytesAfter (p : ℕ) (m m' : List ℕ) : Type 0 where
  pub same_length : length m' ≡ length m
  pub others : (i : ℕ) → i / 4096 ≢ p → at m' i ≡ at m i

-- none changes
pub no_bytes : (p : ℕ) (m : List ℕ) → BytesAfter p m m
no_bytes p m = record { same_length = refl; others = λ i d. refl }

-- a link is written at f in pool p
pub link_after : (m : List ℕ) (p f v : ℕ) → f + 4 ≤ 4096 → BytesAfter p m (put_link (offset_of p f) v m)
link_after m p f v l =
    record {
      same_length = length_link m (offset_of p f) v;
      others = λ i d. put_link_other m (offset_of p f) v i (off i d (dec_le (offset_of p f) i) (dec_le (offset_of p f + 4) i));
    }
  where
    off : (i : ℕ) → i / 4096 ≢ p → Dec (offset_of p f ≤ i) → Dec (offset_of p f + 4 ≤ i) → Outside (offset_of p f) 4 i
    off i d (no q) t = inl (omega arith)
    off i d (yes q) (yes t) = inr t
    off i d (yes q) (no t) = absurd (d (omega arith))

-- ---- what counts and belongings are made of
-- a pool's count, and an arena's free pools, are made of the live blocks
pub count_same : (r r' : Plain) (y : ℕ) → r'.live y ≡ r.live y → count r' y ≡ count r y
count_same r r' y e = ap (λ (f : ℕ → Bool). how_many f 512) e

pub free_same : {p a : ℕ} {r r' : Plain} (P x : ℕ) → Aside p a r r' → p / P ≡ a → x ≢ a → free P r' x ≡ free P r x
free_same {p} {a} {r} {r'} P x T of d =
    many_same (λ i. not (in_use r (x * P + i))) (λ i. not (in_use r' (x * P + i))) P
    (λ i l. ap (λ (n : ℕ). not (ltb 0 n)) (count_same r r' (x * P + i) (T.lives (x * P + i) (λ e. d (sym (digits_div x l) ∙ ap (λ (z : ℕ). z / P) e ∙ of)))))

-- so arenas without a rise as they did
pub order_aside : {p a : ℕ} {r r' : Plain} (P : ℕ) (xs : List ℕ) → Aside p a r r' → p / P ≡ a → Not a xs
    → Rising (free P r) xs
    → Rising (free P r') xs
order_aside {r = r} {r' = r'} P xs T of n =
    rising_same (free P r) (free P r') xs (all_map {R = λ y. free P r' y ≡ free P r y} (λ y d. free_same P y T of (flip d)) xs n)

-- an arena belongs where its mark and its free pools say
pub base_same : (r r' : Plain) (P x : ℕ) → r'.mark x ≡ r.mark x → free P r' x ≡ free P r x → base P r' x ≡ base P r x
unfolding base
base_same r r' P x e f = rw (e, f)

-- and a pool where its live blocks, its class and its being carved say
pub home_same : (r r' : Plain) (al P y : ℕ) → r'.live y ≡ r.live y → r'.class y ≡ r.class y
    → carved P r' y ≡ carved P r y → home al P r' y ≡ home al P r y
unfolding home
home_same r r' al P y e f g = rw (count_same r r' y e, f, g)

-- the homes of the other pools stand where the same pools are carved
pub homes_same : {al A P p a : ℕ} {U' : View} {r r' : Plain} → Aside p a r r'
    → ((y : ℕ) → y < A * P → y ≢ p → carved P r' y ≡ carved P r y)
    → ((y : ℕ) → y < A * P → y ≢ p → U'.home y ≡ home al P r y) → HomesAfter al A P p U' r r'
homes_same {al = al} {P = P} {r = r} {r' = r'} T c h =
    record {
      carve = λ y l d e. sym (c y l d) ∙ e;
      keep = λ y j l d _ e. c y l d ∙ e;
      homes = λ y l d. h y l d ∙ sym (home_same r r' al P y (T.lives y d) (T.classes y d) (c y l d));
    }

-- the map, where the bit of block j of pool p is put to d
bits_after : {al A P : ℕ} {U : View} {m k : List ℕ} {r : Plain} → Says al A P U m k r → (p j d : ℕ) → p < A * P
    → j < 512 → d < 2
    → (n i : ℕ) → n < A * P → i < 512 → is_set (put_map_bit p j d k) n i ≡ to p (to j (eqb d 1) (r.live p)) r.live n i
bits_after {al} {A} {P} {U} {m} {k} {r} F p j d l u v n i ln li =
    put_block k p j d n i v u li (omega (arith, F.maps)) ∙ go (ℕ_discrete n p)
  where
    go : Dec (n ≡ p)
        → (if eqb n p then (if eqb i j then eqb d 1 else is_set k n i) else is_set k n i)
        ≡ to p (to j (eqb d 1) (r.live p)) r.live n i
    go (yes q) = rw (eq-eqb n p q, F.bits n i ln li, q)
    go (no q) = rw (ne_eqb n p q, F.bits n i ln li)

-- ---- the step: what is said of pool p, of arena a and of the lists is shown of the path, and all else stands
module _ {al A P p a : ℕ} {U U' : View} {m m' k : List ℕ} {r r' : Plain} (L : Aligned al)
    (F : Says al A P U m k r) (lp : p < A * P) (of : p / P ≡ a) (T : Aside p a r r')
    (W : Still p a U U') (Q : PoolSays al P U' m' r' p) (R : ArenaSays P U' r' a)
    (X : ListsSay A U' r') (Z : Rising (free P r') r'.usable) (H : HomesAfter al A P p U' r r') (M : BytesAfter p m m') where
  -- the links of another pool's chain stand
  blocks_still : (s y v : ℕ) {free next : ℕ} {live : ℕ → Bool} {chain : List ℕ} → 4 ≤ s → y ≢ p
      → Blocks s y m free next live chain v → Blocks s y m' free next live chain v
  blocks_still s y v {free} {next} {live} {chain} l d B =
      framed B m' (all_map {R = λ j. link_at m' (offset_of y (start_of s j)) ≡ link_at m (offset_of y (start_of s j))}
      (λ j (u : j < v). link_bytes m m' (offset_of y (start_of s j))
      (λ e t. M.others (offset_of y (start_of s j) + e) (λ q. d (omega (arith, block_ends s j v u B.fits))))) chain B.below)

  rule_still : (y : ℕ) → y < A * P → y ≢ p → carved P r y ≡ true → PoolRuleOf al U' m' r' y
  rule_still y l d c =
      rw (count_same r r' y (T.lives y d), T.classes y d, T.lives y d, T.chains y d, T.virgins y d, W.pools 1 y d, W.pools 5 y d, W.pools 6 y d)
      (rule_memory (λ low. blocks_still (size_of al (r.class y)) y (r.virgin y) (omega (arith, size_low L (r.class y) low)) d) ((F.pools y l).rule c))

  pub stepped : (j d : ℕ) → j < 512 → d < 2 → r'.live ≡ to p (to j (eqb d 1) (r.live p)) r.live
      → Says al A P U' m' (put_map_bit p j d k) r'
  stepped j d lj ld live_is =
      record {
        range = F.range;
        bytes = M.same_length ∙ F.bytes;
        maps = length_put k p j d ∙ F.maps;
        arenas_are = W.heads 0 ∙ F.arenas_are;
        pools_are = W.heads 1 ∙ F.pools_are;
        alignment_is = ap alignment_of (W.heads edition_word) ∙ F.alignment_is;
        an_edition = ap is_edition (W.heads edition_word) ∙ F.an_edition;
        spare_zeros = λ i u v. W.heads i ∙ F.spare_zeros i u v;
        arena_zeros = λ w x u v l. zero_arena w x u v l (ℕ_discrete x a);
        pool_zeros = λ n l. zero_pool n l (ℕ_discrete n p);
        arenas = λ x l. arenas' x l (ℕ_discrete x a);
        pools = λ n l. pools' n l (ℕ_discrete n p);
        bits = λ n i ln li. bits_after F p j d lp lj ld n i ln li ∙ ap (λ (g : ℕ → ℕ → Bool). g n i) (sym live_is);
        lists = X;
        order = Z;
      }
    where
      zero_arena : (w x : ℕ) → 6 ≤ w → w < 8 → x < A → Dec (x ≡ a) → U'.arena w x ≡ 0
      zero_arena w x u v l (yes q) = ap (U'.arena w) q ∙ W.spares w u ∙ ap (U.arena w) (sym q) ∙ F.arena_zeros w x u v l
      zero_arena w x u v l (no q) = W.arenas w x q ∙ F.arena_zeros w x u v l

      zero_pool : (n : ℕ) → n < A * P → Dec (n ≡ p) → U'.pool 7 n ≡ 0
      zero_pool n l (yes q) = ap (U'.pool 7) q ∙ W.spare ∙ F.pool_zeros p lp
      zero_pool n l (no q) = W.pools 7 n q ∙ F.pool_zeros n l

      arenas' : (x : ℕ) → x < A → Dec (x ≡ a) → ArenaSays P U' r' x
      arenas' x l (yes q) = rw q R
      arenas' x l (no q) =
          let e : r'.mark x ≡ r.mark x = T.marks x q in
          let f : free P r' x ≡ free P r x = free_same P x T of q in
          record {
            open_is = W.arenas 0 x q ∙ (F.arenas x l).open_is ∙ ap opened (sym e);
            mark_is = W.arenas 1 x q ∙ (F.arenas x l).mark_is ∙ sym e;
            mark_high = rw e (F.arenas x l).mark_high;
            free_is = W.arenas 2 x q ∙ (F.arenas x l).free_is ∙ ap₂ (λ (u v : ℕ). if eqb u 0 then 0 else v) (sym e) (sym f);
            base_is = W.bases x q ∙ (F.arenas x l).base_is ∙ sym (base_same r r' P x e f);
          }

      pools' : (n : ℕ) → n < A * P → Dec (n ≡ p) → PoolSays al P U' m' r' n
      pools' n l (yes q) = rw q Q
      pools' n l (no q) =
          record {
            count_is = W.pools 0 n q ∙ (F.pools n l).count_is ∙ sym (count_same r r' n (T.lives n q));
            class_is = W.pools 4 n q ∙ (F.pools n l).class_is ∙ sym (T.classes n q);
            used = λ i o.
                let on : r.live n i ≡ true = sym (ap (λ (f : ℕ → Bool). f i) (T.lives n q)) ∙ o in
                let t = (F.pools n l).used i on in
                (H.keep n i l q on t.0, rw (T.classes n q) t.1);
            rule = λ c. rule_still n l q (H.carve n l q c);
            home_is = H.homes n l q;
          }
