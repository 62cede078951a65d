-- The blocks of one pool, by W-201's audit and by rule 8 of `Sound`: where `is_divided` passes, the chain that is read
-- from memory is the sequence of the freed blocks; and it passes wherever there is such a sequence. For a chain that
-- ends meets none twice, and it has as many blocks as are neither live nor virgin.
-- Assumes nothing.
use Rattle.std.specs.Prelude.{◌≡◌, refl, Bool, true, false, ◌&&◌, ◌||◌, leb, ltb, length, if◌then◌else◌}
use Rattle.std.proofs.Common.{sym, ◌∙◌, inl, inr, arith}
use Rattle.std.proofs.Math.Path.{ap}
use Rattle.std.proofs.Math.Bool.{not}
use Rattle.std.proofs.lemmas.Bool.{false≢true}
use mathlib.Core.List.{List, [], ◌∷◌}
use Prim.Native.Nat.{ℕ, zero, suc, ◌≤◌, ◌<◌}
use Rattle.std.proofs.Math.Decide.{dec_lt}
use Rattle.std.proofs.Math.Dec.{eqb}
use borrow.Author.Tests.{eq-eqb, ne_eqb, le-leb, lt-ltb, leb-true, ltb-true, ltb-false, eqb-true}
use Rattle.rules.specs.Say.{how_many}
use Rattle.rules.specs.Books.{is_set, freeblock, class, nextoffset, maxnextoffset, pool, offset_of, carved}
use Rattle.rules.specs.Blocks.{size_of, last_class, start_of, last_start, is_start, block_no, capacity, link_at}
use Rattle.rules.specs.Audit.{
  set_bits,
  bits_below,
  is_dead,
  chained,
  virgin,
  on_chain,
  least_on_chain,
  is_divided,
}
use Rattle.books.specs.Tests.{both}
use Rattle.books.specs.Starts.{start, start_is, number_is, next_is, is_next}
use Rattle.books.specs.Sizes.{Aligned, size_low, capacity_high, least_is}
use Rattle.sequences.specs.Sequences.{All, In, Once, among, all_map, all_in, among_in, in_among}
use Rattle.sequences.specs.Counting.{many_same, many_cut, many_not, below_is, is_below}
use Rattle.sequences.specs.Linked.{Stack}
use Rattle.sequences.specs.Walks.{Member, has_all, stack_once}
use Rattle.sound.specs.Chains.{Chained, Blocks, room, live_below}
use Rattle.sound.specs.Sound.{InClass}

-- ---- the chain in memory
-- the numbers of the k blocks that are met from the link l on
abbrev chain_read : ℕ → ℕ → List ℕ → ℕ → ℕ → List ℕ
chain_read s n memory zero l = []
chain_read s n memory (suc k) l = block_no s l ∷ chain_read s n memory k (link_at memory (offset_of n l))

module _ (s n : ℕ) (memory : List ℕ) (low : 8 ≤ s) where
  -- it is a walk over blocks as those over records, so it meets none twice
  abbrev link_of : ℕ → ℕ
  link_of o = if eqb o 0 then 0 else suc (block_no s o)

  abbrev next : ℕ → ℕ
  next k = link_of (link_at memory (offset_of n (start_of s k)))

  chain_stack : (l : ℕ) (ks : List ℕ) → Chained s n memory l ks → Stack next (link_of l) ks
  chain_stack l [] w = rw (eq-eqb l 0 w)
  chain_stack l (k ∷ ks) w = (
    rw (ne_eqb l 0 (omega (arith, w.0)), w.0, number_is s k (omega arith)),
    chain_stack (link_at memory (offset_of n (start_of s k))) ks w.1,
  )

  chain_once : (l : ℕ) (ks : List ℕ) → Chained s n memory l ks → Once ks
  chain_once l ks w = stack_once next (link_of l) ks (chain_stack l ks w)

  -- k blocks below block v that are not live are met
  module _ (live : ℕ → Bool) (v : ℕ) where
    chained_is : (k l : ℕ) → chained s n memory live v k l ≡ true
        → Chained s n memory l (chain_read s n memory k l)
        × All (Member (λ j. not (live j)) v) (chain_read s n memory k l) × (length (chain_read s n memory k l) ≡ k)
    unfolding chained is_dead
    chained_is zero l e = (eqb-true l 0 e, tt, refl)
    chained_is (suc k) l e =
        let t = both (is_dead s live v l) (chained s n memory live v k (link_at memory (offset_of n l))) e in
        let u = both (is_start s l) (ltb (block_no s l) v && not (live (block_no s l))) t.0 in
        let w = both (ltb (block_no s l) v) (not (live (block_no s l))) u.1 in
        let i = chained_is k (link_at memory (offset_of n l)) t.1 in
        let place : start_of s (block_no s l) ≡ l = (start s l low u.0).place in
        ((sym place, rw place i.0), ((ltb-true (block_no s l) v w.0, w.1), i.1), ap suc i.2)

    is_chained : v ≤ capacity s → (l : ℕ) (ks : List ℕ) → Chained s n memory l ks
        → All (Member (λ j. not (live j)) v) ks → chained s n memory live v (length ks) l ≡ true
    unfolding chained is_dead
    is_chained c l [] w a = eq-eqb l 0 w
    is_chained c l (k ∷ ks) w a =
        rw (w.0, start_is s k (omega (arith, a.0.0)), number_is s k (omega arith), lt-ltb k v a.0.0, a.0.1)
        (is_chained c (link_at memory (offset_of n (start_of s k))) ks w.1 a.1)

-- the chain of pool n, of blocks of size s: it has the blocks before nextoffset that are not live
abbrev pub chain_of : ℕ → ℕ → List ℕ → List ℕ → List ℕ → ℕ → List ℕ
chain_of s A memory b map n = chain_read s n memory (on_chain s A b map n) (pool A b freeblock n)

-- ---- carved pool n, of a class that has blocks, and which of them are live
module _ {al : ℕ} (L : Aligned al) (A P : ℕ) (memory b map : List ℕ) (n : ℕ) (in_carved : carved P b n ≡ true)
    (class_low : pool A b class n ≤ last_class al) (live : ℕ → Bool)
    (bits : (k : ℕ) → k < 512 → is_set map n k ≡ live k) (beyond : (k : ℕ) → 512 ≤ k → live k ≡ false) where
  abbrev s : ℕ
  s = size_of al (pool A b class n)

  abbrev v : ℕ
  v = virgin s A b n

  low : 8 ≤ s
  low = size_low L (pool A b class n) class_low

  few : capacity s ≤ 506
  few = capacity_high L (pool A b class n) class_low

  count_is : set_bits map n ≡ how_many live 512
  count_is = many_same live (is_set map n) 512 bits

  -- "two at least on the chain if the pool is freed, one unless it is full"
  abbrev Least : ℕ → Type 0
  Least k = (set_bits map n ≡ 0 → 2 ≤ k) × (set_bits map n < capacity s → 1 ≤ k)

  least : (k : ℕ) → least_on_chain al A P b map n ≤ k → Least k
  least k l = go (ltb 0 (set_bits map n)) (ltb (set_bits map n) (capacity s)) refl refl (rw (least_is al A P b map n in_carved class_low) at l)
    where
      go : (t u : Bool) → ltb 0 (set_bits map n) ≡ t → ltb (set_bits map n) (capacity s) ≡ u
          → (if t then (if u then 1 else 0) else 2) ≤ k → Least k
      go true true p q l = (λ z. absurd (omega (arith, ltb-true 0 (set_bits map n) p)), λ _. l)
      go true false p q l =
          (λ z. absurd (omega (arith, ltb-true 0 (set_bits map n) p)), λ u. absurd (omega (arith, ltb-false (set_bits map n) (capacity s) q)))
      go false u p q l = (λ _. l, λ _. omega arith)

  at_least : (k : ℕ) → Least k → least_on_chain al A P b map n ≤ k
  at_least k f = rw (least_is al A P b map n in_carved class_low) (go (ltb 0 (set_bits map n)) (ltb (set_bits map n) (capacity s)) refl refl)
    where
      go : (t u : Bool) → ltb 0 (set_bits map n) ≡ t → ltb (set_bits map n) (capacity s) ≡ u
          → (if t then (if u then 1 else 0) else 2) ≤ k
      go true true p q = f.1 (ltb-true (set_bits map n) (capacity s) q)
      go true false p q = omega arith
      go false u p q = f.0 (omega (arith, ltb-false 0 (set_bits map n) p))

  -- what the test says of them
  pub divided_is : is_divided al A P memory b map s n ≡ true
      → InClass al n memory (set_bits map n) (pool A b freeblock n) (pool A b class n) (pool A b nextoffset n)
      (pool A b maxnextoffset n) live (chain_of s A memory b map n) v
  unfolding is_divided
  divided_is e =
      let t₀ = both _ (leb (least_on_chain al A P b map n) (on_chain s A b map n)) e in
      let t₁ = both _ (chained s n memory (is_set map n) v (on_chain s A b map n) (pool A b freeblock n)) t₀.0 in
      let t₂ = both _ (bits_below map n v) t₁.0 in
      let t₃ = both (eqb (pool A b maxnextoffset n) (last_start s))
      (is_start s (pool A b nextoffset n) || eqb (pool A b nextoffset n) (start_of s (capacity s))) t₂.0 in
      says (eqb-true (pool A b maxnextoffset n) (last_start s) t₃.0) (next_is s (pool A b nextoffset n) low t₃.1) (below_is map n v t₂.1)
      (chained_is s n memory low (is_set map n) v (on_chain s A b map n) (pool A b freeblock n) t₁.1)
      (leb-true (least_on_chain al A P b map n) (on_chain s A b map n) t₀.1)
    where
      chain : List ℕ
      chain = chain_of s A memory b map n

      says : pool A b maxnextoffset n ≡ last_start s
          → (pool A b nextoffset n ≡ start_of s v) × (v ≤ capacity s)
          → ((k : ℕ) → k < 512 → is_set map n k ≡ true → k < v)
          → Chained s n memory (pool A b freeblock n) (chain_of s A memory b map n)
          × All (Member (λ k. not (is_set map n k)) v) (chain_of s A memory b map n)
          × (length (chain_of s A memory b map n) ≡ on_chain s A b map n)
          → least_on_chain al A P b map n ≤ on_chain s A b map n
          → InClass al n memory (set_bits map n) (pool A b freeblock n) (pool A b class n) (pool A b nextoffset n)
          (pool A b maxnextoffset n) live (chain_of s A memory b map n) v
      says max next lower met enough =
          record {
            class_low = class_low;
            maxnextoffset_is = max;
            blocks = record {
              next_is = next.0;
              fits = next.1;
              chained = met.0;
              once = once;
              below = all_map {R = λ k. k < v} (λ k (t : Member (λ k. not (live k)) v k). t.0) chain spare;
              either = λ k l. either k l (live k) refl;
              rest = λ k l. rest k l (dec_lt k 512) (live k) refl;
            };
            two = λ z. rw met.2 ((least (on_chain s A b map n) enough).0 z);
            one = λ l. rw met.2 ((least (on_chain s A b map n) enough).1 l);
          }
        where
          rest : (k : ℕ) → v ≤ k → Dec (k < 512) → (t : Bool) → live k ≡ t → t ≡ false
          rest k l d false q = refl
          rest k l (no d) true q = sym q ∙ beyond k (omega arith)
          rest k l (yes d) true q = absurd (omega (arith, lower k d (bits k d ∙ q)))

          -- the chain's are all that are not live below block v
          spare : All (Member (λ k. not (live k)) v) chain
          spare =
              all_map {R = Member (λ k. not (live k)) v}
              (λ k (t : Member (λ k. not (is_set map n k)) v k). (t.0, rw (bits k (omega (arith, t.0, next.1, few))) at t.1)) chain met.1

          once : Once chain
          once = chain_once s n memory low (pool A b freeblock n) chain met.0

          number : length chain ≡ how_many (λ k. not (live k)) v
          number =
              omega (
                arith,
                met.2,
                count_is,
                many_cut live v 512 (omega (arith, next.1, few)) (λ k l d. rest k l (yes d) (live k) refl),
                many_not live v,
              )

          either : (k : ℕ) → k < v → (t : Bool) → live k ≡ t → t ≡ not (among k chain)
          either k l false q = rw (in_among k chain (has_all (λ k. not (live k)) v chain once spare number k l (ap not q)))
          either k l true q = go (among k chain) refl
            where
              go : (t : Bool) → among k chain ≡ t → true ≡ not t
              go false e = refl
              go true e = absurd (false≢true (sym (ap not q) ∙ (all_in (Member (λ k. not (live k)) v) k chain spare (among_in k chain e)).1))

  -- and that they pass it
  pub is_divided_lem : (chain : List ℕ) (first : ℕ)
      → InClass al n memory (set_bits map n) (pool A b freeblock n) (pool A b class n) (pool A b nextoffset n)
      (pool A b maxnextoffset n) live chain first
      → is_divided al A P memory b map s n ≡ true
  unfolding is_divided
  is_divided_lem chain first I =
      rw (
        eq-eqb (pool A b maxnextoffset n) (last_start s) I.maxnextoffset_is,
        is_next s (pool A b nextoffset n) low first B.next_is B.fits,
        is_below map n v (λ k l q. omega (arith, virgin_is, live_below B k (sym (bits k l) ∙ q))),
        ← number,
        is_chained s n memory low (is_set map n) v (omega (arith, virgin_is, B.fits)) (pool A b freeblock n) chain B.chained spare,
        le-leb (least_on_chain al A P b map n) (length chain) (at_least (length chain) (I.two, I.one)),
      )
    where
      B : Blocks s n memory (pool A b freeblock n) (pool A b nextoffset n) live chain first
      B = I.blocks

      virgin_is : virgin s A b n ≡ first
      virgin_is = ap (block_no s) B.next_is ∙ number_is s first (omega (arith, low))

      number : length chain ≡ on_chain s A b map n
      number = omega (arith, room B (omega (arith, few)), count_is, virgin_is)

      spare : All (Member (λ k. not (is_set map n k)) (virgin s A b n)) chain
      spare = go chain B.below (λ k i. i)
        where
          go : (ks : List ℕ) → All (λ k. k < first) ks → ((k : ℕ) → In k ks → In k chain)
              → All (Member (λ k. not (is_set map n k)) (virgin s A b n)) ks
          go [] a f = tt
          go (k ∷ ks) a f = (
            (
              omega (arith, a.0, virgin_is),
              ap not (bits k (omega (arith, a.0, B.fits, few)) ∙ B.either k a.0 ∙ ap not (in_among k chain (f k (inl refl)))),
            ),
            go ks a.1 (λ j i. f j (inr i)),
          )
