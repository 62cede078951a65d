-- What the books say, record by record and list by list, and one law for each kind of write: a path of 01 is a chain
-- of these laws.
-- Assumes nothing.
use Rattle.std.specs.Prelude.{◌≡◌, refl, ◌≢◌, true, ◌&&◌, ℕ, suc, ◌+◌, ◌*◌, ◌<◌, ◌≤◌, eqb, length, set, if◌then◌else◌}
use Rattle.std.proofs.Common.{sym, ap, ◌∙◌, subst, arith, length-set, get_or-set_same, get_or-set_other, lt-length-set, eq-eqb, ne_eqb, le-leb}
use Rattle.std.proofs.Math.Logic.{Ne-symm as flip}
use mathlib.Core.List.{List, [], ◌∷◌, ◌++◌, append_assoc}
use Rattle.std.proofs.Math.Decide.{ℕ_discrete}
use Rattle.std.proofs.lemmas.List.{set_comm, set-get_or}
use Rattle.rules.specs.Say.{◌▷◌}
use Rattle.rules.specs.Books.{
  at,
  put,
  class_head,
  freed_head,
  arena_next,
  arena_previous,
  arena_word,
  arena,
  pool_next,
  pool_previous,
  pool_word,
  pool,
  link_to,
}
use Rattle.rules.specs.Lists.{next_at, previous_at, leave, join, go_in_after, may_leave, arena_links, pool_links}
use Rattle.sequences.specs.Update.{to, to_same, to_other}
use Rattle.sequences.specs.Sequences.{All, Not, In, Split, split, erase, erase_front, after, after_is, last_link, last_link_lem, all_map, all_every}
use Rattle.sequences.specs.Linked.{
  Doubly,
  Singly,
  joined_by,
  joined,
  standing,
  left,
  leave_is,
  join_is,
  go_in_is,
  joined_other,
  left_other,
  joined_length,
  left_length,
  left_own,
  LinksSame,
  singly_same,
  singly_comes,
  singly_goes,
}
use Rattle.sequences.specs.Families.{
  At,
  Family,
  stranger,
  comes,
  goes,
  Alike,
  alike,
  aside,
  doubly_stay,
  singly_stay,
  Apart,
  head_link,
  member_links,
  leave_keeps,
  leaves,
  join_keeps,
  joins,
}

-- ---- what the books say
pub record View : Type 0 where
  pub head : ℕ → ℕ  -- words 0, 1 and 68 to 71
  pub pool : ℕ → ℕ → ℕ  -- word w of pool n's record, its links aside
  pub arena : ℕ → ℕ → ℕ  -- word w of arena a's record, its links and its freed-pool head aside
  pub home : ℕ → ℕ  -- of a pool: the head of its list; 0 if it is on none and has both links 0; 1 if it is on none
  pub base : ℕ → ℕ  -- of an arena: the head of its list, or 0
  pub listed : ℕ → List ℕ  -- of a class: its list
  pub freed : ℕ → List ℕ  -- of an arena: its freed pools
  pub arenas : ℕ → List ℕ  -- by their heads: the usable and the unused arenas

-- a word of a pool record that is no link; a word of an arena record that is no link and no head; the arenas' heads
abbrev pub PoolWord : ℕ → Type 0
PoolWord w = (w < 8) × (w ≢ 2) × (w ≢ 3)

abbrev pub ArenaWord : ℕ → Type 0
ArenaWord w = (w < 8) × (w ≢ 3) × (w ≢ 4) × (w ≢ 5)

abbrev pub ArenaHead : ℕ → Type 0
ArenaHead i = (2 ≤ i) × (i < 4)

-- the class lists, the freed pools' lists and the arenas' two lists, in the books b of A arenas and N pools
abbrev pub ClassLists : ℕ → ℕ → List ℕ → (ℕ → ℕ) → (ℕ → List ℕ) → Type 0
ClassLists A N b = Family (Doubly (pool_word A pool_next) (pool_word A pool_previous) b) (λ c. c < 64) class_head N

abbrev pub FreedLists : ℕ → ℕ → List ℕ → (ℕ → ℕ) → (ℕ → List ℕ) → Type 0
FreedLists A N b =
    Family (Singly (pool_word A pool_next) (pool_word A pool_previous) b) (λ a. a < A) (arena_word freed_head) N

abbrev pub ArenaLists : ℕ → List ℕ → (ℕ → ℕ) → (ℕ → List ℕ) → Type 0
ArenaLists A b = Family (Doubly (arena_word arena_next) (arena_word arena_previous) b) ArenaHead (λ i. i) A

-- the books b of A arenas and N pools say U
pub record Books (A N : ℕ) (b : List ℕ) (U : View) : Type 0 where
  pub words : length b ≡ 72 + 8 * A + 8 * N
  pub first : (i : ℕ) → i < 2 → at b i ≡ U.head i
  pub spare : (i : ℕ) → 68 ≤ i → i < 72 → at b i ≡ U.head i
  pub pools : (w n : ℕ) → PoolWord w → n < N → at b (pool_word A w n) ≡ U.pool w n
  pub arenas : (w a : ℕ) → ArenaWord w → a < A → at b (arena_word w a) ≡ U.arena w a
  pub listed : ClassLists A N b U.home U.listed
  pub freed : FreedLists A N b U.home U.freed
  pub lists : ArenaLists A b U.base U.arenas
  pub loose : (n : ℕ) → n < N → U.home n ≡ 0 → (pool A b pool_next n ≡ 0) × (pool A b pool_previous n ≡ 0)
  pub spent : (a : ℕ) → a < A → U.base a ≡ 0 → (arena b arena_next a ≡ 0) × (arena b arena_previous a ≡ 0)

-- ---- changes of what is said
abbrev pub pool_to : ℕ → ℕ → ℕ → View → View
pool_to w n v U =
    record {
      head = U.head;
      pool = λ u y. if eqb y n && eqb u w then v else U.pool u y;
      arena = U.arena;
      home = U.home;
      base = U.base;
      listed = U.listed;
      freed = U.freed;
      arenas = U.arenas;
    }

abbrev pub arena_to : ℕ → ℕ → ℕ → View → View
arena_to w a v U =
    record {
      head = U.head;
      pool = U.pool;
      arena = λ u x. if eqb x a && eqb u w then v else U.arena u x;
      home = U.home;
      base = U.base;
      listed = U.listed;
      freed = U.freed;
      arenas = U.arenas;
    }

abbrev pub home_to : ℕ → ℕ → View → View
home_to n v U =
    record {
      head = U.head;
      pool = U.pool;
      arena = U.arena;
      home = to n v U.home;
      base = U.base;
      listed = U.listed;
      freed = U.freed;
      arenas = U.arenas;
    }

abbrev pub base_to : ℕ → ℕ → View → View
base_to a v U =
    record {
      head = U.head;
      pool = U.pool;
      arena = U.arena;
      home = U.home;
      base = to a v U.base;
      listed = U.listed;
      freed = U.freed;
      arenas = U.arenas;
    }

abbrev pub listed_to : ℕ → List ℕ → View → View
listed_to c xs U =
    record {
      head = U.head;
      pool = U.pool;
      arena = U.arena;
      home = U.home;
      base = U.base;
      listed = to c xs U.listed;
      freed = U.freed;
      arenas = U.arenas;
    }

abbrev pub freed_to : ℕ → List ℕ → View → View
freed_to a xs U =
    record {
      head = U.head;
      pool = U.pool;
      arena = U.arena;
      home = U.home;
      base = U.base;
      listed = U.listed;
      freed = to a xs U.freed;
      arenas = U.arenas;
    }

abbrev pub arenas_to : ℕ → List ℕ → View → View
arenas_to i xs U =
    record {
      head = U.head;
      pool = U.pool;
      arena = U.arena;
      home = U.home;
      base = U.base;
      listed = U.listed;
      freed = U.freed;
      arenas = to i xs U.arenas;
    }

-- the homes are others altogether
abbrev pub homes_to : (ℕ → ℕ) → View → View
homes_to home U =
    record {
      head = U.head;
      pool = U.pool;
      arena = U.arena;
      home = home;
      base = U.base;
      listed = U.listed;
      freed = U.freed;
      arenas = U.arenas;
    }

-- the freed pools of arena a are on no list any more
abbrev pub freed_none : ℕ → View → View
freed_none a U = U ▷ homes_to (λ y. if eqb (U.home y) (arena_word freed_head a) then 1 else U.home y) ▷ freed_to a []

-- ---- where the lists' words lie
class_apart : (A N len : ℕ) → len ≡ 72 + 8 * A + 8 * N
    → Apart (pool_word A 2) (pool_word A 3) (λ c. c < 64) class_head N len
class_apart A N len e = record { lay = λ c k. omega arith; one = λ i j k h q. omega arith }

head_apart : (A N len : ℕ) → len ≡ 72 + 8 * A + 8 * N → Apart (arena_word 4) (arena_word 5) ArenaHead (λ i. i) A len
head_apart A N len e = record { lay = λ i k. omega arith; one = λ i j k h q. q }

-- two words of arena records differ where their numbers do, or the records; a word of a pool record that is no link
-- is none of another
arena_apart : (w a v x : ℕ) → w < 8 → v < 8 → w ≢ v → arena_word w a ≢ arena_word v x
arena_apart w a v x l m d = omega arith

records_apart : (w a v x : ℕ) → w < 8 → v < 8 → a ≢ x → arena_word w a ≢ arena_word v x
records_apart w a v x l m d = omega arith

link_apart : (A w n m : ℕ) → PoolWord w → (pool_word A w n ≢ pool_word A 2 m) × (pool_word A w n ≢ pool_word A 3 m)
link_apart A w n m k = let u : w < 8 = k.0 in let d : w ≢ 2 = k.1 in let e : w ≢ 3 = k.2 in omega arith

-- ---- a word that is no head and no link is put
module _ {A N : ℕ} {b : List ℕ} {U : View} (K : Books A N b U) where
  -- word i, past the heads, is none of the lists'
  abbrev NoLink : ℕ → Type 0
  NoLink i =
      (72 ≤ i)
      × ((a : ℕ) → a < A → (i ≢ arena_word 3 a) × (i ≢ arena_word 4 a) × (i ≢ arena_word 5 a))
      × ((n : ℕ) → (i ≢ pool_word A 2 n) × (i ≢ pool_word A 3 n))

  -- the books are then what they were, but for the words of records
  put_word_lem : (i v : ℕ) → NoLink i → (pool' arena' : ℕ → ℕ → ℕ)
      → ((w n : ℕ) → PoolWord w → n < N → at (put i v b) (pool_word A w n) ≡ pool' w n)
      → ((w a : ℕ) → ArenaWord w → a < A → at (put i v b) (arena_word w a) ≡ arena' w a)
      → Books A N (put i v b) (record {
        head = U.head;
        pool = pool';
        arena = arena';
        home = U.home;
        base = U.base;
        listed = U.listed;
        freed = U.freed;
        arenas = U.arenas;
      })
  put_word_lem i v f pool' arena' pools arenas =
      record {
        words = length-set b i v ∙ K.words;
        first = λ j u. other j (omega (arith, f.0)) ∙ K.first j u;
        spare = λ j u u'. other j (omega (arith, f.0)) ∙ K.spare j u u';
        pools = pools;
        arenas = arenas;
        listed = doubly_stay (record { heads = λ c k. other (class_head c) (omega (arith, f.0)); links = λ c y k l e. links y })
            (alike (λ y l. refl)) K.listed;
        freed = singly_stay (record { heads = λ a k. other (arena_word 3 a) (flip (f.1 a k).0); links = λ a y k l e. links y })
            (alike (λ y l. refl)) K.freed;
        lists = doubly_stay (record { heads = λ j k. other j (omega (arith, f.0)); links = λ j a k l e. arena_links_lem a l }) (alike (λ a l. refl)) K.lists;
        loose = λ n l e. let t = K.loose n l e in ((links n).0 ∙ t.0, (links n).1 ∙ t.1);
        spent = λ a l e. let t = K.spent a l e in ((arena_links_lem a l).0 ∙ t.0, (arena_links_lem a l).1 ∙ t.1);
      }
    where
      other : (j : ℕ) → j ≢ i → at (put i v b) j ≡ at b j
      other j d = get_or-set_other b i j v 0 d

      links : (n : ℕ) → LinksSame (pool_word A 2) (pool_word A 3) b (put i v b) n
      links n = (other _ (flip (f.2 n).0), other _ (flip (f.2 n).1))

      arena_links_lem : (a : ℕ) → a < A → LinksSame (arena_word 4) (arena_word 5) b (put i v b) a
      arena_links_lem a l = (other _ (flip (f.1 a l).1), other _ (flip (f.1 a l).2))

  -- a word of a pool record
  pub put_pool_lem : (w p v : ℕ) → PoolWord w → p < N → Books A N (put (pool_word A w p) v b) (pool_to w p v U)
  put_pool_lem w p v k l =
      put_word_lem (pool_word A w p) v (omega arith, (λ a m. omega arith), (λ n. link_apart A w p n k)) _ _
      (λ w' n k' u. pools' w' n k' u (ℕ_discrete n p) (ℕ_discrete w' w)) (λ w' a k' u. other (arena_word w' a) (omega arith) ∙ K.arenas w' a k' u)
    where
      other : (j : ℕ) → j ≢ pool_word A w p → at (put (pool_word A w p) v b) j ≡ at b j
      other j d = get_or-set_other b (pool_word A w p) j v 0 d

      pools' : (w' n : ℕ) → PoolWord w' → n < N → Dec (n ≡ p) → Dec (w' ≡ w)
          → at (put (pool_word A w p) v b) (pool_word A w' n) ≡ (pool_to w p v U).pool w' n
      pools' w' n k' u (yes e) (yes d) = rw (e, d, eq-eqb p p refl, eq-eqb w w refl) (get_or-set_same b (pool_word A w p) v 0 (omega (arith, K.words)))
      pools' w' n k' u (yes e) (no d) = rw (e, eq-eqb p p refl, ne_eqb w' w d) (other (pool_word A w' p) (omega arith) ∙ K.pools w' p k' l)
      pools' w' n k' u (no e) d = rw (ne_eqb n p e) (other (pool_word A w' n) (omega arith) ∙ K.pools w' n k' u)

  -- a word of an arena record
  pub put_arena : (w a v : ℕ) → ArenaWord w → a < A → Books A N (put (arena_word w a) v b) (arena_to w a v U)
  put_arena w a v k l =
      put_word_lem (arena_word w a) v (omega arith, (λ x m. omega arith), (λ n. omega arith)) _ _
      (λ w' n k' u. other (pool_word A w' n) (omega arith) ∙ K.pools w' n k' u) (λ w' x k' u. arenas' w' x k' u (ℕ_discrete x a) (ℕ_discrete w' w))
    where
      other : (j : ℕ) → j ≢ arena_word w a → at (put (arena_word w a) v b) j ≡ at b j
      other j d = get_or-set_other b (arena_word w a) j v 0 d

      arenas' : (w' x : ℕ) → ArenaWord w' → x < A → Dec (x ≡ a) → Dec (w' ≡ w)
          → at (put (arena_word w a) v b) (arena_word w' x) ≡ (arena_to w a v U).arena w' x
      arenas' w' x k' u (yes e) (yes d) = rw (e, d, eq-eqb a a refl, eq-eqb w w refl) (get_or-set_same b (arena_word w a) v 0 (omega (arith, K.words)))
      arenas' w' x k' u (yes e) (no d) =
          rw (e, eq-eqb a a refl, ne_eqb w' w d) (other (arena_word w' a) (arena_apart w' a w a k'.0 k.0 d) ∙ K.arenas w' a k' l)
      arenas' w' x k' u (no e) d = rw (ne_eqb x a e) (other (arena_word w' x) (records_apart w' x w a k'.0 k.0 e) ∙ K.arenas w' x k' u)

-- ---- a pool and its class list
module _ {A N : ℕ} {b : List ℕ} {U : View} (K : Books A N b U) (c p : ℕ) (lc : c < 64) (l : p < N) where
  -- the books after a write of class c's head, of links of its members and of p's links, where p's home becomes v
  module _ (b' : List ℕ) (v : ℕ) (len : length b' ≡ length b)
      (others : (i : ℕ) → ((n : ℕ) → (i ≢ pool_word A 2 n) × (i ≢ pool_word A 3 n)) → i ≢ class_head c → at b' i ≡ at b i)
      (strange : (y : ℕ) → y ≢ p → U.home y ≢ class_head c → LinksSame (pool_word A 2) (pool_word A 3) b b' y)
      (off : (a : ℕ) → a < A → (U.home p ≢ arena_word 3 a) × (v ≢ arena_word 3 a))
      (own : v ≡ 0 → (pool A b' 2 p ≡ 0) × (pool A b' 3 p ≡ 0)) where
    pool_moved : (xs : List ℕ) → ClassLists A N b' (to p v U.home) (to c xs U.listed)
        → Books A N b' (U ▷ home_to p v ▷ listed_to c xs)
    pool_moved xs F =
        record {
          words = len ∙ K.words;
          first = λ i u. others i (λ n. omega arith) (omega arith) ∙ K.first i u;
          spare = λ i u u'. others i (λ n. omega arith) (omega arith) ∙ K.spare i u u';
          pools = λ w n k u. others (pool_word A w n) (λ m. link_apart A w n m k) (omega arith) ∙ K.pools w n k u;
          arenas = λ w a k u. low w a k.0 u ∙ K.arenas w a k u;
          listed = F;
          freed = singly_stay
              (record {
                heads = λ a k. low 3 a (omega arith) k;
                links = λ a y k m e. strange y (λ q. (off a k).0 (ap U.home (sym q) ∙ e)) (λ q. absurd (omega arith));
              })
              (aside p v (λ a k. off a k)) K.freed;
          lists = doubly_stay (record { heads = λ i k. others i (λ n. omega arith) (omega arith); links = λ i a k m e. arena_links_lem a m })
              (alike (λ y m. refl)) K.lists;
          loose = λ y m e. loose' y m e (ℕ_discrete y p);
          spent = λ a m e. let t = K.spent a m e in ((arena_links_lem a m).0 ∙ t.0, (arena_links_lem a m).1 ∙ t.1);
        }
      where
        low : (w a : ℕ) → w < 8 → a < A → at b' (arena_word w a) ≡ at b (arena_word w a)
        low w a u m = others (arena_word w a) (λ n. omega arith) (omega arith)

        arena_links_lem : (a : ℕ) → a < A → LinksSame (arena_word 4) (arena_word 5) b b' a
        arena_links_lem a m = (low 4 a (omega arith) m, low 5 a (omega arith) m)

        loose' : (y : ℕ) → y < N → to p v U.home y ≡ 0 → Dec (y ≡ p) → (pool A b' 2 y ≡ 0) × (pool A b' 3 y ≡ 0)
        loose' y m e (yes q) = rw q (own (sym (to_same p v U.home y q) ∙ e))
        loose' y m e (no q) =
            let f : U.home y ≡ 0 = sym (to_other p v U.home y q) ∙ e in
            let s = strange y q (λ t. absurd (omega arith)) in
            let t = K.loose y m f in
            (s.0 ∙ t.0, s.1 ∙ t.1)

  classes_apart : Apart (pool_word A 2) (pool_word A 3) (λ c. c < 64) class_head N (length b)
  classes_apart = class_apart A N (length b) K.words

  -- "To leave a list": its links may be used, and what is said then
  pub pool_may_leave : U.home p ≡ class_head c → may_leave N (pool_links A) p b ≡ true
  pool_may_leave e =
      let n : next_at (pool_links A) p ≡ pool_word A 2 p = omega arith in
      let v : previous_at (pool_links A) p ≡ pool_word A 3 p = omega arith in
      let t = member_links K.listed c lc p l e in
      rw (v, n, le-leb (pool A b 2 p) N t.0, le-leb (pool A b 3 p) N t.1)

  pub pool_leaves_lem : U.home p ≡ class_head c
      → Books A N (leave (pool_links A) (class_head c) p b) (U ▷ home_to p 0 ▷ listed_to c (erase p (U.listed c)))
  pool_leaves_lem e =
      rw (leave_is (pool_word A 2) (pool_word A 3) (pool_links A) (λ y. omega arith) (λ y. omega arith) (class_head c) p b)
      (pool_moved (left (pool_word A 2) (pool_word A 3) (class_head c) p b) 0 (left_length (pool_word A 2) (pool_word A 3) (class_head c) p b)
      (λ i f d. left_other (pool_word A 2) (pool_word A 3) (class_head c) p i b (f p).0 (f p).1 d (λ y _. (f y).0) (λ y _. (f y).1))
      (leave_keeps K.listed c lc p l e classes_apart) (λ a k. omega arith) (λ _. left_own b (classes_apart.lay c lc) p l)
      (erase p (U.listed c)) (leaves K.listed c lc p l e classes_apart 0 (λ j k. omega arith)))

  -- "To join at the front": a pool that is on no list
  pub pool_joins_lem : U.home p < 2
      → Books A N (join (pool_links A) (class_head c) p b) (U ▷ home_to p (class_head c) ▷ listed_to c (p ∷ U.listed c))
  pool_joins_lem e =
      rw (join_is (pool_word A 2) (pool_word A 3) (pool_links A) (λ y. omega arith) (λ y. omega arith) (class_head c) p b)
      (pool_moved (joined (pool_word A 2) (pool_word A 3) (class_head c) 0 p b) (class_head c)
      (joined_length (pool_word A 2) (pool_word A 3) (class_head c) 0 p b)
      (λ i f d. joined_other (pool_word A 2) (pool_word A 3) (class_head c) 0 p i b (f p).0 (f p).1 d (λ y _. (f y).0) (λ y _. (f y).1))
      (join_keeps K.listed c lc p l (λ j k. omega arith) classes_apart 0 [] (U.listed c) refl refl)
      (λ a k. omega arith) (λ q. absurd (omega arith)) (p ∷ U.listed c)
      (joins K.listed c lc p l (λ j k. omega arith) classes_apart 0 [] (U.listed c) refl refl))

  -- "The pool goes alone on the class list": the same, where the list is empty
  pub pool_alone : U.home p < 2 → U.listed c ≡ []
      → Books A N (b ▷ put (class_head c) (link_to p) ▷ put (pool_word A pool_next p) 0
      ▷ put (pool_word A pool_previous p) 0)
      (U ▷ home_to p (class_head c) ▷ listed_to c (p ∷ []))
  unfolding joined_by
  pool_alone e none =
      rw (← none) (subst (λ (x : List ℕ). Books A N x (U ▷ home_to p (class_head c) ▷ listed_to c (p ∷ U.listed c))) alone (pool_joins_lem e))
    where
      empty : at b (class_head c) ≡ 0
      empty = rw none at (K.listed.row c lc).row.walk

      alone : join (pool_links A) (class_head c) p b
          ≡ (b ▷ put (class_head c) (link_to p) ▷ put (pool_word A pool_next p) 0 ▷ put (pool_word A pool_previous p) 0)
      alone =
          join_is (pool_word A 2) (pool_word A 3) (pool_links A) (λ y. omega arith) (λ y. omega arith) (class_head c) p b
          ∙ (let q : suc p ≡ p + 1 = omega arith in rw (empty, q)
          (sym (ap (λ (x : List ℕ). set x (pool_word A 3 p) 0) (set_comm b (class_head c) (pool_word A 2 p) (p + 1) 0 (omega arith))
          ∙ set_comm (set b (pool_word A 2 p) 0) (class_head c) (pool_word A 3 p) (p + 1) 0 (omega arith))))

-- ---- a pool and its arena's freed pools
module _ {A N : ℕ} {b : List ℕ} {U : View} (K : Books A N b U) (a : ℕ) (la : a < A) where
  -- the books after a write of the freed-pool head of arena a and of links of pools that are on no list
  module _ (b' : List ℕ) (home' : ℕ → ℕ) (xs : List ℕ) (len : length b' ≡ length b) (Free : ℕ → Type 0)
      (others : (i : ℕ) → i ≢ arena_word 3 a → ((n : ℕ) → Free n → (i ≢ pool_word A 2 n) × (i ≢ pool_word A 3 n))
      → at b' i ≡ at b i)
      (strange : (y : ℕ) → y < N → (Free y → ⊥) → LinksSame (pool_word A 2) (pool_word A 3) b b' y)
      (free : (y : ℕ) → Free y → (U.home y < 2) × (home' y ≢ 0))
      (homes : Alike (λ c. c < 64) class_head N U.home home')
      (still : (y : ℕ) → y < N → home' y ≡ 0 → U.home y ≡ 0) where
    freed_moved : FreedLists A N b' home' (to a xs U.freed)
        → Books A N b' (U ▷ homes_to home' ▷ freed_to a xs)
    freed_moved F =
        record {
          words = len ∙ K.words;
          first = λ i u. others i (omega arith) (λ n _. omega arith) ∙ K.first i u;
          spare = λ i u u'. others i (omega arith) (λ n _. omega arith) ∙ K.spare i u u';
          pools = λ w n k u. others (pool_word A w n) (omega arith) (λ m _. link_apart A w n m k) ∙ K.pools w n k u;
          arenas = λ w x k u. low w x k.0 k.1 u ∙ K.arenas w x k u;
          listed = doubly_stay
              (record {
                heads = λ c k. others (class_head c) (omega arith) (λ n _. omega arith);
                links = λ c y k m e. strange y m (λ f. absurd (omega (arith, (free y f).0)));
              })
              homes K.listed;
          freed = F;
          lists = doubly_stay (record { heads = λ i k. others i (omega arith) (λ n _. omega arith); links = λ i x k m e. arena_links_lem x m })
              (alike (λ y m. refl)) K.lists;
          loose = λ y m e. let s = strange y m (λ f. (free y f).1 e) in let t = K.loose y m (still y m e) in (s.0 ∙ t.0, s.1 ∙ t.1);
          spent = λ x m e. let t = K.spent x m e in ((arena_links_lem x m).0 ∙ t.0, (arena_links_lem x m).1 ∙ t.1);
        }
      where
        low : (w x : ℕ) → w < 8 → w ≢ 3 → x < A → at b' (arena_word w x) ≡ at b (arena_word w x)
        low w x u d m = others (arena_word w x) (arena_apart w x 3 a u (omega arith) d) (λ n _. omega arith)

        arena_links_lem : (x : ℕ) → x < A → LinksSame (arena_word 4) (arena_word 5) b b' x
        arena_links_lem x m = (low 4 x (omega arith) (omega arith) m, low 5 x (omega arith) (omega arith) m)

  module _ (p : ℕ) (l : p < N) where
    -- a home that is put to v, not 0, takes none to 0
    home_still : (v y : ℕ) → v ≢ 0 → to p v U.home y ≡ 0 → Dec (y ≡ p) → U.home y ≡ 0
    home_still v y d z (yes q) = absurd (d (sym (to_same p v U.home y q) ∙ z))
    home_still v y d z (no q) = sym (to_other p v U.home y q) ∙ z

    -- ".. goes to the front of its arena's freed pools, linked by next alone (own previous 0, ..)": a pool that is on
    -- no list
    pub freed_comes : U.home p < 2
        → Books A N (b ▷ put (pool_word A pool_next p) (at b (arena_word freed_head a))
        ▷ put (pool_word A pool_previous p) 0
        ▷ put (arena_word freed_head a) (link_to p))
        (U ▷ home_to p (arena_word freed_head a) ▷ freed_to a (p ∷ U.freed a))
    freed_comes e =
        freed_moved b' (to p (arena_word 3 a) U.home) (p ∷ U.freed a) (simp length-set) (λ y. y ≡ p)
        (λ i d f. let g = f p refl in simp (get_or-set_other, d, g.0, g.1))
        (λ y m d. kept y d)
        (λ y q. rw q (e, rw (to_same p (arena_word 3 a) U.home p refl) (λ z. absurd (omega arith))))
        (aside p (arena_word 3 a) (λ c k. omega arith))
        (λ y m z. home_still (arena_word 3 a) y (omega arith) z (ℕ_discrete y p))
        (comes K.freed (Singly (pool_word A 2) (pool_word A 3) b') a p la l (λ j d. to_other a (p ∷ U.freed a) U.freed j d) new old
        (λ j k q. omega arith) (λ j k. omega arith) [] (U.freed a) refl (to_same a (p ∷ U.freed a) U.freed a refl))
      where
        b' : List ℕ
        b' = b ▷ put (pool_word A 2 p) (at b (arena_word 3 a)) ▷ put (pool_word A 3 p) 0 ▷ put (arena_word 3 a) (link_to p)

        inb : (i : ℕ) → i < 72 + 8 * A + 8 * N → i < length b
        inb i u = rw K.words u

        kept : (y : ℕ) → y ≢ p → LinksSame (pool_word A 2) (pool_word A 3) b b' y
        kept y d =
            let g : (pool_word A 2 y ≢ arena_word 3 a) × (pool_word A 2 y ≢ pool_word A 3 p) × (pool_word A 2 y ≢ pool_word A 2 p) = omega arith in
            let h : (pool_word A 3 y ≢ arena_word 3 a) × (pool_word A 3 y ≢ pool_word A 3 p) × (pool_word A 3 y ≢ pool_word A 2 p) = omega arith in
            (simp (get_or-set_other, g.0, g.1, g.2), simp (get_or-set_other, h.0, h.1, h.2))

        off : (xs : List ℕ) → Not p xs → All (LinksSame (pool_word A 2) (pool_word A 3) b b') xs
        off = all_map {R = LinksSame (pool_word A 2) (pool_word A 3) b b'} (λ y (d : p ≢ y). kept y (flip d))

        here : Not p (U.freed a)
        here = stranger K.freed a p la (omega arith)

        own_next : at b' (pool_word A 2 p) ≡ at b (arena_word 3 a)
        own_next =
            let g : (pool_word A 2 p ≢ arena_word 3 a) × (pool_word A 2 p ≢ pool_word A 3 p) = omega arith in
            simp (get_or-set_other, g.0, g.1) (get_or-set_same b (pool_word A 2 p) _ 0 (inb _ (omega arith)))

        own_previous : at b' (pool_word A 3 p) ≡ 0
        own_previous =
            let g : pool_word A 3 p ≢ arena_word 3 a = omega arith in
            let u : pool_word A 3 p < length b = inb _ (omega arith) in
            search (get_or-set_other, get_or-set_same, lt-length-set, g, u)

        head_is : at b' (arena_word 3 a) ≡ suc p
        head_is =
            let q : link_to p ≡ suc p = omega arith in
            let u : arena_word 3 a < length b = inb _ (omega arith) in
            get_or-set_same (b ▷ put (pool_word A 2 p) (at b (arena_word 3 a))
            ▷ put (pool_word A 3 p) 0) (arena_word 3 a) (link_to p) 0 (search (lt-length-set, u))
            ∙ q

        new : Singly (pool_word A 2) (pool_word A 3) b' (arena_word 3 a) (to a (p ∷ U.freed a) U.freed a)
        new = rw (to_same a (p ∷ U.freed a) U.freed a refl) (singly_comes (off (U.freed a) here) head_is own_next own_previous here (K.freed.row a la))

        old : (j : ℕ) → j < A → j ≢ a → Singly (pool_word A 2) (pool_word A 3) b' (arena_word 3 j) (U.freed j)
        old j k d =
            singly_same (off (U.freed j) (stranger K.freed j p k (omega arith)))
            (let g : (arena_word 3 j ≢ arena_word 3 a) × (arena_word 3 j ≢ pool_word A 3 p) × (arena_word 3 j ≢ pool_word A 2 p) = omega arith in
            simp (get_or-set_other, g.0, g.1, g.2))
            (K.freed.row j k)

  -- a write of the freed-pool head alone touches no pool's links
  head_other : (v i : ℕ) → i ≢ arena_word 3 a → at (put (arena_word 3 a) v b) i ≡ at b i
  head_other v i d = get_or-set_other b (arena_word 3 a) i v 0 d

  links_stand : (v y : ℕ) → LinksSame (pool_word A 2) (pool_word A 3) b (put (arena_word 3 a) v b) y
  links_stand v y = (head_other v (pool_word A 2 y) (omega arith), head_other v (pool_word A 3 y) (omega arith))

  rows_stand : (v : ℕ) (xs : List ℕ) → All (LinksSame (pool_word A 2) (pool_word A 3) b (put (arena_word 3 a) v b)) xs
  rows_stand v = all_every {Q = LinksSame (pool_word A 2) (pool_word A 3) b (put (arena_word 3 a) v b)} (links_stand v)

  freed_others : (v j : ℕ) → j < A → j ≢ a
      → Singly (pool_word A 2) (pool_word A 3) (put (arena_word 3 a) v b) (arena_word 3 j) (U.freed j)
  freed_others v j k d = singly_same (rows_stand v (U.freed j)) (head_other v (arena_word 3 j) (omega arith)) (K.freed.row j k)

  -- "take the freed-pool head .. (its next becomes the head)"
  pub freed_goes : (p : ℕ) → p < N → (ps : List ℕ) → U.freed a ≡ p ∷ ps
      → Books A N (put (arena_word freed_head a) (pool A b pool_next p) b) (U ▷ home_to p 1 ▷ freed_to a ps)
  freed_goes p l ps r =
      freed_moved b' (to p 1 U.home) ps (length-set b (arena_word 3 a) _) (λ y. ⊥)
      (λ i d f. head_other (pool A b 2 p) i d)
      (λ y m d. links_stand (pool A b 2 p) y)
      (λ y q. absurd q)
      (aside p 1 (λ c k. omega (arith, home_p)))
      (λ y m z. home_still p l 1 y (omega arith) z (ℕ_discrete y p))
      (goes K.freed (Singly (pool_word A 2) (pool_word A 3) b') a p la l (λ j d. to_other a ps U.freed j d) new (freed_others (pool A b 2 p))
      1 (K.freed.row a la).once home_p (λ j k. omega arith) (λ j k q. omega arith)
      (to_same a ps U.freed a refl ∙ sym (erase_front p ps (rw r at (K.freed.row a la).once)) ∙ ap (erase p) (sym r)))
    where
      b' : List ℕ
      b' = put (arena_word 3 a) (pool A b 2 p) b

      home_p : U.home p ≡ arena_word 3 a
      home_p = (rw r at (K.freed.members a la)).0.is

      new : Singly (pool_word A 2) (pool_word A 3) b' (arena_word 3 a) (to a ps U.freed a)
      new =
          rw (to_same a ps U.freed a refl)
          (singly_goes (rows_stand (pool A b 2 p) ps)
          (get_or-set_same b (arena_word 3 a) (pool A b 2 p) 0 (omega (arith, K.words))) (rw r at (K.freed.row a la)))

  -- "its record becomes 0": the freed pools are on no list
  pub freed_cleared : Books A N (put (arena_word freed_head a) 0 b) (U ▷ freed_none a)
  freed_cleared =
      freed_moved (put (arena_word 3 a) 0 b) home' [] (length-set b (arena_word 3 a) 0) (λ y. ⊥)
      (λ i d f. head_other 0 i d)
      (λ y m d. links_stand 0 y)
      (λ y q. absurd q)
      (record {
        keep = λ c y k m e. kept y (λ q. absurd (omega arith)) ∙ e;
        back = λ c y k m e. (back' y (class_head c) (λ q. absurd (omega arith)) e (ℕ_discrete (U.home y) (arena_word 3 a))).0;
      })
      (λ y m z. (back' y 0 (λ q. absurd (omega arith)) z (ℕ_discrete (U.home y) (arena_word 3 a))).0)
      (record {
        row = λ j k. row' j k (ℕ_discrete j a);
        members = λ j k. members' j k (ℕ_discrete j a);
        all = λ j k y m e. all' j k y m e (ℕ_discrete j a);
      })
    where
      home' : ℕ → ℕ
      home' = (freed_none a U).home

      kept : (y : ℕ) → U.home y ≢ arena_word 3 a → home' y ≡ U.home y
      kept y d = rw (ne_eqb (U.home y) (arena_word 3 a) d)

      -- a home that is not 1 was the same before, and not among the freed pools
      back' : (y h : ℕ) → h ≢ 1 → home' y ≡ h → Dec (U.home y ≡ arena_word 3 a)
          → (U.home y ≡ h) × (U.home y ≢ arena_word 3 a)
      back' y h d e (yes q) = absurd (d (sym e ∙ rw (eq-eqb (U.home y) (arena_word 3 a) q)))
      back' y h d e (no q) = (sym (kept y q) ∙ e, q)

      row' : (j : ℕ) → j < A → Dec (j ≡ a)
          → Singly (pool_word A 2) (pool_word A 3) (put (arena_word 3 a) 0 b) (arena_word 3 j) (to a [] U.freed j)
      row' j k (yes q) =
          rw (q, to_same a [] U.freed a refl) (record { walk = get_or-set_same b (arena_word 3 a) 0 0 (omega (arith, K.words)); once = tt; behind = tt })
      row' j k (no q) = rw (to_other a [] U.freed j q) (freed_others 0 j k q)

      members' : (j : ℕ) → j < A → Dec (j ≡ a) → All (At N home' (arena_word 3 j)) (to a [] U.freed j)
      members' j k (yes q) = rw (q, to_same a [] U.freed a refl) tt
      members' j k (no q) =
          rw (to_other a [] U.freed j q)
          (all_map {R = At N home' (arena_word 3 j)}
          (λ y (t : At N U.home (arena_word 3 j) y). record { low = t.low; is = kept y (λ e. q (omega (arith, t.is))) ∙ t.is })
          (U.freed j) (K.freed.members j k))

      all' : (j : ℕ) → j < A → (y : ℕ) → y < N → home' y ≡ arena_word 3 j → Dec (j ≡ a) → In y (to a [] U.freed j)
      all' j k y m e (yes q) =
          let t = back' y (arena_word 3 j) (omega arith) e (ℕ_discrete (U.home y) (arena_word 3 a)) in absurd (t.1 (t.0 ∙ ap (arena_word 3) q))
      all' j k y m e (no q) =
          rw (to_other a [] U.freed j q) (K.freed.all j k y m (back' y (arena_word 3 j) (omega arith) e (ℕ_discrete (U.home y) (arena_word 3 a))).0)

-- ---- an arena and its list, by the head h
module _ {A N : ℕ} {b : List ℕ} {U : View} (K : Books A N b U) (h a : ℕ) (hh : ArenaHead h) (la : a < A) where
  -- the books after a write of the head, of links of the arenas of its list and of a's links, where a's home becomes v
  module _ (b' : List ℕ) (v : ℕ) (xs : List ℕ) (len : length b' ≡ length b)
      (others : (i : ℕ) → ((x : ℕ) → (i ≢ arena_word 4 x) × (i ≢ arena_word 5 x)) → i ≢ h → at b' i ≡ at b i)
      (pools : (w n : ℕ) → w < 8 → at b' (pool_word A w n) ≡ at b (pool_word A w n))
      (strange : (x : ℕ) → x ≢ a → U.base x ≢ h → LinksSame (arena_word 4) (arena_word 5) b b' x)
      (own : v ≡ 0 → (arena b' 4 a ≡ 0) × (arena b' 5 a ≡ 0)) where
    arena_moved : ArenaLists A b' (to a v U.base) (to h xs U.arenas)
        → Books A N b' (U ▷ base_to a v ▷ arenas_to h xs)
    arena_moved F =
        record {
          words = len ∙ K.words;
          first = λ i u. others i (λ x. omega arith) (omega arith) ∙ K.first i u;
          spare = λ i u u'. others i (λ x. omega arith) (omega arith) ∙ K.spare i u u';
          pools = λ w n k u. pools w n k.0 ∙ K.pools w n k u;
          arenas = λ w x k u.
              others (arena_word w x) (λ y. (arena_apart w x 4 y k.0 (omega arith) k.2, arena_apart w x 5 y k.0 (omega arith) k.3)) (omega arith)
              ∙ K.arenas w x k u;
          listed = doubly_stay (record { heads = λ c k. others (class_head c) (λ x. omega arith) (omega arith); links = λ c y k m e. links y })
              (alike (λ y m. refl)) K.listed;
          freed = singly_stay (record { heads = λ x k. others (arena_word 3 x) (λ y. omega arith) (omega arith); links = λ x y k m e. links y })
              (alike (λ y m. refl)) K.freed;
          lists = F;
          loose = λ y m e. let t = K.loose y m e in ((links y).0 ∙ t.0, (links y).1 ∙ t.1);
          spent = λ x m e. spent' x m e (ℕ_discrete x a);
        }
      where
        links : (y : ℕ) → LinksSame (pool_word A 2) (pool_word A 3) b b' y
        links y = (pools 2 y (omega arith), pools 3 y (omega arith))

        spent' : (x : ℕ) → x < A → to a v U.base x ≡ 0 → Dec (x ≡ a) → (arena b' 4 x ≡ 0) × (arena b' 5 x ≡ 0)
        spent' x m e (yes q) = rw q (own (sym (to_same a v U.base x q) ∙ e))
        spent' x m e (no q) =
            let f : U.base x ≡ 0 = sym (to_other a v U.base x q) ∙ e in
            let s = strange x q (λ t. absurd (omega arith)) in
            let t = K.spent x m f in
            (s.0 ∙ t.0, s.1 ∙ t.1)

  heads_apart : Apart (arena_word 4) (arena_word 5) ArenaHead (λ i. i) A (length b)
  heads_apart = head_apart A N (length b) K.words

  -- "To leave a list"
  pub arena_may_leave : U.base a ≡ h → may_leave A arena_links a b ≡ true
  arena_may_leave e =
      let n : next_at arena_links a ≡ arena_word 4 a = omega arith in
      let v : previous_at arena_links a ≡ arena_word 5 a = omega arith in
      let t = member_links K.lists h hh a la e in
      rw (v, n, le-leb (arena b 4 a) A t.0, le-leb (arena b 5 a) A t.1)

  pub arena_leaves_lem : U.base a ≡ h
      → Books A N (leave arena_links h a b) (U ▷ base_to a 0 ▷ arenas_to h (erase a (U.arenas h)))
  arena_leaves_lem e =
      let links = member_links K.lists h hh a la e in
      rw (leave_is (arena_word 4) (arena_word 5) arena_links (λ y. omega arith) (λ y. omega arith) h a b)
      (arena_moved (left (arena_word 4) (arena_word 5) h a b) 0 (erase a (U.arenas h)) (left_length (arena_word 4) (arena_word 5) h a b)
      (λ i f d. left_other (arena_word 4) (arena_word 5) h a i b (f a).0 (f a).1 d (λ y _. (f y).0) (λ y _. (f y).1))
      (λ w n u. left_other (arena_word 4) (arena_word 5) h a (pool_word A w n) b (omega arith)
      (omega arith) (omega arith) (λ y f. omega (arith, links.1)) (λ y f. omega (arith, links.0)))
      (leave_keeps K.lists h hh a la e heads_apart) (λ _. left_own b (heads_apart.lay h hh) a la)
      (leaves K.lists h hh a la e heads_apart 0 (λ j k. omega arith)))

  -- an arena that is on no list joins at the gap behind pre, where p is the link to the last: 01's and 02's joining
  arena_joins_at : (p : ℕ) (pre post : List ℕ) → U.arenas h ≡ pre ++ post → p ≡ last_link 0 pre → p ≤ A
      → standing (arena_word 4) h p b ≤ A → U.base a ≡ 0
      → Books A N (joined (arena_word 4) (arena_word 5) h p a b) (U ▷ base_to a h ▷ arenas_to h (pre ++ a ∷ post))
  arena_joins_at p pre post s q m n e =
      arena_moved (joined (arena_word 4) (arena_word 5) h p a b) h (pre ++ a ∷ post) (joined_length (arena_word 4) (arena_word 5) h p a b)
      (λ i f d. joined_other (arena_word 4) (arena_word 5) h p a i b (f a).0 (f a).1 d (λ y _. (f y).0) (λ y _. (f y).1))
      (λ w x u. joined_other (arena_word 4) (arena_word 5) h p a (pool_word A w x) b (omega arith)
      (omega arith) (omega arith) (λ y f. omega arith) (λ y f. omega arith))
      (join_keeps K.lists h hh a la (λ j k. omega arith) heads_apart p pre post s q) (λ z. absurd (omega arith))
      (joins K.lists h hh a la (λ j k. omega arith) heads_apart p pre post s q)

  -- "To join at the front": an arena that is on no list
  pub arena_joins_lem : U.base a ≡ 0 → Books A N (join arena_links h a b) (U ▷ base_to a h
      ▷ arenas_to h (a ∷ U.arenas h))
  arena_joins_lem e =
      rw (join_is (arena_word 4) (arena_word 5) arena_links (λ y. omega arith) (λ y. omega arith) h a b)
      (arena_joins_at 0 [] (U.arenas h) refl refl (omega arith) (head_link K.lists h hh) e)

  -- 02, W-203: ".. goes in after the last passed": an arena that is on no list goes in after q, which is on this one
  pub arena_goes_in : (q : ℕ) → q < A → U.base q ≡ h → U.base a ≡ 0
      → Books A N (go_in_after arena_links q a b) (U ▷ base_to a h ▷ arenas_to h (after q a (U.arenas h)))
  arena_goes_in q lq eq e =
      rw (go_in_is (arena_word 4) (arena_word 5) arena_links (λ y. omega arith) (λ y. omega arith) h a b q, ← is)
      (arena_joins_at (suc q) (s.pre ++ q ∷ []) s.post (s.is ∙ sym (append_assoc s.pre (q ∷ []) s.post))
      (sym (last_link_lem q 0 s.pre)) (omega arith) (member_links K.lists h hh q lq eq).0 e)
    where
      s : Split q (U.arenas h)
      s = split q (U.arenas h) (K.lists.all h hh q lq eq)

      is : (s.pre ++ q ∷ []) ++ a ∷ s.post ≡ after q a (U.arenas h)
      is =
          append_assoc s.pre (q ∷ []) (a ∷ s.post)
          ∙ sym (ap (after q a) s.is ∙ after_is q a s.pre s.post (rw s.is at (K.lists.row h hh).row.once))

-- a word that is put as it stands
pub put_zero : (b : List ℕ) (i : ℕ) → at b i ≡ 0 → put i 0 b ≡ b
put_zero b i e = ap (λ (x : ℕ). put i x b) (sym e) ∙ set-get_or b i 0
