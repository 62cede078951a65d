-- W-212, over any two heaps at all: what the list of compare says, by 01's live test and by what view shows.
-- Assumes nothing.
use Rattle.std.specs.Prelude.{◌≡◌, ◌≢◌, ◌↔◌, ◌⊎◌, Bool, ◌&&◌, ℕ, zero, suc, ◌+◌, ◌*◌, ◌≤◌, ◌<◌, eqb, ℤ, pos, neg_ℤ, drop, cond, if◌then◌else◌}
use Rattle.std.proofs.Math.Path.{refl, ap, subst}
use Rattle.std.proofs.Common.{sym, ap₂, ◌∙◌, inl, arith, ext_get_or}
use Rattle.std.proofs.Math.Logic.{inr}
use Rattle.std.proofs.Math.Bool.{true, false, not, true≢false}
use mathlib.Core.List.{List, [], ◌∷◌, ◌++◌, map}
use Rattle.std.proofs.Math.Decide.{ℕ_discrete}
use Rattle.std.proofs.Math.ListN.{length}
use Rattle.std.proofs.Math.Seq.{get_or-take, get_or-drop}
use borrow.Author.Tests.{eq-eqb, ne_eqb, eqb-true, eqb-false, not-false}
use Rattle.rules.specs.Say.{all_below, listing}
use Rattle.rules.specs.Books.{Heap, at, memory_length, arenas, pools, edition, alignment_of, alignment}
use Rattle.rules.specs.Blocks.{last_class, class_at}
use Rattle.rules.specs.View.{part}
use Rattle.rules.specs.Numbers.{shape_number, block_size, view, roll_of}
use Rattle.rules.specs.Compare.{
  is_live,
  same_bytes,
  change_at,
  kind_at,
  differences,
  live_of_class,
  change_of,
  classes,
  changes_from,
  changes,
  unequal_number,
}
use Rattle.books.specs.Known.{shaped, live_is}
use Rattle.books.specs.Tests.{both, either}
use Rattle.books.specs.Sizes.{Aligned, aligned, size_low}
use Rattle.sequences.specs.Update.{is_false}
use Rattle.sequences.specs.Counting.{none_many, every_is, is_every}
use Rattle.sequences.specs.Listing.{
  held_below,
  listing_same,
  listing_none,
  listing_count,
  listing_place,
  listing_entry,
  listing_only,
}
use Rattle.sound.specs.Grounds.{zero_shape}
use Rattle.sound.specs.Bytes.{part_long}
use Rattle.laws.specs.Holding.{holding}
use Rattle.laws.specs.Calls.{view_holds}
use Rattle.laws.specs.Roll.{size_held, roll_is}
use Rattle.laws.specs.Changes.{change_turned, change_means}

-- two heaps that compare refuses with none of 1, 2 and 12
abbrev pub Alike : Heap → Heap → Type 0
Alike first second = (shape_number first ≡ 0) × (shape_number second ≡ 0) × (unequal_number first second ≡ 0)

-- where it does not refuse with 12, A, P and edition are equal
pub equal_shape : (first second : Heap) → unequal_number first second ≡ 0
    → (arenas first ≡ arenas second) × (pools first ≡ pools second) × (edition first ≡ edition second)
unfolding unequal_number
equal_shape first second =
    let a = eqb (arenas first) (arenas second) in
    let p = eqb (pools first) (pools second) in
    let e = eqb (edition first) (edition second) in
    either (λ (k : ℕ). k ≡ 0 → (arenas first ≡ arenas second) × (pools first ≡ pools second) × (edition first ≡ edition second)) (a && p && e) 0 12
    (λ q _. let t = both (a && p) e q in let u = both a p t.0 in
    (eqb-true (arenas first) (arenas second) u.0, eqb-true (pools first) (pools second) u.1, eqb-true (edition first) (edition second) t.1))
    (λ _ z. absurd (omega arith))

-- ---- one heap, and what view shows of it
-- a live offset lies in memory
live_inside : (h : Heap) (o : ℕ) → is_live h o ≡ true → o < memory_length (arenas h) (pools h)
live_inside h o on = (live_is (aligned (edition h)) (arenas h) (pools h) h.books h.map o on).inside

module _ (h : Heap) (z : shape_number h ≡ 0) (o : ℕ) where
  -- what view shows of a live block: its bytes, as many as its size says, eight at least
  record Shown : Type 0 where
    long : length (view h o) ≡ block_size h o
    low : 8 ≤ block_size h o
    byte : (i : ℕ) → i < block_size h o → at (view h o) i ≡ at h.memory (o + i)

  shown : is_live h o ≡ true → Shown
  unfolding holding
  shown on =
      let t = live_is (aligned (edition h)) (arenas h) (pools h) h.books h.map o on in
      let S = zero_shape h z in
      let m = (shaped h (arenas h) (pools h) S.range S.lengths).memory in
      let s = block_size h o in
      let v : view h o ≡ part o s h.memory = view_holds h z o ∙ rw on in
      record {
        long = ap length v ∙ part_long h.memory o s (omega (arith, t.ends, m));
        low = size_low (aligned (edition h)) (class_at (arenas h) h.books o) t.class;
        byte = λ i l. ap (λ (x : List ℕ). at x i) v ∙ get_or-take s (drop o h.memory) i 0 l ∙ get_or-drop o h.memory i 0;
      }

  -- it shows something exactly where the offset is live
  live_some : is_live h o ≡ true → view h o ≢ []
  live_some on q = absurd (omega (arith, (shown on).long, (shown on).low, ap length q))

  dead_none : is_live h o ≡ false → view h o ≡ []
  unfolding holding
  dead_none off = view_holds h z o ∙ rw off

  some_live : view h o ≢ [] → is_live h o ≡ true
  some_live some = go (is_live h o) refl
    where
      go : (t : Bool) → is_live h o ≡ t → is_live h o ≡ true
      go true e = e
      go false e = absurd (some (dead_none e))

  none_dead : view h o ≡ [] → is_live h o ≡ false
  none_dead none = is_false (is_live h o) (λ on. live_some on none)

-- ---- two heaps
module _ (first second : Heap) where
  -- an offset that differs lies in the memory of both
  pub differ_inside : unequal_number first second ≡ 0 → (o : ℕ) → kind_at first second o ≢ 0
      → o < memory_length (arenas first) (pools first)
  unfolding kind_at
  differ_inside equal o some = go (is_live first o) (is_live second o) refl refl
    where
      go : (t u : Bool) → is_live first o ≡ t → is_live second o ≡ u → o < memory_length (arenas first) (pools first)
      go true u e f = live_inside first o e
      go false true e f = let q = equal_shape first second equal in rw (q.0, q.1) (live_inside second o f)
      go false false e f = absurd (some (rw (e, f)))

  -- each offset that differs is listed once, in its place, with its kind: after those that differ below it
  pub difference_listed : unequal_number first second ≡ 0 → (o : ℕ) → kind_at first second o ≢ 0
      → let place = 2 * held_below (kind_at first second) o in
      (at (differences first second) place ≡ o) × (at (differences first second) (place + 1) ≡ kind_at first second o)
  difference_listed equal o some =
      listing_place (kind_at first second) o (memory_length (arenas first) (pools first)) (differ_inside equal o some) some

  -- the list has two words for each
  pub differences_long : length (differences first second)
      ≡ 2 * held_below (kind_at first second) (memory_length (arenas first) (pools first))
  differences_long = listing_count (kind_at first second) (memory_length (arenas first) (pools first))

  -- entry i is of the offset o exactly if o differs, and i offsets below it do: each is listed once, they rise, and
  -- nothing else is listed
  pub listed_means : unequal_number first second ≡ 0 → (o i : ℕ)
      → ((2 * i < length (differences first second)) × (at (differences first second) (2 * i) ≡ o)
      ↔ (kind_at first second o ≢ 0) × (held_below (kind_at first second) o ≡ i))
  listed_means equal o i =
      let t = listing_entry (kind_at first second) (memory_length (arenas first) (pools first)) o i in (
        λ x. let y = t.0 (omega (arith, x.0, differences_long), x.1) in (y.1, y.2),
        λ x. let y = t.1 (differ_inside equal o x.0, x.0, x.1) in (omega (arith, y.0, differences_long), y.1),
      )

  -- the offset o is live in neither, or in both, of one size, and view shows the same
  abbrev Same : ℕ → Type 0
  Same o =
      ((is_live first o ≡ false) × (is_live second o ≡ false))
      ⊎ ((is_live first o ≡ true) × (is_live second o ≡ true)
      × (block_size first o ≡ block_size second o) × (view first o ≡ view second o))

  module _ (z : shape_number first ≡ 0) (w : shape_number second ≡ 0) (o : ℕ) where
    -- of two live blocks of one size, the test of the bytes passes exactly if view shows the same
    module _ (on : is_live first o ≡ true) (also : is_live second o ≡ true)
        (size : block_size first o ≡ block_size second o) where
      same_shown : same_bytes first.memory second.memory o (block_size first o) ≡ true
          → view first o ≡ view second o
      same_shown e =
          let S = shown first z o on in
          let U = shown second w o also in
          ext_get_or 0 (view first o) (view second o) (S.long ∙ size ∙ sym U.long)
          (λ i l. let u : i < block_size first o = rw S.long at l in
          S.byte i u ∙ eqb-true _ _ (every_is _ (block_size first o) e i u) ∙ sym (U.byte i (rw size at u)))

      shown_same : view first o ≡ view second o
          → same_bytes first.memory second.memory o (block_size first o) ≡ true
      shown_same e =
          let S = shown first z o on in
          let U = shown second w o also in
          is_every _ (block_size first o)
          (λ i u. eq-eqb _ _ (sym (S.byte i u) ∙ ap (λ (x : List ℕ). at x i) e ∙ U.byte i (rw size at u)))

    -- what each kind says, by its number
    abbrev Said : ℕ → Type 0
    Said k =
        cond (eqb k 1) ((is_live first o ≡ true) × (is_live second o ≡ false))
        (cond (eqb k 2) ((is_live first o ≡ false) × (is_live second o ≡ true))
        (cond (eqb k 3) ((is_live first o ≡ true) × (is_live second o ≡ true)
        × (block_size first o ≢ block_size second o))
        (cond (eqb k 4) ((is_live first o ≡ true) × (is_live second o ≡ true)
        × (block_size first o ≡ block_size second o) × (view first o ≢ view second o))
        (Same o))))

    -- and that is so of an offset's kind
    said : Said (kind_at first second o)
    unfolding kind_at
    said = go (is_live first o) (is_live second o) refl refl
      where
        same : is_live first o ≡ true → is_live second o ≡ true → block_size first o ≡ block_size second o
            → (t : Bool) → same_bytes first.memory second.memory o (block_size first o) ≡ t
            → Said (if not t then 4 else 0)
        same on also size true e = inr (on, also, size, same_shown on also size e)
        same on also size false e = (on, also, size, λ q. true≢false (sym (shown_same on also size q) ∙ e))

        sized : is_live first o ≡ true → is_live second o ≡ true
            → (t : Bool) → eqb (block_size first o) (block_size second o) ≡ t
            → Said (if not t then 3
            else if not (same_bytes first.memory second.memory o (block_size first o)) then 4
            else 0)
        sized on also true e = same on also (eqb-true (block_size first o) (block_size second o) e) _ refl
        sized on also false e = (on, also, eqb-false (block_size first o) (block_size second o) e)

        go : (t u : Bool) → is_live first o ≡ t → is_live second o ≡ u
            → Said (if t then (if u then change_at first second o else 1) else (if u then 2 else 0))
        go true true e f = sized e f (eqb (block_size first o) (block_size second o)) refl
        go true false e f = (e, f)
        go false true e f = (e, f)
        go false false e f = inl (e, f)

  -- what the kind of an offset says: 1, it is live in the first alone; 2, in the second alone; 3, it is live in both,
  -- with other sizes; 4, it is live in both, of one size, and view shows other bytes; 0, none of these
  pub kind_means : shape_number first ≡ 0 → shape_number second ≡ 0 → (o : ℕ)
      → (kind_at first second o ≡ 1 ↔ (is_live first o ≡ true) × (is_live second o ≡ false))
      × (kind_at first second o ≡ 2 ↔ (is_live first o ≡ false) × (is_live second o ≡ true))
      × (kind_at first second o ≡ 3 ↔ (is_live first o ≡ true) × (is_live second o ≡ true)
      × (block_size first o ≢ block_size second o))
      × (kind_at first second o ≡ 4 ↔ (is_live first o ≡ true) × (is_live second o ≡ true)
      × (block_size first o ≡ block_size second o) × (view first o ≢ view second o))
      × (kind_at first second o ≡ 0 ↔ ((is_live first o ≡ false) × (is_live second o ≡ false))
      ⊎ ((is_live first o ≡ true) × (is_live second o ≡ true)
      × (block_size first o ≡ block_size second o) × (view first o ≡ view second o)))
  unfolding kind_at
  kind_means z w o = (
    (λ e. subst (Said z w o) e (said z w o), λ t. rw (t.0, t.1)),
    (λ e. subst (Said z w o) e (said z w o), λ t. rw (t.0, t.1)),
    (λ e. subst (Said z w o) e (said z w o), λ t. rw (t.0, t.1, ne_eqb (block_size first o) (block_size second o) t.2)),
    (
      λ e. subst (Said z w o) e (said z w o),
      λ t. rw (
        t.0,
        t.1,
        eq-eqb (block_size first o) (block_size second o) t.2,
        is_false (same_bytes first.memory second.memory o (block_size first o)) (λ q. t.3 (same_shown z w o t.0 t.1 t.2 q)),
      ),
    ),
    (λ e. subst (Said z w o) e (said z w o), none),
  )
    where
      none : Same o → kind_at first second o ≡ 0
      none (inl t) = rw (t.0, t.1)
      none (inr t) = rw (t.0, t.1, eq-eqb (block_size first o) (block_size second o) t.2, shown_same z w o t.0 t.1 t.2 t.3)

  -- so an offset is listed exactly if view shows something else there in the one than in the other, be it that it shows
  -- nothing
  pub differ_means : shape_number first ≡ 0 → shape_number second ≡ 0 → (o : ℕ)
      → (kind_at first second o ≡ 0 ↔ view first o ≡ view second o)
  differ_means z w o = (λ e. same ((kind_means z w o).4.0 e), λ e. (kind_means z w o).4.1 (go (is_live first o) (is_live second o) refl refl e))
    where
      same : Same o → view first o ≡ view second o
      same (inl t) = dead_none first z o t.0 ∙ sym (dead_none second w o t.1)
      same (inr t) = t.3

      go : (t u : Bool) → is_live first o ≡ t → is_live second o ≡ u → view first o ≡ view second o → Same o
      go true true e f q = inr (e, f, sym (shown first z o e).long ∙ ap length q ∙ (shown second w o f).long, q)
      go true false e f q = absurd (live_some first z o e (q ∙ dead_none second w o f))
      go false true e f q = absurd (live_some second w o f (sym q ∙ dead_none first z o e))
      go false false e f q = inl (e, f)

-- ---- kinds by what is held
-- what the kind k says of the bytes that are held at an offset in two heaps, f in the first and s in the second, where
-- [] is that nothing is held
abbrev pub Told : ℕ → List ℕ → List ℕ → Type 0
Told k f s =
    (k ≡ 1 ↔ (f ≢ []) × (s ≡ []))
    × (k ≡ 2 ↔ (f ≡ []) × (s ≢ []))
    × (k ≡ 3 ↔ (f ≢ []) × (s ≢ []) × (length f ≢ length s))
    × (k ≡ 4 ↔ (f ≢ []) × (s ≢ []) × (length f ≡ length s) × (f ≢ s))
    × (k ≡ 0 ↔ f ≡ s)

-- by what view shows, that is what it says
pub kind_told : (first second : Heap) → shape_number first ≡ 0 → shape_number second ≡ 0 → (o : ℕ)
    → Told (kind_at first second o) (view first o) (view second o)
kind_told first second z w o =
    let m = kind_means first second z w o in
    let f = live_some first z o in
    let s = live_some second w o in
    let f' = some_live first z o in
    let s' = some_live second w o in (
      (λ e. let t = m.0.0 e in (f t.0, dead_none second w o t.1), λ t. m.0.1 (f' t.0, none_dead second w o t.1)),
      (λ e. let t = m.1.0 e in (dead_none first z o t.0, s t.1), λ t. m.1.1 (none_dead first z o t.0, s' t.1)),
      (
        λ e. let t = m.2.0 e in (f t.0, s t.1, λ q. t.2 (sym (long t.0) ∙ q ∙ also t.1)),
        λ t. m.2.1 (f' t.0, s' t.1, λ q. t.2 (long (f' t.0) ∙ q ∙ sym (also (s' t.1)))),
      ),
      (
        λ e. let t = m.3.0 e in (f t.0, s t.1, long t.0 ∙ t.2 ∙ sym (also t.1), t.3),
        λ t. m.3.1 (f' t.0, s' t.1, sym (long (f' t.0)) ∙ t.2 ∙ also (s' t.1), t.3),
      ),
      differ_means first second z w o,
    )
  where
    long : is_live first o ≡ true → length (view first o) ≡ block_size first o
    long on = (shown first z o on).long

    also : is_live second o ≡ true → length (view second o) ≡ block_size second o
    also on = (shown second w o on).long

-- ---- none differ
-- the roll has what view shows: the length of each block, at its offset
pub roll_shown : (h : Heap) → shape_number h ≡ 0
    → roll_of h ≡ listing (λ o. length (view h o)) 0 (memory_length (arenas h) (pools h))
unfolding size_held
roll_shown h z =
    roll_is L (arenas h) (pools h) h.books h.map
    ∙ listing_same (size_held L (arenas h) (pools h) h.books h.map) (λ o. length (view h o)) (λ o. go o (is_live h o) refl) 0 _
  where
    L : Aligned (alignment h)
    L = aligned (edition h)

    go : (o : ℕ) (t : Bool) → is_live h o ≡ t → (if t then block_size h o else 0) ≡ length (view h o)
    go o true e = sym (shown h z o e).long
    go o false e = sym (ap length (dead_none h z o e))

-- what has no length is empty
no_bytes : (l : List ℕ) → length l ≡ 0 → l ≡ []
no_bytes [] e = refl
no_bytes (x ∷ l) e = absurd (omega arith)

-- the list is empty exactly if both rolls are equal, and each live block's bytes are
pub none_differ : (first second : Heap) → Alike first second
    → (differences first second ≡ [] ↔ (roll_of first ≡ roll_of second)
    × ((o : ℕ) → is_live first o ≡ true → view first o ≡ view second o))
none_differ first second alike = (λ e. (rolls e, λ o on. shows e o), empty)
  where
    z : shape_number first ≡ 0
    z = alike.0

    w : shape_number second ≡ 0
    w = alike.1

    n : ℕ
    n = memory_length (arenas first) (pools first)

    same_long : memory_length (arenas second) (pools second) ≡ n
    same_long = let q = equal_shape first second alike.2 in rw (q.0, q.1)

    shows : differences first second ≡ [] → (o : ℕ) → view first o ≡ view second o
    shows e o = (differ_means first second z w o).0 (go (ℕ_discrete (kind_at first second o) 0))
      where
        none : held_below (kind_at first second) n ≡ 0
        none = omega (arith, differences_long first second, ap length e)

        go : Dec (kind_at first second o ≡ 0) → kind_at first second o ≡ 0
        go (yes q) = q
        go (no q) =
            eqb-true (kind_at first second o) 0
            (not-false _ (none_many (λ x. not (eqb (kind_at first second x) 0)) n none o (differ_inside first second alike.2 o q)))

    rolls : differences first second ≡ [] → roll_of first ≡ roll_of second
    rolls e =
        roll_shown first z
        ∙ listing_same (λ o. length (view first o)) (λ o. length (view second o)) (λ o. ap length (shows e o)) 0 n
        ∙ ap (listing (λ o. length (view second o)) 0) (sym same_long)
        ∙ sym (roll_shown second w)

    empty : (roll_of first ≡ roll_of second) × ((o : ℕ) → is_live first o ≡ true → view first o ≡ view second o)
        → differences first second ≡ []
    empty t = listing_none (kind_at first second) 0 n (λ o l. (differ_means first second z w (0 + o)).1 (go (0 + o) (is_live first (0 + o)) refl (long o l)))
      where
        long : (o : ℕ) → o < n → length (view first (0 + o)) ≡ length (view second (0 + o))
        long =
            listing_only (λ o. length (view first o)) (λ o. length (view second o)) 0 n
            (sym (roll_shown first z) ∙ t.0 ∙ roll_shown second w ∙ ap (listing (λ o. length (view second o)) 0) same_long)

        go : (o : ℕ) (b : Bool) → is_live first o ≡ b → length (view first o) ≡ length (view second o)
            → view first o ≡ view second o
        go o true on l = t.1 o on
        go o false off l = let q = dead_none first z o off in q ∙ sym (no_bytes (view second o) (sym l ∙ ap length q))

-- ---- a heap beside itself, and two heaps that change places
-- beside itself a heap differs nowhere, and no change is another than 0
pub beside_itself : (h : Heap) → (differences h h ≡ []) × ((c : ℕ) → change_of h h c ≡ pos 0)
unfolding kind_at
beside_itself h = (
  listing_none (kind_at h h) 0 _ (λ o _. go (0 + o) (is_live h (0 + o))),
  λ c. (change_means h h c).0.1 refl,
)
  where
    same : (o : ℕ) → change_at h h o ≡ 0
    same o =
        rw (
          eq-eqb (block_size h o) (block_size h o) refl,
          is_every (λ i. eqb (at h.memory (o + i)) (at h.memory (o + i))) (block_size h o) (λ i _. eq-eqb (at h.memory (o + i)) _ refl),
        )

    go : (o : ℕ) (t : Bool) → (if t then (if t then change_at h h o else 1) else (if t then 2 else 0)) ≡ 0
    go o true = same o
    go o false = refl

-- kind 1 for 2, and 2 for 1; in a list of offsets and kinds
abbrev pub exchanged : ℕ → ℕ
exchanged k = if eqb k 1 then 2 else if eqb k 2 then 1 else k

unfoldable pub exchanged_in : List ℕ → List ℕ
exchanged_in [] = []
exchanged_in (o ∷ []) = o ∷ []
exchanged_in (o ∷ k ∷ l) = o ∷ exchanged k ∷ exchanged_in l

-- a kind that says that something differs is exchanged for one that says so
exchanged_some : (k : ℕ) → eqb (exchanged k) 0 ≡ eqb k 0
exchanged_some k = go (ℕ_discrete k 1) (ℕ_discrete k 2)
  where
    go : Dec (k ≡ 1) → Dec (k ≡ 2) → eqb (exchanged k) 0 ≡ eqb k 0
    go (yes q) d = rw q
    go (no q) (yes d) = rw d
    go (no q) (no d) = rw (ne_eqb k 1 q, ne_eqb k 2 d)

-- so the same numbers are listed
listing_exchanged : (g : ℕ → ℕ) (o n : ℕ) → listing (λ x. exchanged (g x)) o n ≡ exchanged_in (listing g o n)
unfolding listing exchanged_in
listing_exchanged g o zero = refl
listing_exchanged g o (suc n) = rw (exchanged_some (g o), listing_exchanged g (suc o) n) (go (eqb (g o) 0))
  where
    go : (t : Bool)
        → (if t then [] else (o ∷ exchanged (g o) ∷ [])) ++ exchanged_in (listing g (suc o) n)
        ≡ exchanged_in ((if t then [] else (o ∷ g o ∷ [])) ++ listing g (suc o) n)
    go true = refl
    go false = refl

-- numbers, and so bytes, are compared either way round
eqb_turned : (m n : ℕ) → eqb m n ≡ eqb n m
eqb_turned m n = go (ℕ_discrete m n)
  where
    go : Dec (m ≡ n) → eqb m n ≡ eqb n m
    go (yes q) = eq-eqb m n q ∙ sym (eq-eqb n m (sym q))
    go (no q) = ne_eqb m n q ∙ sym (ne_eqb n m (λ e. q (sym e)))

bytes_turned : (first second : Heap) (o n : ℕ)
    → same_bytes second.memory first.memory o n ≡ same_bytes first.memory second.memory o n
unfolding all_below
bytes_turned first second o zero = refl
bytes_turned first second o (suc n) =
    ap₂ (λ (t u : Bool). t && u) (eqb_turned (at second.memory (o + n)) (at first.memory (o + n))) (bytes_turned first second o n)

-- the heaps exchanged give the same offsets, with kinds 1 and 2 exchanged, and every change negated
pub swapped : (first second : Heap) → unequal_number first second ≡ 0
    → (differences second first ≡ exchanged_in (differences first second))
    × (changes second first ≡ map neg_ℤ (changes first second))
unfolding kind_at changes_from
swapped first second equal =
    let q = equal_shape first second equal in
    let n : memory_length (arenas second) (pools second) ≡ memory_length (arenas first) (pools first) = rw (q.0, q.1) in
    let m : classes second ≡ classes first = ap (λ (e : ℕ). last_class (alignment_of e) + 1) (sym q.2) in (
      ap (listing (kind_at second first) 0) n
          ∙ listing_same (kind_at second first) (λ o. exchanged (kind_at first second o)) kind 0 (memory_length (arenas first) (pools first))
          ∙ listing_exchanged (kind_at first second) 0 (memory_length (arenas first) (pools first)),
      ap (changes_from second first 0) m ∙ negated 0 (classes first),
    )
  where
    -- where the sizes are equal the same bytes are compared
    sized : (o : ℕ) (t : Bool) → eqb (block_size first o) (block_size second o) ≡ t
        → (if not t then 3
        else if not (same_bytes second.memory first.memory o (block_size second o)) then 4
        else 0)
        ≡ exchanged (if not t then 3
        else if not (same_bytes first.memory second.memory o (block_size first o)) then 4
        else 0)
    sized o false e = refl
    sized o true e =
        ap (λ (b : Bool). if not b then 4 else 0)
        (bytes_turned first second o (block_size second o)
        ∙ ap (same_bytes first.memory second.memory o) (sym (eqb-true (block_size first o) (block_size second o) e)))
        ∙ go (same_bytes first.memory second.memory o (block_size first o))
      where
        go : (b : Bool) → (if not b then 4 else 0) ≡ exchanged (if not b then 4 else 0)
        go true = refl
        go false = refl

    kind : (o : ℕ) → kind_at second first o ≡ exchanged (kind_at first second o)
    kind o = go (is_live first o) (is_live second o)
      where
        go : (t u : Bool)
            → (if u then (if t then change_at second first o else 1) else (if t then 2 else 0))
            ≡ exchanged (if t then (if u then change_at first second o else 1) else (if u then 2 else 0))
        go true true =
            ap (λ (b : Bool). if not b then 3 else if not (same_bytes second.memory first.memory o (block_size second o)) then 4 else 0)
            (eqb_turned (block_size second o) (block_size first o))
            ∙ sized o (eqb (block_size first o) (block_size second o)) refl
        go true false = refl
        go false true = refl
        go false false = refl

    negated : (c n : ℕ) → changes_from second first c n ≡ map neg_ℤ (changes_from first second c n)
    negated c zero = refl
    negated c (suc n) =
        ap₂ (λ (z : ℤ) (l : List ℤ). z ∷ l) (change_turned (live_of_class first c) (live_of_class second c)) (negated (suc c) n)
