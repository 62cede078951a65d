-- W-212, of every two histories, and of two points of one: compare lists the offsets at which the two ledgers differ,
-- because view shows the ledger.
-- Assumes nothing.
use Rattle.std.specs.Prelude.{◌≢◌, ◌↔◌, ◌≡◌, refl, List, ◌++◌, ℕ, ◌*◌, ◌<◌, length}
use Rattle.rules.specs.Books.{at}
use Rattle.rules.specs.Numbers.{shape_number}
use Rattle.rules.specs.Compare.{kind_at, differences, unequal_number}
use Rattle.sound.specs.Grounds.{shape_zero}
use Rattle.sound.specs.Audited.{yes_sound}
use Rattle.laws.specs.Beside.{Told, listed_means, kind_told}
use Rattle.laws.specs.History.{Event, Beginning, Begins}
use Rattle.laws.proofs.Theorems.{end, audit_yes, view_shows}

-- the tests of 1 and 2 pass where a history ends
shape_passes : (start : Beginning) (ok : Begins start) (es : List Event) → shape_number (end start ok es).heap ≡ 0
shape_passes start ok es = shape_zero (yes_sound (end start ok es).heap (audit_yes start ok es)).rule1

-- one of a list's entries, of two words each, is of the offset o
abbrev pub Listed : List ℕ → ℕ → Type 0
Listed l o = (i : ℕ) × (2 * i < length l) × (at l (2 * i) ≡ o)

-- the ends of any two histories
module _ (start : Beginning) (ok : Begins start) (es : List Event)
    (start' : Beginning) (ok' : Begins start') (es' : List Event) where
  -- the kind of an offset says what is held there in the two: 1 that something is in the first alone, 2 in the second
  -- alone, 3 in both, of other lengths, 4 in both, of one length, with other bytes; 0 that the same is, or nothing
  pub ends_told : (o : ℕ)
      → let first = end start ok es in
      let second = end start' ok' es' in
      Told (kind_at first.heap second.heap o) (first.ledger o) (second.ledger o)
  ends_told o =
      rw (view_shows start ok es o, view_shows start' ok' es' o) at
      (kind_told (end start ok es).heap (end start' ok' es').heap (shape_passes start ok es) (shape_passes start' ok' es') o)

  -- so an offset is listed exactly if the two ledgers differ there
  pub ends_differ : (o : ℕ)
      → let first = end start ok es in
      let second = end start' ok' es' in
      (kind_at first.heap second.heap o ≢ 0 ↔ first.ledger o ≢ second.ledger o)
  ends_differ o = let t = (ends_told o).4 in (λ d q. d (t.1 q), λ d q. d (t.0 q))

-- two points of one history: after the events es, and after those and later ones
module _ (start : Beginning) (ok : Begins start) (es later : List Event) where
  -- the same holds of them
  pub points_differ : (o : ℕ)
      → let first = end start ok es in
      let second = end start ok (es ++ later) in
      (kind_at first.heap second.heap o ≢ 0 ↔ first.ledger o ≢ second.ledger o)
      × Told (kind_at first.heap second.heap o) (first.ledger o) (second.ledger o)
  points_differ o = (ends_differ start ok es start ok (es ++ later) o, ends_told start ok es start ok (es ++ later) o)

  -- so, where compare does not answer 12, an offset is in its list exactly if the two ledgers differ there
  pub points_listed : let first = end start ok es in
      let second = end start ok (es ++ later) in
      unequal_number first.heap second.heap ≡ 0 → (o : ℕ)
      → (Listed (differences first.heap second.heap) o ↔ first.ledger o ≢ second.ledger o)
  points_listed equal o =
      let means = listed_means (end start ok es).heap (end start ok (es ++ later)).heap equal o in
      let differ = (points_differ o).0 in (
        λ t. differ.0 ((means t.0).0 (t.1, t.2)).0,
        λ d. let t = (means _).1 (differ.1 d, refl) in (_, t.0, t.1),
      )
