-- W-204, of every history: a batch is its asks, as events one by one. So at any point of a history each entry that is
-- served has a block of its own, which nobody held.
-- Assumes nothing.
use Rattle.std.specs.Prelude.{◌≡◌, ◌≢◌, ◌⊎◌, List, [], ◌∷◌, ◌++◌, ℕ, zero, suc, ◌+◌, ◌≤◌, ◌<◌, eqb, if◌then◌else◌}
use Rattle.std.proofs.Math.Path.{refl}
use Rattle.std.proofs.Common.{sym, ap, ◌∙◌, inl, inr, arith, ne_eqb}
use Rattle.std.proofs.Math.ListN.{length}
use Rattle.rules.specs.declared.Request.{Request}
use Rattle.rules.specs.Books.{alignment_of}
use Rattle.rules.specs.Blocks.{class_of, size_of}
use Rattle.rules.specs.Outcome.{Outcome}
use Rattle.rules.specs.View.{part}
use Rattle.rules.specs.Numbers.{ask}
use Rattle.rules.specs.Batch.{one_by_one, ask_all}
use Rattle.books.specs.Sizes.{aligned}
use Rattle.sequences.specs.Update.{to, to_same, to_other}
use Rattle.laws.specs.Free.{ask_free, ask_long}
use Rattle.laws.specs.Batched.{request_at, done_is}
use Rattle.laws.specs.History.{
  Event,
  asks,
  Ledger,
  State,
  Beginning,
  Begins,
  found,
  begun,
  size_for,
  number_of,
  after,
  run,
  numbers,
}
use Rattle.laws.proofs.Tied.{Tied, begun_tied, step, tied}
use Rattle.laws.proofs.Theorems.{end, entries_apart}

-- the events of a row, front first; the numbers in a row
abbrev pub asks_of : List Request → List Event
asks_of [] = []
asks_of (r ∷ rest) = asks r.size ∷ asks_of rest

abbrev pub numbers_in : List Request → List ℕ
numbers_in [] = []
numbers_in (r ∷ rest) = r.number ∷ numbers_in rest

-- ---- any state
-- events after others
pub more_run : (x : State) (es later : List Event)
    → (run x (es ++ later) ≡ run (run x es) later)
    × (numbers x (es ++ later) ≡ numbers x es ++ numbers (run x es) later)
unfolding run numbers
more_run x [] later = (refl, refl)
more_run x (e ∷ es) later =
    let t = more_run (after x e) es later in (t.0, ap (λ (ks : List ℕ). number_of x e ∷ ks) t.1)

asks_run : (x : State) (row : List Request)
    → ((run x (asks_of row)).heap ≡ (one_by_one x.heap row).heap)
    × (numbers x (asks_of row) ≡ numbers_in (one_by_one x.heap row).row)
unfolding run after numbers number_of one_by_one
asks_run x [] = (refl, refl)
asks_run x (r ∷ rest) =
    let t = asks_run (after x (asks r.size)) rest in
    (t.0, ap (λ (ks : List ℕ). (ask x.heap r.size).answer.number ∷ ks) t.1)

-- a batch that is done leaves the heap that its asks leave as events, and its row has the numbers of those
pub batch_events : (x : State) (row : List Request)
    → let y = ask_all x.heap row in
    y.answer.number ≡ 0
    → ((run x (asks_of row)).heap ≡ y.left.heap) × (numbers x (asks_of row) ≡ numbers_in y.left.row)
batch_events x row z = rw (done_is x.heap row z) (asks_run x row)

-- ---- one ask in a history, and then a row of them
-- a block has a byte at least
some_byte : (e n : ℕ) → size_for e n ≢ 0
some_byte e n = go (alignment_of e) (aligned e).is (class_of (alignment_of e) n)
  where
    go : (al : ℕ) → (al ≡ 8) ⊎ (al ≡ 16) → (c : ℕ) → size_of al c ≢ 0
    go al (inl e) c = rw e (omega arith)
    go al (inr e) c = rw e (omega arith)

module _ (m₀ : List ℕ) {x : State} (T : Tied m₀ x) (n : ℕ) where
  abbrev got : Outcome
  got = ask x.heap n

  -- what it hands out nobody held, and somebody holds it then
  was_free : got.answer.number ≡ 0 → x.ledger got.answer.offset ≡ []
  was_free z = T.tie _ ∙ ask_free (aligned x.told) T.sound n z

  now_long : got.answer.number ≡ 0
      → length ((after x (asks n)).ledger got.answer.offset) ≡ size_for x.told n
  unfolding after
  now_long z =
      rw z
      (ap length (to_same got.answer.offset _ x.ledger got.answer.offset refl)
      ∙ ask_long (aligned x.told) T.sound n z)

  -- what is held stays held, as it is
  still_held : (o : ℕ) → x.ledger o ≢ [] → (after x (asks n)).ledger o ≡ x.ledger o
  unfolding after
  still_held o some = go got.answer.number refl
    where
      new : Ledger
      new = to got.answer.offset (part got.answer.offset (size_for x.told n) got.heap.memory) x.ledger

      go : (k : ℕ) → got.answer.number ≡ k → (if eqb k 0 then new else x.ledger) o ≡ x.ledger o
      go zero e = to_other got.answer.offset _ x.ledger o (λ q. some (ap x.ledger q ∙ was_free e))
      go (suc k) e = rw (ne_eqb (suc k) 0 (omega arith))

  -- so what nobody holds then nobody held
  free_before : (o : ℕ) → (after x (asks n)).ledger o ≡ [] → x.ledger o ≡ []
  free_before o q = go (x.ledger o) refl
    where
      go : (l : List ℕ) → x.ledger o ≡ l → l ≡ []
      go [] e = refl
      go (v ∷ vs) e =
          let some : x.ledger o ≢ [] = λ u. absurd (omega (arith, ap length u, ap length e)) in
          sym e ∙ sym (still_held o some) ∙ q

  -- the ledger is tied to the heap after it
  then_tied : Tied m₀ (after x (asks n))
  then_tied = (step m₀ T (asks n)).1

stay_held : (m₀ : List ℕ) {x : State} → Tied m₀ x → (row : List Request) (o : ℕ) → x.ledger o ≢ []
    → (run x (asks_of row)).ledger o ≡ x.ledger o
unfolding run
stay_held m₀ T [] o some = refl
stay_held m₀ {x = x} T (r ∷ rest) o some =
    let e = still_held m₀ T r.size o some in
    stay_held m₀ {x = after x (asks r.size)} (then_tied m₀ T r.size) rest o (λ q. some (sym e ∙ q)) ∙ e

each_held : (m₀ : List ℕ) {x : State} → Tied m₀ x → (row : List Request) (i : ℕ) → i < length row
    → let r = request_at (one_by_one x.heap row).row i in
    r.number ≡ 0
    → (x.ledger r.offset ≡ [])
    × (length ((run x (asks_of row)).ledger r.offset) ≡ size_for x.told r.size)
unfolding run one_by_one after
each_held m₀ T [] i l z = absurd (omega arith)
each_held m₀ {x} T (r ∷ rest) zero l z =
    let long = now_long m₀ T r.size z in
    let o = (ask x.heap r.size).answer.offset in
    let some : (after x (asks r.size)).ledger o ≢ [] = λ q. some_byte x.told r.size (sym long ∙ ap length q) in
    (was_free m₀ T r.size z, ap length (stay_held m₀ (then_tied m₀ T r.size) rest o some) ∙ long)
each_held m₀ {x = x} T (r ∷ rest) (suc i) l z =
    let t = each_held m₀ {x = after x (asks r.size)} (then_tied m₀ T r.size) rest i (omega arith) z in
    (free_before m₀ T r.size _ t.0, t.1)

each_apart : (m₀ : List ℕ) {x : State} → Tied m₀ x → (row : List Request) (i j : ℕ)
    → i < length row → j < length row → i ≢ j
    → let v = (one_by_one x.heap row).row in
    (request_at v i).number ≡ 0 → (request_at v j).number ≡ 0 → (request_at v j).offset ≢ (request_at v i).offset
unfolding one_by_one after
each_apart m₀ T [] i j l m d z w = absurd (omega arith)
each_apart m₀ T (r ∷ rest) zero zero l m d z w = absurd (d refl)
each_apart m₀ {x} T (r ∷ rest) zero (suc j) l m d z w =
    λ e. some_byte x.told r.size (sym (now_long m₀ T r.size z)
    ∙ ap (λ (o : ℕ). length ((after x (asks r.size)).ledger o)) (sym e)
    ∙ ap length (each_held m₀ (then_tied m₀ T r.size) rest j (omega arith) w).0)
each_apart m₀ {x} T (r ∷ rest) (suc i) zero l m d z w =
    λ e. some_byte x.told r.size (sym (now_long m₀ T r.size w)
    ∙ ap (λ (o : ℕ). length ((after x (asks r.size)).ledger o)) e
    ∙ ap length (each_held m₀ (then_tied m₀ T r.size) rest i (omega arith) z).0)
each_apart m₀ {x = x} T (r ∷ rest) (suc i) (suc j) l m d z w =
    each_apart m₀ {x = after x (asks r.size)} (then_tied m₀ T r.size) rest i j (omega arith) (omega arith) (λ e. d (ap suc e)) z w

each_no_six : (m₀ : List ℕ) {x : State} → Tied m₀ x → (row : List Request) (i : ℕ) → i < length row
    → (request_at (one_by_one x.heap row).row i).number ≢ 6
unfolding one_by_one number_of after
each_no_six m₀ T [] i l = absurd (omega arith)
each_no_six m₀ T (r ∷ rest) zero l = (step m₀ T (asks r.size)).0
each_no_six m₀ {x = x} T (r ∷ rest) (suc i) l =
    each_no_six m₀ {x = after x (asks r.size)} (then_tied m₀ T r.size) rest i (omega arith)

-- ---- a batch at the end of any history, its asks being events more
module _ (start : Beginning) (ok : Begins start) (es : List Event) (row : List Request) where
  T : Tied (found start).memory (end start ok es)
  T = (tied (found start).memory (begun_tied start ok) es).1

  at_end : end start ok (es ++ asks_of row) ≡ run (end start ok es) (asks_of row)
  at_end = (more_run (begun start) es (asks_of row)).0

  -- done, it leaves the heap of the history that has its asks for events: so every theorem of histories holds of it
  pub batch_ends : let y = ask_all (end start ok es).heap row in
      y.answer.number ≡ 0 → y.left.heap ≡ (end start ok (es ++ asks_of row)).heap
  batch_ends z = sym (batch_events (end start ok es) row z).0 ∙ sym (ap (λ (x : State). x.heap) at_end)

  -- no entry gets 6
  pub batch_no_six : let y = ask_all (end start ok es).heap row in
      y.answer.number ≡ 0 → (i : ℕ) → i < length row → (request_at y.left.row i).number ≢ 6
  batch_no_six z i l = rw (done_is (end start ok es).heap row z) (each_no_six (found start).memory T row i l)

  -- an entry that is served has a block that nobody held before, and which is held then, of the size that its edition
  -- gives to the size asked for
  pub batch_held : let x = end start ok es in
      let y = ask_all x.heap row in
      y.answer.number ≡ 0 → (i : ℕ) → i < length row
      → let r = request_at y.left.row i in
      r.number ≡ 0
      → (x.ledger r.offset ≡ [])
      × (length ((end start ok (es ++ asks_of row)).ledger r.offset) ≡ size_for x.told r.size)
  batch_held z i l = rw (done_is (end start ok es).heap row z, at_end) (each_held (found start).memory T row i l)

  -- the blocks of two entries do not overlap
  pub batch_apart : let x = end start ok es in
      let y = ask_all x.heap row in
      y.answer.number ≡ 0 → (i j : ℕ) → i < length row → j < length row → i ≢ j
      → let r = request_at y.left.row i in
      let s = request_at y.left.row j in
      r.number ≡ 0 → s.number ≡ 0
      → (r.offset + size_for x.told r.size ≤ s.offset)
      ⊎ (s.offset + size_for x.told s.size ≤ r.offset)
  batch_apart z i j l m d u w =
      let x = end start ok es in
      let v = (ask_all x.heap row).left.row in
      let a = (batch_held z i l u).1 in
      let b = (batch_held z j m w).1 in
      let other : (request_at v i).number ≡ 0 → (request_at v j).number ≡ 0
      → (request_at v j).offset ≢ (request_at v i).offset =
      rw (done_is x.heap row z) (each_apart (found start).memory T row i j l m d) in
      rw (a, b) at
      (entries_apart start ok (es ++ asks_of row) (request_at v i).offset (request_at v j).offset
      (λ q. some_byte x.told (request_at v i).size (sym a ∙ ap length q))
      (λ q. some_byte x.told (request_at v j).size (sym b ∙ ap length q)) (other u w))

  -- and what was held is held then, with the same bytes
  pub batch_others : (o : ℕ) → (end start ok es).ledger o ≢ []
      → (end start ok (es ++ asks_of row)).ledger o ≡ (end start ok es).ledger o
  batch_others o some = rw at_end (stay_held (found start).memory T row o some)
