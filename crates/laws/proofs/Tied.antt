-- What holds after every history, shown event by event: the books are of the edition that was told, the heap is sound,
-- the ledger has what the heap holds, and the first 48 bytes of each pool stand.
-- Assumes nothing.
use Rattle.std.specs.Prelude.{◌≡◌, ◌≢◌, ◌⊎◌, Bool, true, false, ltb, length, take, replicate, if◌then◌else◌}
use Rattle.std.proofs.Math.Path.{refl, subst}
use Rattle.std.proofs.Common.{sym, ap, ◌∙◌, inl, inr, length-set, get_or-set_other, eq-eqb, ne_eqb, leb-true, ltb-true, ltb-false}
use Rattle.std.proofs.lemmas.Bool.{false≢true}
use mathlib.Core.List.{List, [], ◌∷◌, ◌++◌}
use Prim.Native.Nat.{ℕ, zero, suc, ◌+◌, ◌%◌, ◌≤◌, ◌<◌, min}
use Rattle.std.proofs.Math.Decide.{ℕ_discrete}
use native.Mathlib.Omega.{arith}
use Rattle.std.proofs.Math.Dec.{eqb}
use Rattle.std.proofs.Math.ListN.{set, drop}
use Rattle.std.proofs.lemmas.List.Edits.{sets}
use Rattle.std.proofs.Math.Seq.{length-sets}
use Rattle.rules.specs.Books.{
  Heap,
  at,
  in_range,
  exact,
  memory_length,
  map_length,
  arenas,
  pools,
  edition,
  is_edition,
  alignment_of,
  alignment,
}
use Rattle.rules.specs.Blocks.{class_of, size_of, live, is_block, dead_number, live_number, size_at}
use Rattle.rules.specs.Outcome.{Outcome, heap_of, refused, passing, done}
use Rattle.rules.specs.Format.{fresh_books}
use Rattle.rules.specs.View.{part}
use Rattle.rules.specs.Ask.{ask_answer, after_ask}
use Rattle.rules.specs.Resize.{keeps}
use Rattle.rules.specs.Numbers.{format, ask, give_back, resize, write, room_number}
use Rattle.rules.specs.Audit.{audit}
use Rattle.books.specs.Known.{shaped}
use Rattle.books.specs.Tests.{either}
use Rattle.books.specs.Sizes.{Aligned, of_eight, of_sixteen, aligned}
use Rattle.sequences.specs.Update.{is_false, to, to_cong}
use Rattle.sound.specs.Plain.{Plain, fresh, plan_ask as plainAsk}
use Rattle.sound.specs.Sound.{Sound}
use Rattle.sound.specs.Grounds.{shape_zero}
use Rattle.sound.specs.Audited.{plain_of, yes_sound, sound_yes}
use Rattle.sound.specs.Fresh.{edition_word_lem, fresh_heap, fresh_sound, format_cases}
use Rattle.sound.specs.Bytes.{Outside, outside_less, text_part, byte_part, sets_off}
use Rattle.laws.specs.Holding.{LiveAt, live_size, holding, live_rows, class_is, in_memory, holding_live, holding_long, holding_some, dead_holding, Leaves}
use Rattle.laws.specs.Written.{written_leaves}
use Rattle.laws.specs.Calls.{dead_some, view_is, ask_is, ask_leaves, ask_cases, back_dead, block_of, back_is, back_leaves}
use Rattle.laws.specs.Resized.{resize_moves, differ, moved_leaves, resize_cases}
use Rattle.laws.specs.Refused.{view_six, roll_six, compare_six}
use Rattle.laws.specs.History.{
  Event,
  formats,
  asks,
  gives,
  resizes,
  views,
  sizes,
  stands_in,
  writes,
  rolls,
  audits,
  compares,
  pokes,
  Ledger,
  State,
  Beginning,
  formatted,
  passed,
  Begins,
  found,
  begun,
  noted,
  number_of,
  size_for,
  carried,
  after,
  run,
  NoSix,
}

-- ---- what holds after a history, m₀ being memory before it: the books are of the edition that was told, the heap is
-- sound at its alignment, the ledger has what the heap holds, the first 48 bytes of each pool stand
pub record Tied (m₀ : List ℕ) (x : State) : Type 0 where
  pub edition_is : edition x.heap ≡ x.told
  pub A : ℕ
  pub P : ℕ
  pub rows : Plain
  pub sound : Sound (alignment_of x.told) A P x.heap rows
  pub tie : (o : ℕ) → x.ledger o ≡ holding (alignment_of x.told) A P x.heap o
  pub first : (i : ℕ) → i % 4096 < 48 → at x.heap.memory i ≡ at m₀ i

-- ---- format
-- a fresh heap is tied to the empty ledger
fresh_tied : (m m₁ : List ℕ) (A P e : ℕ) → in_range A P ≡ true → is_edition e ≡ true → length m ≡ memory_length A P
    → ((i : ℕ) → i % 4096 < 48 → at m i ≡ at m₁ i)
    → Tied m₁ (record { heap = fresh_heap m A P e; ledger = λ o. []; told = e })
fresh_tied m m₁ A P e range known bytes f =
    record {
      edition_is = edition_word_lem A P e;
      A = A;
      P = P;
      rows = fresh A;
      sound = S;
      tie = λ o. sym (dead_holding (alignment_of e) A P (fresh_heap m A P e) o (dark o));
      first = f;
    }
  where
    S : Sound (alignment_of e) A P (fresh_heap m A P e) (fresh A)
    S = fresh_sound A P e m range known bytes

    dark : (o : ℕ) → live (alignment_of e) A P (fresh_books A P e) (replicate (map_length A P) 0) o ≡ false
    dark o =
        is_false (live (alignment_of e) A P (fresh_books A P e) (replicate (map_length A P) 0) o)
        (λ z. false≢true (live_rows (aligned e) S o z).on)

-- a first format that is done, over any buffers
first_format : (h : Heap) (A P e : ℕ) → (format h A P e).answer.number ≡ 0
    → Tied h.memory (record { heap = (format h A P e).heap; ledger = λ o. []; told = e })
first_format h A P e =
    format_cases h A P e (λ (y : Outcome). y.answer.number ≡ 0 → Tied h.memory (record { heap = y.heap; ledger = λ o. []; told = e }))
    (λ z. absurd (omega arith)) (λ z. absurd (omega arith))
    (λ range known f _. fresh_tied h.memory h.memory A P e range known (shaped h A P range f).memory (λ i u. refl))

-- ---- the beginnings
-- a heap that the audit passes holds what is read off it, and its live blocks are what view shows
pub passed_tied : (h : Heap) → audit h ≡ 0 → Tied h.memory (begun (passed h))
passed_tied h e =
    let S = yes_sound h e in
    record { edition_is = refl; A = arenas h; P = pools h; rows = plain_of h; sound = S; tie = view_is S; first = λ i u. refl }

pub begun_tied : (start : Beginning) → Begins start → Tied (found start).memory (begun start)
begun_tied (formatted h A P e) = first_format h A P e
begun_tied (passed h) = passed_tied h

-- ---- one event
-- its number is not 6, and the state after it is tied
abbrev Good : List ℕ → ℕ → State → Type 0
Good m₀ number x = (number ≢ 6) × Tied m₀ x

-- the two editions
abbrev OneOfTwo : ℕ → Type 0
OneOfTwo e = ((e ≡ 0) × (alignment_of e ≡ 8)) ⊎ ((e ≡ 1) × (alignment_of e ≡ 16))

pub one_of_two : (e : ℕ) → is_edition e ≡ true → OneOfTwo e
one_of_two e known = go (ℕ_discrete e 0)
  where
    go : Dec (e ≡ 0) → OneOfTwo e
    go (yes q) = inl (q, of_eight e q)
    go (no q) = inr (omega (arith, leb-true e 1 known), of_sixteen e q)

-- two heaps with one alignment are of one edition
one_edition : {al A P : ℕ} {h h' : Heap} {r r' : Plain} → Sound al A P h r → Sound al A P h' r' → edition h' ≡ edition h
one_edition {h = h} {h' = h'} S S' = go (one_of_two (edition h) S.rule1.an_edition) (one_of_two (edition h') S'.rule1.an_edition)
  where
    same_alignment : alignment h' ≡ alignment h
    same_alignment = S'.rule1.alignment_is ∙ sym S.rule1.alignment_is

    go : OneOfTwo (edition h) → OneOfTwo (edition h') → edition h' ≡ edition h
    go (inl p) (inl q) = q.0 ∙ sym p.0
    go (inl p) (inr q) = absurd (omega (arith, same_alignment, p.1, q.1))
    go (inr p) (inl q) = absurd (omega (arith, same_alignment, p.1, q.1))
    go (inr p) (inr q) = q.0 ∙ sym p.0

module _ (m₀ : List ℕ) {x : State} (T : Tied m₀ x) where
  abbrev al : ℕ
  al = alignment_of x.told

  L : Aligned al
  L = aligned x.told

  -- a refusal that changes nothing
  same : (k : ℕ) → eqb k 0 ≡ false → k ≢ 6 → (new : Ledger) → Good m₀ k (noted k x.heap x new)
  same k f d new = (d, rw f (record { edition_is = T.edition_is; A = T.A; P = T.P; rows = T.rows; sound = T.sound; tie = T.tie; first = T.first }))

  -- a refusal of an offset that is not live
  same_dead : (A P : ℕ) (b : List ℕ) (o : ℕ) (new : Ledger)
      → Good m₀ (dead_number al A P b o) (noted (dead_number al A P b o) x.heap x new)
  same_dead A P b o new =
      either (λ (k : ℕ). Good m₀ k (noted k x.heap x new)) (is_block al A P b o) 10 5
      (λ _. same 10 refl (omega arith) new) (λ _. same 5 refl (omega arith) new)

  -- a step that leaves what the ledger then says
  leaves : {h : Heap} {r : Plain} {g : ℕ → List ℕ} → Leaves al T.A T.P x.heap h r g
      → (l : Ledger) → ((o : ℕ) → l o ≡ g o)
      → Tied m₀ (record { heap = h; ledger = l; told = x.told })
  leaves {r = r} W l f =
      record {
        edition_is = one_edition T.sound W.sound ∙ T.edition_is;
        A = T.A;
        P = T.P;
        rows = r;
        sound = W.sound;
        tie = λ o. f o ∙ sym (W.holds o);
        first = λ i u. W.first i u ∙ T.first i u;
      }

  step_ask : (n : ℕ) → Good m₀ (number_of x (asks n)) (after x (asks n))
  unfolding number_of after ask_answer after_ask
  step_ask n =
      ask_cases L T.sound n Q (same 3 refl (omega arith) x.ledger) (same 4 refl (omega arith) x.ledger) served
    where
      h : Heap
      h = x.heap

      bytes : Outcome → List ℕ
      bytes y = part y.answer.offset (size_for x.told n) y.heap.memory

      Q : Outcome → Type 0
      Q y = Good m₀ y.answer.number (noted y.answer.number y.heap x (to y.answer.offset (bytes y) x.ledger))

      served : 1 ≤ n → n ≤ 512 → (ask_answer (plainAsk al T.P T.rows (class_of al n))).number ≡ 0 → Q (ask h n)
      served lo hi z =
          rw (ap (λ (y : Outcome). y.answer.number) (ask_is L T.sound n lo hi) ∙ z) (
            (omega arith),
            leaves (ask_leaves L T.sound n lo hi z) (to (ask h n).answer.offset (bytes (ask h n)) x.ledger)
                (λ y. to_cong (ask h n).answer.offset x.ledger (holding al T.A T.P h) refl y (T.tie y)),
          )

  step_give : (o : ℕ) → Good m₀ (number_of x (gives o)) (after x (gives o))
  unfolding number_of after
  step_give o = go (live al T.A T.P x.heap.books x.heap.map o) refl
    where
      Q : Outcome → Type 0
      Q y = Good m₀ y.answer.number (noted y.answer.number y.heap x (to o [] x.ledger))

      go : (t : Bool) → live al T.A T.P x.heap.books x.heap.map o ≡ t → Q (give_back x.heap o)
      go false off = rw (back_dead L T.sound o off) (same_dead T.A T.P x.heap.books o _)
      go true on =
          rw (ap (λ (y : Outcome). y.answer.number) (back_is L T.sound o on)) (
            (omega arith),
            leaves (back_leaves L T.sound o on) (to o [] x.ledger) (λ y. to_cong o x.ledger (holding al T.A T.P x.heap) refl y (T.tie y)),
          )

  -- a live block's bytes change, inside the block
  module _ (o : ℕ) (t : LiveAt al T.A T.P T.rows o) where
    bytes_are : x.ledger o ≡ part o (live_size t) x.heap.memory
    bytes_are = T.tie o ∙ holding_live L T.sound o t

    held_bytes : (m bytes : List ℕ) → length m ≡ length x.heap.memory
        → ((i : ℕ) → Outside o (live_size t) i → at m i ≡ at x.heap.memory i) → bytes ≡ part o (live_size t) m
        → Tied m₀ (record {
          heap = heap_of m x.heap.books x.heap.map;
          ledger = to o bytes x.ledger;
          told = x.told;
        })
    held_bytes m bytes len off new =
        leaves (written_leaves L T.sound o t m len off) (to o bytes x.ledger)
        (λ y. to_cong o x.ledger (holding al T.A T.P x.heap) new y (T.tie y))

  write_is : (o : ℕ) (text : List ℕ)
      → write x.heap o text
      ≡ passing (passing (if live al T.A T.P x.heap.books x.heap.map o then 0
      else dead_number al T.A T.P x.heap.books o)
      (λ k. k) (if ltb (size_at al T.A x.heap.books o) (length text) then 7 else 0))
      (λ k. refused k x.heap) (done o (heap_of (sets x.heap.memory o text) x.heap.books x.heap.map))
  unfolding write live_number room_number
  write_is o text =
      let shape = T.sound.rule1 in
      rw (shape_zero T.sound.rule1, shape.alignment_is, shape.arenas_are, shape.pools_are)

  step_write : (o : ℕ) (text : List ℕ)
      → Good m₀ (number_of x (writes o text)) (after x (writes o text))
  unfolding number_of after
  step_write o text = subst Q (sym (write_is o text)) (go (live al T.A T.P x.heap.books x.heap.map o) refl)
    where
      Q : Outcome → Type 0
      Q y = Good m₀ y.answer.number (noted y.answer.number y.heap x (to o (text ++ drop (length text) (x.ledger o)) x.ledger))

      m' : List ℕ
      m' = sets x.heap.memory o text

      fits : (t : LiveAt al T.A T.P T.rows o) (b : Bool)
          → ltb (size_at al T.A x.heap.books o) (length text) ≡ b
          → Q (passing (if b then 7 else 0) (λ k. refused k x.heap)
          (done o (heap_of m' x.heap.books x.heap.map)))
      fits t true f = same 7 refl (omega arith) x.ledger
      fits t false f =
          let l : length text ≤ live_size t =
          rw (ap (size_of al) (class_is L T.sound o t)) at (ltb-false (size_at al T.A x.heap.books o) (length text) f) in (
            (omega arith),
            held_bytes o t m' (text ++ drop (length text) (x.ledger o)) (length-sets x.heap.memory o text)
                (λ i g. sets_off x.heap.memory o text i (outside_less l g))
                (ap (λ (b : List ℕ). text ++ drop (length text) b) (bytes_are o t)
                ∙ sym (text_part x.heap.memory text o (live_size t) l (in_memory L T.sound o t))),
          )

      dead : (d : ℕ) → d ≢ 0 → Q (refused d x.heap) → (room : ℕ)
          → Q (passing (passing d (λ k. k) room) (λ k. refused k x.heap)
          (done o (heap_of m' x.heap.books x.heap.map)))
      dead zero d g room = absurd (d refl)
      dead (suc d) _ g room = g

      go : (b : Bool) → live al T.A T.P x.heap.books x.heap.map o ≡ b
          → Q (passing (passing (if b then 0 else dead_number al T.A T.P x.heap.books o) (λ k. k)
          (if ltb (size_at al T.A x.heap.books o) (length text) then 7 else 0))
          (λ k. refused k x.heap) (done o (heap_of m' x.heap.books x.heap.map)))
      go false off =
          dead (dead_number al T.A T.P x.heap.books o) (dead_some al T.A T.P x.heap.books o)
          (same_dead T.A T.P x.heap.books o _) (if ltb (size_at al T.A x.heap.books o) (length text) then 7 else 0)
      go true on = fits (live_rows L T.sound o on) (ltb (size_at al T.A x.heap.books o) (length text)) refl

  step_poke : (o d v : ℕ) → Good m₀ 0 (after x (pokes o d v))
  unfolding after
  step_poke o d v = go (ltb d (length (x.ledger o))) refl
    where
      m' : List ℕ
      m' = set x.heap.memory (o + d) v

      go : (b : Bool) → ltb d (length (x.ledger o)) ≡ b
          → Good m₀ 0 (if b then record {
            heap = heap_of m' x.heap.books x.heap.map;
            ledger = to o (set (x.ledger o) d v) x.ledger;
            told = x.told;
          } else x)
      go false f = ((omega arith), T)
      go true f = (
        (omega arith),
        held_bytes o t m' (set (x.ledger o) d v) (length-set x.heap.memory (o + d) v) away
            (ap (λ (b : List ℕ). set b d v) (bytes_are o t) ∙ sym (byte_part x.heap.memory o (live_size t) d v inside)),
      )
        where
          some : d < length (x.ledger o)
          some = ltb-true d (length (x.ledger o)) f

          t : LiveAt al T.A T.P T.rows o
          t = live_rows L T.sound o (holding_some al T.A T.P x.heap o (λ q. absurd (omega (arith, some, ap length (T.tie o ∙ q)))))

          inside : d < live_size t
          inside = omega (arith, some, ap length (T.tie o), holding_long L T.sound o t)

          away : (i : ℕ) → Outside o (live_size t) i → at m' i ≡ at x.heap.memory i
          away i (inl a) = get_or-set_other x.heap.memory (o + d) i v 0 (λ q. absurd (omega arith))
          away i (inr a) = get_or-set_other x.heap.memory (o + d) i v 0 (λ q. absurd (omega (arith, inside)))

  step_resize : (o n : ℕ)
      → Good m₀ (number_of x (resizes o n)) (after x (resizes o n))
  unfolding number_of after
  step_resize o n =
      resize_cases L S o n Q (same 3 refl (omega arith) x.ledger) (same 4 refl (omega arith) x.ledger)
      (same_dead T.A T.P h.books o _) (rw (eq-eqb o o refl) ((omega arith), T)) moves
    where
      h : Heap
      h = x.heap

      S : Sound al T.A T.P h T.rows
      S = T.sound

      Q : Outcome → Type 0
      Q y =
          Good m₀ y.answer.number
          (noted y.answer.number y.heap x
          (if eqb y.answer.offset o then x.ledger else carried (size_for x.told n) n o y.answer.offset (ask h n).heap.memory x.ledger))

      -- the ledger carries what the heap does
      same_carried : (o₁ : ℕ) (m : List ℕ) (y : ℕ)
          → carried (size_for x.told n) n o o₁ m x.ledger y
          ≡ carried (size_for x.told n) n o o₁ m (holding al T.A T.P h) y
      same_carried o₁ m y =
          to_cong o₁ (to o [] x.ledger) (to o [] (holding al T.A T.P h))
          (ap (λ (b : List ℕ). take (min n (length b)) b ++ drop (min n (length b)) (part o₁ (size_for x.told n) m)) (T.tie o)) y
          (to_cong o x.ledger (holding al T.A T.P h) refl y (T.tie y))

      moves : (lo : 1 ≤ n) (hi : n ≤ 512) (on : live al T.A T.P h.books h.map o ≡ true)
          → keeps (live_size (block_of L S o on)) n ≡ false
          → (ask_answer (plainAsk al T.P T.rows (class_of al n))).number ≡ 0 → Q (resize h o n)
      moves lo hi on q z =
          rw (
            resize_moves L S o n lo hi on z q,
            ask_is L S n lo hi,
            ne_eqb (ask_answer (plainAsk al T.P T.rows (class_of al n))).offset o (λ u. differ L S o n lo hi on z (sym u)),
          ) (
            (omega arith),
            leaves (moved_leaves L S o n lo hi on z) _ (same_carried (ask_answer (plainAsk al T.P T.rows (class_of al n))).offset _),
          )

  -- a format that is done leaves a fresh heap of the edition that it was told, and an empty ledger
  step_format : (A P e : ℕ) → Good m₀ (number_of x (formats A P e)) (after x (formats A P e))
  unfolding number_of after
  step_format A P e = format_cases x.heap A P e Q (omega arith, T) (omega arith, T) made
    where
      Q : Outcome → Type 0
      Q y =
          Good m₀ y.answer.number
          (record {
            heap = y.heap;
            ledger = if eqb y.answer.number 0 then (λ o. []) else x.ledger;
            told = if eqb y.answer.number 0 then e else x.told;
          })

      made : in_range A P ≡ true → is_edition e ≡ true → exact A P x.heap ≡ true
          → Q (done 0 (fresh_heap x.heap.memory A P e))
      made range known f =
          ((omega arith), fresh_tied x.heap.memory m₀ A P e range known (shaped x.heap A P range f).memory T.first)

-- ---- any event
pub step : (m₀ : List ℕ) {x : State} → Tied m₀ x → (e : Event) → Good m₀ (number_of x e) (after x e)
unfolding number_of after
step m₀ T (formats A P e) = step_format m₀ T A P e
step m₀ T (asks n) = step_ask m₀ T n
step m₀ T (gives o) = step_give m₀ T o
step m₀ T (resizes o n) = step_resize m₀ T o n
step m₀ T (views o) = ((omega arith), T)
step m₀ {x} T (sizes o) = (view_six x.heap o, T)
step m₀ T (stands_in o phrase) = ((omega arith), T)
step m₀ T (writes o text) = step_write m₀ T o text
step m₀ {x} T (rolls words) = (roll_six x.heap words, T)
step m₀ T audits = (λ six. absurd (omega (arith, six, sound_yes (aligned _) T.sound)), T)
step m₀ {x} T (compares true other list lent) = (compare_six x.heap other list lent, T)
step m₀ {x} T (compares false other list lent) = (compare_six other x.heap list lent, T)
step m₀ T (pokes o d v) = step_poke m₀ T o d v

-- every history
pub tied : (m₀ : List ℕ) {x : State} → Tied m₀ x → (es : List Event) → NoSix x es × Tied m₀ (run x es)
unfolding run
tied m₀ T [] = (tt, T)
tied m₀ {x = x} T (e ∷ es) = let s = step m₀ T e in let t = tied m₀ {x = after x e} s.1 es in ((s.0, t.0), t.1)
