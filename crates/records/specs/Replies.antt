-- A reply as a struct, what it is made of, and its bytes.
-- Assumes nothing.
use Rattle.std.specs.Prelude.{◌≡◌, Bool, true, false, List, [], ◌∷◌, ◌++◌, ℕ, suc, ◌+◌, ◌*◌, ◌/◌, ◌%◌, ◌≤◌, eqb, length, if◌then◌else◌}
use Rattle.std.proofs.Common.{sym, ap, ap₂, subst, ◌∙◌, arith, lt-ltb, le-leb, eq-eqb}
use Rattle.std.proofs.lemmas.List.Edits.{sets}
use Rattle.rules.specs.declared.Answer.{Answer}
use Rattle.rules.specs.Books.{Heap, in_range, exact, at, put, alignment_of, memory_length, books_length, map_length}
use Rattle.rules.specs.Blocks.{put_link}
use Rattle.rules.specs.View.{roll}
use Rattle.rules.specs.Outcome.{Outcome, heap_of, outcome, answer_of}
use Rattle.rules.specs.Numbers.{block_size, range_number, edition_number, length_number, reach_number, shape_number}
use Rattle.rules.specs.Replay.{op_of, offset_in, four_bytes, reply_bytes, Replied, called}
use Rattle.books.specs.Sizes.{aligned}
use Rattle.books.specs.Known.{Shaped, ReadShape}
use Rattle.books.specs.declared.words.Shape.{Shape}
use Rattle.books.specs.declared.refusal.Refusal.{Refusal}
use Rattle.books.specs.Passing.{stopped}
use Rattle.books.specs.Refusals.{number_of, number_low}
use Rattle.loops.specs.Roll.{Pools, length_roll}
use Rattle.records.specs.declared.Reply.{Reply}
use Rattle.records.specs.declared.Call.{Call}
use Rattle.records.specs.Calls.{Fixed, Kept}
use Rattle.records.specs.Reads.{byte_of, Says}

-- ---- the heap
-- memory, books and map have the shape that words 0 and 1 of the books say, and word 68 says an edition
abbrev pub Whole : List ℕ → List ℕ → List ℕ → Type 0
Whole m b k = Shaped (at b 0) (at b 1) (length m) (length b) (length k) × (at b 68 ≤ 1)

-- what of that the count of live blocks needs
abbrev pub Counted : List ℕ → List ℕ → Type 0
Counted b k = Pools (at b 0) (at b 0 * at b 1) b k

abbrev pub live_in : List ℕ → List ℕ → ℕ
live_in b k = length (roll (alignment_of (at b 68)) (at b 0) (at b 1) b k) / 2

-- and `live` blocks are live in it
abbrev pub WholeWith : ℕ → List ℕ → List ℕ → List ℕ → Type 0
WholeWith live m b k = Whole m b k × (live ≡ live_in b k)

-- ---- replies
abbrev pub reply_of : ℕ → ℕ → ℕ → ℕ → ℕ → Reply
reply_of op number offset size live = record { op = op; number = number; offset = offset; size = size; live = live }

abbrev pub bytes_of : Reply → List ℕ
bytes_of r = reply_bytes r.op r.number r.offset r.size r.live

-- "A refusal repeats the record's offset (0 for ask)"
abbrev pub refusal_of : ℕ → ℕ → ℕ → ℕ → Reply
refusal_of op offset k live = reply_of op k (if eqb op 1 then 0 else offset) 0 live

-- the size of the block that a call answered
abbrev pub answered_size : Outcome → ℕ
answered_size x = block_size x.heap x.answer.offset

-- a reply, and the heap after it
abbrev pub replied_with : Reply → List ℕ → List ℕ → List ℕ → Replied
replied_with r m b k = record { reply = bytes_of r; heap = heap_of m b k }

-- they are those of the rules, and the reply says how many blocks are live in that heap
abbrev pub Replies : Reply → List ℕ → List ℕ → List ℕ → Replied → Type 0
Replies r m b k x = (replied_with r m b k ≡ x) × (r.live ≡ live_in b k)

-- ---- the heap before and after a call
-- a heap whose shape is tested is whole
pub tested_whole : (m b k : List ℕ) {s : Shape} → ReadShape (heap_of m b k) s → Whole m b k
tested_whole m b k t =
    subst (λ (s : Shape). Shaped s.arenas s.pools (length m) (length b) (length k) × (s.edition ≤ 1)) t.read (t.shaped, t.edition)

pub counted : (m b k : List ℕ) → Whole m b k → Counted b k
counted m b k (w, e) = record { few = w.all; books = w.books; map = w.map }

-- a count of live blocks fits 32 bits
pub few_live : (b k : List ℕ) → Counted b k → live_in b k ≤ 518144
few_live b k w = omega (arith, w.few, length_roll (alignment_of (at b 68)) (at b 0) b k (aligned (at b 68)).low 0 (at b 0 * at b 1))

-- neither 1 nor 2
pub right_shape : (m b k : List ℕ) → Whole m b k → shape_number (heap_of m b k) ≡ 0
unfolding shape_number range_number edition_number length_number reach_number in_range exact
right_shape m b k (w, e) =
    rw (
      lt-ltb 1 (length b) (omega (arith, w.books)),
      le-leb 1 (at b 0) w.arenas_low,
      le-leb (at b 0) 16 w.arenas_high,
      le-leb 2 (at b 1) w.pools_low,
      le-leb (at b 1) 64 w.pools_high,
      lt-ltb 68 (length b) (omega (arith, w.books)),
      le-leb (at b 68) 1 e,
      eq-eqb (length m) (memory_length (at b 0) (at b 1)) w.memory,
      eq-eqb (length b) (books_length (at b 0) (at b 1)) w.books,
      eq-eqb (length k) (map_length (at b 0) (at b 1)) w.map,
    )

-- m', b' and k' are the heap g, whose A, P and edition are those of b, and are as long as m, b and k
pub still_whole : (m b k m' b' k' : List ℕ) (g : Heap) → Whole m b k → Kept b g.books → heap_of m' b' k' ≡ g
    → length m' ≡ length m → length b' ≡ length b → length k' ≡ length k → Whole m' b' k'
still_whole m b k m' b' k' g w t e f h l =
    let s : (j : ℕ) → Fixed j → at b' j ≡ at b j = λ j u. ap (λ (y : Heap). at y.books j) e ∙ t.word j u in
    rw (s 0 (omega arith), s 1 (omega arith), s 68 (omega arith), f, h, l) w

-- so where a call on them left x, of the answer a, the live blocks can be counted
pub counted_after : (m b k m' b' k' : List ℕ) {a : Answer} {x : Outcome} → Whole m b k → Kept b x.heap.books
    → outcome a (heap_of m' b' k') ≡ x → length m' ≡ length m → length b' ≡ length b → length k' ≡ length k
    → Counted b' k'
counted_after m b k m' b' k' {x = x} w t e f h l =
    counted m' b' k' (still_whole m b k m' b' k' x.heap w t (ap (λ (y : Outcome). y.heap) e) f h l)

-- ---- a reply holds the low four bytes of its size
low_byte : (x t : ℕ) → (x + 256 * t) % 256 ≡ x % 256
low_byte x t = omega arith

low_four : (v : ℕ) → four_bytes (v % 4294967296) ≡ four_bytes v
low_four v =
    let w = v % 4294967296 in
    let q = v / 4294967296 in
    let a : v % 256 ≡ w % 256 = omega arith in
    let e : v / 256 ≡ w / 256 + 256 * (65536 * q) = omega arith in
    let f : v / 65536 ≡ w / 65536 + 256 * (256 * q) = omega arith in
    let g : v / 16777216 ≡ w / 16777216 + 256 * q = omega arith in
    let b : v / 256 % 256 ≡ w / 256 % 256 = ap (λ (x : ℕ). x % 256) e ∙ low_byte (w / 256) (65536 * q) in
    let c : v / 65536 % 256 ≡ w / 65536 % 256 = ap (λ (x : ℕ). x % 256) f ∙ low_byte (w / 65536) (256 * q) in
    let d : v / 16777216 % 256 ≡ w / 16777216 % 256 = ap (λ (x : ℕ). x % 256) g ∙ low_byte (w / 16777216) q in
    sym (ap₂ (λ (x y : ℕ). x ∷ y ∷ (v / 65536 % 256) ∷ (v / 16777216 % 256) ∷ []) a b ∙ ap₂ (λ (x y : ℕ). (w % 256) ∷ (w / 256 % 256) ∷ x ∷ y ∷ []) c d)

pub not_zero : (refusal : Refusal) → number_of refusal ≡ 0 → ⊥
not_zero refusal e = omega (arith, number_low refusal)

-- where the call that the bytes r say left x, the reply to it and the heap are what the rules say
module _ {r : List ℕ} {c : Call} (says : Says r c) {m b k : List ℕ} {live : ℕ} (counts : live ≡ live_in b k)
    {reply : Reply} {x : Outcome} (sized : Outcome → ℕ) where
  -- done at the offset o
  pub answered_done : (o s : ℕ) → outcome (answer_of 0 o) (heap_of m b k) ≡ x
      → s ≡ sized (outcome (answer_of 0 o) (heap_of m b k)) % 4294967296
      → reply ≡ reply_of (byte_of c.op) 0 o s live → Replies reply m b k (called r x (sized x))
  answered_done o s e f t =
      let n = sized (outcome (answer_of 0 o) (heap_of m b k)) in (
        ap (λ (y : Reply). replied_with y m b k) (t ∙ said n f)
            ∙ ap (λ (l : List ℕ). record { reply = op_of r ∷ 0 ∷ 0 ∷ 0 ∷ (four_bytes o ++ (l ++ four_bytes (live_in b k))); heap = heap_of m b k })
            (low_four n)
            ∙ ap (λ (y : Outcome). called r y (sized y)) e,
        ap (λ (y : Reply). y.live) t ∙ counts,
      )
    where
      said : (n : ℕ) → s ≡ n % 4294967296
          → reply_of (byte_of c.op) 0 o s live ≡ reply_of (op_of r) 0 o (n % 4294967296) (live_in b k)
      said n f = rw (f, ← says.op, counts)

  -- refused, with an offset beside the number where it is half done
  pub answered_refused : (refusal : Refusal) (o : ℕ) → outcome (answer_of (number_of refusal) o) (heap_of m b k) ≡ x
      → reply ≡ refusal_of (byte_of c.op) c.offset (number_of refusal) live → Replies reply m b k (called r x (sized x))
  answered_refused refusal o e t = (
    ap (λ (y : Reply). replied_with y m b k) (t ∙ said)
        ∙ sym (stopped _ _ (number_of refusal) (not_zero refusal))
        ∙ ap (λ (y : Outcome). called r y (sized y)) e,
    ap (λ (y : Reply). y.live) t ∙ counts,
  )
    where
      said : refusal_of (byte_of c.op) c.offset (number_of refusal) live
          ≡ refusal_of (op_of r) (offset_in r) (number_of refusal) (live_in b k)
      said = rw (← says.op, ← says.offset, counts)

-- ---- by a test, the rules choose the one or the other
module _ {X : Type 0} (t : Bool) (x y : X) where
  pub chosen : t ≡ true → x ≡ if t then x else y
  chosen e = rw e

  pub passed_over : t ≡ false → y ≡ if t then x else y
  passed_over e = rw e

-- ---- the bytes of a reply, stored in the output l from byte i on
put_four : (l : List ℕ) (i v : ℕ) → put_link i v l ≡ sets l i (four_bytes v)
unfolding put_link
put_four l i v =
    let a : i + 1 ≡ suc i = omega arith in
    let b : i + 2 ≡ suc (suc i) = omega arith in
    let c : i + 3 ≡ suc (suc (suc i)) = omega arith in
    rw (a, b, c)

-- op, number and two zeros, then three numbers of four bytes
pub put_bytes : (l : List ℕ) (i op number offset size live : ℕ)
    → put_link (i + 12) live (put_link (i + 8) size
    (put_link (i + 4) offset (put (i + 3) 0 (put (i + 2) 0 (put (i + 1) number (put i op l))))))
    ≡ sets l i (reply_bytes op number offset size live)
put_bytes l i op number offset size live =
    let a : i + 1 ≡ suc i = omega arith in
    let b : i + 2 ≡ suc (suc i) = omega arith in
    let c : i + 3 ≡ suc (suc (suc i)) = omega arith in
    let d : i + 4 ≡ suc (suc (suc (suc i))) = omega arith in
    let e : i + 8 ≡ suc (suc (suc (suc (suc (suc (suc (suc i))))))) = omega arith in
    let f : i + 12 ≡ suc (suc (suc (suc (suc (suc (suc (suc (suc (suc (suc (suc i))))))))))) = omega arith in
    simp put_four (rw (a, b, c, d, e, f))
