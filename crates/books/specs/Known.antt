-- What is known of a heap, and of an offset, once the tests of 01's numbers let them pass.
-- Assumes nothing.
use Rattle.std.specs.Prelude.{◌≡◌, ◌&&◌, List, ℕ, ◌+◌, ◌*◌, ◌/◌, ◌%◌, ◌≤◌, ◌<◌, leb, ltb, eqb, length}
use Rattle.std.proofs.Math.Bool.{true}
use Rattle.std.proofs.Common.{mul-le-mul, arith, leb-true, ltb-true, eqb-true}
use Rattle.rules.specs.Books.{Heap, at, in_range, exact, memory_length, books_length, map_length, is_set}
use Rattle.rules.specs.Numbers.{size_number}
use Rattle.rules.specs.Blocks.{
  largest,
  last_class,
  is_start,
  block_no,
  class_at,
  size_at,
  at_start,
  live,
  is_block,
  dead_number,
  live_number,
}
use Rattle.books.specs.declared.words.Shape.{Shape}
use Rattle.books.specs.declared.numbers.Block.{Block}
use Rattle.books.specs.Tests.{both, either}
use Rattle.books.specs.Starts.{Start, start}
use Rattle.books.specs.Sizes.{Aligned, size_low, size_high}

-- ---- 1 and 2
-- what is known of A and P, and of the lengths of memory, books and map
pub record Shaped (A P m b k : ℕ) : Type 0 where
  pub arenas_low : 1 ≤ A
  pub arenas_high : A ≤ 16
  pub pools_low : 2 ≤ P
  pub pools_high : P ≤ 64
  pub all : A * P ≤ 1024
  pub memory : m ≡ memory_length A P
  pub books : b ≡ books_length A P
  pub map : k ≡ map_length A P

-- A, P and the edition that the books hold
abbrev pub shape_of : List ℕ → Shape
shape_of b = record { arenas = at b 0; pools = at b 1; edition = at b 68 }

-- what is known of the shape that a heap's books hold, once it is tested
pub record ReadShape (h : Heap) (s : Shape) : Type 0 where
  pub read : s ≡ shape_of h.books
  pub shaped : Shaped s.arenas s.pools (length h.memory) (length h.books) (length h.map)
  pub edition : s.edition ≤ 1

-- what the tests of A and P say
pub in_range_lem : (A P : ℕ) → in_range A P ≡ true → (1 ≤ A) × (A ≤ 16) × (2 ≤ P) × (P ≤ 64) × (A * P ≤ 1024)
unfolding in_range
in_range_lem A P e =
    let t = both (leb 1 A && leb A 16 && leb 2 P) (leb P 64) e in
    let u = both (leb 1 A && leb A 16) (leb 2 P) t.0 in
    let v = both (leb 1 A) (leb A 16) u.0 in
    let a : A ≤ 16 = leb-true A 16 v.1 in
    let p : P ≤ 64 = leb-true P 64 t.1 in
    (leb-true 1 A v.0, a, leb-true 2 P u.1, p, mul-le-mul a p)

-- what those and the tests of the lengths say
pub shaped : (h : Heap) (A P : ℕ) → in_range A P ≡ true → exact A P h ≡ true
    → Shaped A P (length h.memory) (length h.books) (length h.map)
unfolding exact
shaped h A P e f =
    let r = in_range_lem A P e in
    let m = eqb (length h.memory) (memory_length A P) in
    let b = eqb (length h.books) (books_length A P) in
    let t = both (m && b) (eqb (length h.map) (map_length A P)) f in
    let u = both m b t.0 in
    record {
      arenas_low = r.0;
      arenas_high = r.1;
      pools_low = r.2;
      pools_high = r.3;
      all = r.4;
      memory = eqb-true (length h.memory) (memory_length A P) u.0;
      books = eqb-true (length h.books) (books_length A P) u.1;
      map = eqb-true (length h.map) (map_length A P) t.1;
    }

-- ---- 3
pub size_zero : (n : ℕ) → size_number n ≡ 0 → (1 ≤ n) × (n ≤ 512)
unfolding size_number
size_zero n =
    either (λ (k : ℕ). k ≡ 0 → (1 ≤ n) × (n ≤ 512)) (leb 1 n && leb n largest) 0 3
    (λ e _. let t = both (leb 1 n) (leb n largest) e in (leb-true 1 n t.0, leb-true n largest t.1)) (λ _ z. absurd (omega arith))

-- ---- 5 and 10
-- what is known of a live offset, at the alignment al
pub record LiveBlock (al A P : ℕ) (b m : List ℕ) (o : ℕ) : Type 0 where
  pub inside : o < memory_length A P
  pub pool : o / 4096 < A * P
  pub class : class_at A b o ≤ last_class al
  pub starts : is_start (size_at al A b o) (o % 4096) ≡ true
  pub start : Start (size_at al A b o) (o % 4096)
  pub ends : o + size_at al A b o ≤ memory_length A P
  pub set : is_set m (o / 4096) (block_no (size_at al A b o) (o % 4096)) ≡ true

-- and of the block there: its number in its pool, and its size
pub record BlockAt (al A P : ℕ) (b m : List ℕ) (o : ℕ) (block : Block) : Type 0 where
  pub live : LiveBlock al A P b m o
  pub number : block.number ≡ block_no (size_at al A b o) (o % 4096)
  pub size : block.size ≡ size_at al A b o

-- what its first three parts say, which a dead block passes too
pub at_start_is : (al A P : ℕ) (b : List ℕ) (o : ℕ) → at_start al A P b o ≡ true
    → (o < memory_length A P) × (class_at A b o ≤ last_class al) × (is_start (size_at al A b o) (o % 4096) ≡ true)
at_start_is al A P b o e =
    let p = ltb o (memory_length A P) in
    let q = leb (class_at A b o) (last_class al) in
    let u = both (p && q) (is_start (size_at al A b o) (o % 4096)) e in
    let v = both p q u.0 in
    (ltb-true o (memory_length A P) v.0, leb-true (class_at A b o) (last_class al) v.1, u.1)

-- a number 0 of the live test says that there is a live block
pub live_zero : (al A P : ℕ) (b m : List ℕ) (o : ℕ) → live_number al A P b m o ≡ 0 → live al A P b m o ≡ true
unfolding live_number
live_zero al A P b m o =
    let F : ℕ → Type 0 = λ k. k ≡ 0 → live al A P b m o ≡ true in
    either F (live al A P b m o) 0 (dead_number al A P b o) (λ e _. e)
    (λ _. either F (is_block al A P b o) 10 5 (λ _ z. absurd (omega arith)) (λ _ z. absurd (omega arith)))

-- what the live test says
pub live_is : {al : ℕ} → Aligned al → (A P : ℕ) (b m : List ℕ) (o : ℕ) → live al A P b m o ≡ true
    → LiveBlock al A P b m o
unfolding live
live_is {al} L A P b m o e =
    let t = both (at_start al A P b o) (is_set m (o / 4096) (block_no (size_at al A b o) (o % 4096))) e in
    let u = at_start_is al A P b o t.0 in
    let inside : o < memory_length A P = u.0 in
    let low = size_low L (class_at A b o) u.1 in
    let high = size_high L (class_at A b o) u.1 in
    let begins : Start (size_at al A b o) (o % 4096) = start (size_at al A b o) (o % 4096) low u.2 in
    record {
      inside = inside;
      pool = omega arith;
      class = u.1;
      starts = u.2;
      start = begins;
      ends = omega arith;
      set = t.1;
    }
