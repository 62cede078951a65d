-- 02, W-204, a whole statement in a single call: for each clause rows that show it, in the order of 02's sentences;
-- with readings R65 to R70 of docs/DECISIONS.md. One table under one statement.
-- Assumes nothing.
use Rattle.std.specs.Prelude.{◌≡◌, List, [], ◌∷◌, ℕ, T, length, take, replicate}
use Rattle.rules.specs.declared.Request.{Request}
use Rattle.rules.specs.Books.{Heap, memory_length, books_length, map_length, on_books, on_map}
use Rattle.rules.specs.Batch.{request, ask_rows}
use Rattle.rules.specs.Lines.{Line, asks, asks_all, asks_rows, gives, has, spoil, word=, every, fresh, words}
use Rattle.rules.specs.Whole.{tab, each_three}

-- One arena of two pools, edition eight: pool n starts at 4,096n.

-- ---- a request as it is lent, with 7 and 9 in the places for number and offset; n of them
abbrev wants : ℕ → Request
wants s = request s 7 9

abbrev many : ℕ → ℕ → List Request
many n s = replicate n (wants s)

-- and as it is left: served at o, or refused with k
abbrev has_block : ℕ → ℕ → Request
has_block s o = request s 0 o

abbrev refused_with : ℕ → ℕ → Request
refused_with s k = request s k 0

-- the map has a word too many
abbrev long_map : Heap → Heap
long_map = on_map (λ m. 0 ∷ m)

-- ==== "The result is that of the same asks one by one, front first": four texts of two classes, each asked for on what
-- those before it left; and so is the ask after them
abbrev one_statement : List Line
one_statement =
    asks 8 0 48
    ∷ asks_all (wants 4 ∷ wants 9 ∷ wants 7 ∷ wants 16 ∷ []) 0
    (has_block 4 56 ∷ has_block 9 4144 ∷ has_block 7 64 ∷ has_block 16 4160 ∷ [])
    ∷ asks 1 0 72 ∷ asks 10 0 4176 ∷ gives 56 0 56 ∷ asks_all (wants 5 ∷ []) 0 (has_block 5 56 ∷ []) ∷ []

-- ==== "a refusal doesn't stop the rest": sizes out of range, and no room for a third class. A refused request gets its
-- number and offset 0; the call answers 0 all the same
abbrev refusals_inside : List Line
refusals_inside =
    asks_all (wants 0 ∷ wants 512 ∷ wants 513 ∷ wants 8 ∷ wants 9 ∷ wants 511 ∷ []) 0
    (refused_with 0 3 ∷ has_block 512 48 ∷ refused_with 513 3 ∷ has_block 8 4144 ∷ refused_with 9 4
    ∷ has_block 511 560 ∷ [])
    ∷ asks 8 0 4152 ∷ []

-- books that are damaged where one class goes: its asks meet 6, the others are served
abbrev damage_inside : List Line
damage_inside =
    word= 5 3
    ∷ asks_all (wants 16 ∷ wants 8 ∷ wants 9 ∷ wants 1 ∷ []) 0
    (refused_with 16 6 ∷ has_block 8 48 ∷ refused_with 9 6 ∷ has_block 1 56 ∷ []) ∷ asks 8 0 64 ∷ []

-- ==== "1 and 2 are tested once, first, and leave the row as it came": A and P, the edition, a length, books of
-- under two words; also where there are too many entries
abbrev shape_once : List Line
shape_once =
    word= 0 17 ∷ asks_all (wants 8 ∷ wants 0 ∷ []) 1 (wants 8 ∷ wants 0 ∷ [])
    ∷ asks_all (many 4097 8) 1 (many 4097 8) ∷ asks_all [] 1 []
    ∷ word= 0 1 ∷ word= 68 2 ∷ asks_all (wants 8 ∷ []) 1 (wants 8 ∷ [])
    ∷ word= 68 0 ∷ spoil long_map ∷ asks_all (wants 8 ∷ []) 2 (wants 8 ∷ [])
    ∷ asks_all (many 4097 8) 2 (many 4097 8)
    ∷ spoil (on_books (take 1)) ∷ asks_all (wants 8 ∷ []) 2 (wants 8 ∷ []) ∷ []

-- ==== "At most 4,096 entries": no request, and 4,096, each with its number; "otherwise 7 and no change": 4,097
abbrev up_to_most : List Line
up_to_most =
    asks_all [] 0 []
    ∷ asks_all (many 4096 0) 0 (replicate 4096 (refused_with 0 3))
    ∷ asks_all (many 4097 8) 7 (many 4097 8) ∷ asks 8 0 48 ∷ []

-- ==== 01, "First covered as rows of numbers": three words for each request; one or two past the last whole one
-- stay, and count for nothing
abbrev as_numbers : List Line
as_numbers =
    asks_rows (8 ∷ 7 ∷ 9 ∷ 600 ∷ 7 ∷ 9 ∷ 16 ∷ 7 ∷ 9 ∷ 24 ∷ 7 ∷ []) 0
    (8 ∷ 0 ∷ 48 ∷ 600 ∷ 3 ∷ 0 ∷ 16 ∷ 0 ∷ 4144 ∷ 24 ∷ 7 ∷ [])
    ∷ asks 8 0 56 ∷ asks 24 4 0 ∷ asks_rows (8 ∷ []) 0 (8 ∷ []) ∷ asks_rows [] 0 []
    ∷ has (λ h. (ask_rows h (words 12290)).answer.number) 0
    ∷ asks_rows (words 12291) 7 (words 12291) ∷ asks 8 0 64
    ∷ word= 1 1 ∷ asks_rows (8 ∷ 7 ∷ 9 ∷ 24 ∷ []) 1 (8 ∷ 7 ∷ 9 ∷ 24 ∷ []) ∷ []

abbrev pub batches : List (List Line)
batches =
    one_statement ∷ refusals_inside ∷ damage_inside ∷ shape_once ∷ up_to_most ∷ as_numbers ∷ []

-- the table holds of a fresh heap over these three buffers
abbrev pub Holds : List ℕ → List ℕ → List ℕ → Type 0
Holds m b k = T (every batches (fresh 1 2 0 m b k))

-- every row, whatever memory, books and map of the right lengths held before format
pub batches_hold : (m b k : List ℕ)
    → length m ≡ memory_length 1 2 → length b ≡ books_length 1 2 → length k ≡ map_length 1 2
    → Holds m b k
unfolding every
batches_hold =
    each_three Holds (memory_length 1 2) (books_length 1 2) (map_length 1 2) (λ f g k. tt)
