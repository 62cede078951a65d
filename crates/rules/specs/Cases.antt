-- 01, "Cases on each side": K1 to K10, one table under one statement.
-- Assumes nothing.
use Rattle.std.specs.Prelude.{◌≡◌, List, [], ◌∷◌, ℕ, T, length}
use Rattle.rules.specs.Books.{
  memory_length,
  books_length,
  map_length,
  pool_word,
  freeblock,
  nextoffset,
  maxnextoffset,
}
use Rattle.rules.specs.Lines.{Line, asks, gives, resizes, has, word, every, fresh}
use Rattle.rules.specs.Whole.{tab, each_three}

-- a word of pool 0's record, in books of one arena
abbrev pool0 : ℕ → ℕ
pool0 w = pool_word 1 w 0

-- one arena, P = 16, edition eight
abbrev pub cases : List (List Line)
cases =
    -- K1: "ask 1 gives 48; pool 0 then has freeblock 56, nextoffset 64, maxnextoffset 4,088"
    (asks 1 0 48 ∷ has (word (pool0 freeblock)) 56 ∷ has (word (pool0 nextoffset)) 64
    ∷ has (word (pool0 maxnextoffset)) 4088 ∷ [])
    -- K2: "ask 1, ask 8: 48, 56; freeblock 64, nextoffset 72"
    ∷ (asks 1 0 48 ∷ asks 8 0 56 ∷ has (word (pool0 freeblock)) 64 ∷ has (word (pool0 nextoffset)) 72 ∷ [])
    -- K3: "ask 1, ask 1, give back 48, ask 8: the last gives 48"
    ∷ (asks 1 0 48 ∷ asks 1 0 56 ∷ gives 48 0 48 ∷ asks 8 0 48 ∷ [])
    -- K4: "ask 8, ask 9: 48 and 4,144"
    ∷ (asks 8 0 48 ∷ asks 9 0 4144 ∷ [])
    -- K5: "ask 1, ask 1, ask 9, give back 48, give back 56, ask 8: the last gives 56"
    ∷ (asks 1 0 48 ∷ asks 1 0 56 ∷ asks 9 0 4144 ∷ gives 48 0 48 ∷ gives 56 0 56 ∷ asks 8 0 56 ∷ [])
    -- K6: "ask 1, ask 9, give back 48, ask 17: the last gives 48"
    ∷ (asks 1 0 48 ∷ asks 9 0 4144 ∷ gives 48 0 48 ∷ asks 17 0 48 ∷ [])
    -- K7: "ask 0 and ask 513 are 3; ask 512 gives 48, maxnextoffset 3,584"
    ∷ (asks 0 3 0 ∷ asks 513 3 0 ∷ asks 512 0 48 ∷ has (word (pool0 maxnextoffset)) 3584 ∷ [])
    -- K8: "ask 100 (block 104), resize to 79 keeps 48; resize to 78 gives 4,144"
    ∷ (asks 100 0 48 ∷ resizes 48 79 0 48 ∷ resizes 48 78 0 4144 ∷ [])
    -- K9: "ask 8, resize to 6 gives 56, resize to 7 then keeps 56"
    ∷ (asks 8 0 48 ∷ resizes 48 6 0 56 ∷ resizes 56 7 0 56 ∷ [])
    -- K10: "ask 1, give back 52, 0 and 65,536: each 5; give back 48 done, again 5"
    ∷ (asks 1 0 48 ∷ gives 52 5 0 ∷ gives 0 5 0 ∷ gives 65536 5 0 ∷ gives 48 0 48 ∷ gives 48 5 0 ∷ [])
    ∷ []

-- the table holds of a fresh heap over these three buffers
abbrev pub Holds : List ℕ → List ℕ → List ℕ → Type 0
Holds m b k = T (every cases (fresh 1 16 0 m b k))

-- K1 to K10, whatever memory, books and map of the right lengths held before format
pub cases_hold : (m b k : List ℕ)
    → length m ≡ memory_length 1 16 → length b ≡ books_length 1 16 → length k ≡ map_length 1 16
    → Holds m b k
unfolding every
cases_hold =
    each_three Holds (memory_length 1 16) (books_length 1 16) (map_length 1 16) (λ f g k. tt)
