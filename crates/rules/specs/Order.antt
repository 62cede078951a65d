-- 02, W-203, the order of the usable arenas: the walk past none, one and two, from and to each place of the list, and
-- on damaged books each of its rules from both sides, with readings R38 to R44 of docs/DECISIONS.md. One table under
-- one statement.
-- Assumes nothing.
use Rattle.std.specs.Prelude.{◌≡◌, List, [], ◌∷◌, ℕ, ◌+◌, ◌*◌, T, length}
use Rattle.rules.specs.Books.{
  Heap,
  memory_length,
  books_length,
  map_length,
  usable_head,
  open_word,
  free_pools,
  arena_next,
  arena_previous,
  arena_word,
}
use Rattle.rules.specs.Say.{◌▷◌}
use Rattle.rules.specs.Numbers.{ask, give_back}
use Rattle.rules.specs.Lines.{Line, asks, gives, has, word, word=, word?, every, fresh}
use Rattle.rules.specs.Whole.{tab, each_three}

-- Three arenas of three pools: pool n is in arena n div 3 and starts at 4,096n; a link is at most 3.

-- ---- arena n's free pools, next and previous become .., are ..
abbrev free= : ℕ → ℕ → Line
free= n v = word= (arena_word free_pools n) v

abbrev next= : ℕ → ℕ → Line
next= n v = word= (arena_word arena_next n) v

abbrev previous= : ℕ → ℕ → Line
previous= n v = word= (arena_word arena_previous n) v

abbrev free? : ℕ → ℕ → Line
free? n v = word? (arena_word free_pools n) v

-- (as one number; no link here is as large as 1,000)
abbrev links? : ℕ → ℕ → ℕ → Line
links? n next previous =
    has (λ h. 1000 * word (arena_word arena_next n) h + word (arena_word arena_previous n) h) (1000 * next + previous)

-- ---- the heap that each row begins with: nine pools of nine classes, of which each arena has got one back. The usable
-- list is 2, 1, 0, with one free pool each; so 4,144, 16,432 and 28,720 are the second that arenas 0, 1 and 2 get back
abbrev asked : ℕ → Heap → Heap
asked n h = (ask h n).heap

abbrev given : ℕ → Heap → Heap
given o h = (give_back h o).heap

abbrev pub ones : ℕ → List ℕ → List ℕ → List ℕ → Heap
ones e m b k =
    fresh 3 3 e m b k
    ▷ asked 16 ▷ asked 32 ▷ asked 48 ▷ asked 64 ▷ asked 80 ▷ asked 96
    ▷ asked 112 ▷ asked 128 ▷ asked 144 ▷ given 48 ▷ given 12336 ▷ given 24624

-- ==== "it moves back past following arenas as long as they have fewer free pools than it now has"
-- the last arena has none to pass: nothing of the list is written, and own previous is not read
abbrev passes_none : List Line
passes_none =
    previous= 0 99 ∷ gives 4144 0 4144
    ∷ free? 0 2 ∷ word? usable_head 3 ∷ links? 0 0 99 ∷ links? 1 1 3 ∷ links? 2 2 0 ∷ []

-- equals are not passed, by the arena in the middle and by the one at the front
abbrev passes_no_equal : List Line
passes_no_equal =
    gives 4144 0 4144 ∷ previous= 1 99 ∷ gives 16432 0 16432 ∷ links? 0 0 2 ∷ links? 1 1 99 ∷ links? 2 2 0
    ∷ previous= 2 99 ∷ gives 28720 0 28720
    ∷ word? usable_head 3 ∷ links? 0 0 2 ∷ links? 1 1 99 ∷ links? 2 2 99 ∷ []

-- "otherwise it leaves the list and goes in after the last passed": from the front past one, and so between two; an ask
-- takes a pool of the new front
abbrev passes_one : List Line
passes_one =
    gives 4144 0 4144 ∷ gives 28720 0 28720
    ∷ free? 2 2 ∷ word? usable_head 2 ∷ links? 1 3 0 ∷ links? 2 1 2 ∷ links? 0 0 3 ∷ asks 160 0 12336 ∷ []

-- from the middle past one, to the end; the block is dead then
abbrev passes_last : List Line
passes_last =
    gives 16432 0 16432 ∷ word? usable_head 3 ∷ links? 2 1 0
    ∷ links? 0 2 3 ∷ links? 1 0 1 ∷ gives 16432 10 0 ∷ []

-- from the front past two, to the end
abbrev passes_two : List Line
passes_two =
    gives 28720 0 28720 ∷ word? usable_head 2 ∷ links? 1 1 0 ∷ links? 0 3 2 ∷ links? 2 0 1 ∷ []

-- ==== the walk on damaged books
-- R38: own next is read even where none is passed. A passed arena's next is read too; a link may be A
abbrev walk_next : List Line
walk_next =
    next= 0 4 ∷ gives 4144 6 0 ∷ gives 16432 6 0 ∷ gives 28720 6 0
    ∷ next= 0 3 ∷ free= 2 2 ∷ gives 4144 0 4144 ∷ links? 0 3 2 ∷ []

-- R39: own previous is read only where one is passed, and may be A
abbrev walk_previous : List Line
walk_previous =
    previous= 1 4 ∷ gives 16432 6 0 ∷ free= 0 2 ∷ gives 16432 0 16432 ∷ links? 1 1 4
    ∷ previous= 2 3 ∷ free= 1 0 ∷ gives 28720 0 28720 ∷ []

-- R40: a follower's free pools have no rule of 6
abbrev walk_free_pools : List Line
walk_free_pools =
    free= 1 4294967295 ∷ gives 28720 0 28720 ∷ word? usable_head 3 ∷ links? 2 2 0
    ∷ free= 0 0 ∷ free= 1 1 ∷ gives 16432 0 16432 ∷ links? 1 0 1 ∷ []

-- R44: nor are they asked whether they are open
abbrev walk_open : List Line
walk_open = word= (arena_word open_word 0) 0 ∷ gives 16432 0 16432 ∷ links? 1 0 1 ∷ links? 0 2 3 ∷ []

-- R43: "a walk longer than A arenas is a 6": the followers go in a circle, of one and of two
abbrev walk_circle : List Line
walk_circle = next= 1 2 ∷ gives 28720 6 0 ∷ next= 1 1 ∷ next= 0 2 ∷ gives 28720 6 0 ∷ []

-- R41: free pools has risen when the walk begins, so that it ends where it comes back to the arena itself. "own links
-- first": then the arena's previous becomes the arena
abbrev walk_itself : List Line
walk_itself = next= 1 3 ∷ gives 28720 0 28720 ∷ word? usable_head 2 ∷ links? 1 3 0 ∷ links? 2 3 3 ∷ []

-- R42: the arena's next becomes what the passed one's next is once the arena has left; here its previous is the passed
-- one
abbrev walk_left : List Line
walk_left =
    gives 4144 0 4144 ∷ previous= 2 2 ∷ gives 28720 0 28720
    ∷ links? 1 3 3 ∷ links? 2 2 2 ∷ links? 0 0 2 ∷ []

-- ---- the list of rows
abbrev pub order : List (List Line)
order =
    passes_none ∷ passes_no_equal ∷ passes_one ∷ passes_last ∷ passes_two
    ∷ walk_next ∷ walk_previous ∷ walk_free_pools ∷ walk_open ∷ walk_circle ∷ walk_itself ∷ walk_left ∷ []

-- the table holds of such a heap over these three buffers, of edition eight; and of edition sixteen
abbrev Holds : List ℕ → List ℕ → List ℕ → Type 0
Holds m b k = T (every order (ones 0 m b k))

abbrev pub InBoth : List ℕ → List ℕ → List ℕ → Type 0
InBoth m b k = Holds m b k × T (every order (ones 1 m b k))

-- every row in both editions, whatever memory, books and map of the right lengths held before format
pub order_holds : (m b k : List ℕ)
    → length m ≡ memory_length 3 3 → length b ≡ books_length 3 3 → length k ≡ map_length 3 3
    → InBoth m b k
unfolding every
order_holds =
    each_three InBoth (memory_length 3 3) (books_length 3 3) (map_length 3 3) (λ f g k. (tt, tt))
