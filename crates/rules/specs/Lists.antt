-- 01, "The steps": to leave a list and to join it at the front, said once for the pools' lists and the arenas'. With it
-- 02's going in after a member (W-203).
-- Assumes nothing.
use Rattle.std.specs.Prelude.{Bool, not, ◌&&◌, List, ℕ, ◌+◌, ◌*◌, leb, if◌then◌else◌}
use Rattle.rules.specs.Say.{◌▷◌, only}
use Rattle.rules.specs.Books.{
  Heap,
  at,
  put,
  on_books,
  class_head,
  arena_next,
  arena_word,
  pool_next,
  pool_word,
  none?,
  link_to,
  linked,
}

-- ---- member n's next and previous words, where member 0's next word is base:
-- records are eight words long, and previous comes after next
abbrev pub next_at : ℕ → ℕ → ℕ
next_at base n = base + 8 * n

abbrev pub previous_at : ℕ → ℕ → ℕ
previous_at base n = base + 8 * n + 1

-- "To leave a list: the previous member's next (the head, where there is none) becomes next; the next member's
-- previous, if any, becomes previous; then own next and previous become 0." Its own two words being given
unfoldable pub leave_by : ℕ → ℕ → ℕ → ℕ → ℕ → List ℕ → List ℕ
leave_by base head next previous n b =
    b
    ▷ put (if none? previous then head else next_at base (linked previous)) next
    ▷ only (not (none? next)) (put (previous_at base (linked next)) previous)
    ▷ put (next_at base n) 0
    ▷ put (previous_at base n) 0

-- "To join at the front: next is the old head, previous 0; the old head's previous and the head become this one."
-- 02, W-203: ".. goes in after the last passed, own links first". Its two words being given, and the place of the word
-- that leads to it: the head, or the next word of the member that it goes in after
unfoldable pub join_by : ℕ → ℕ → ℕ → ℕ → ℕ → List ℕ → List ℕ
join_by base place next previous n b =
    b
    ▷ put (next_at base n) next
    ▷ put (previous_at base n) previous
    ▷ only (not (none? next)) (put (previous_at base (linked next)) (link_to n))
    ▷ put place (link_to n)

-- ---- the same, the words being read from the books
abbrev pub leave : ℕ → ℕ → ℕ → List ℕ → List ℕ
leave base head n b = leave_by base head (at b (next_at base n)) (at b (previous_at base n)) n b

abbrev pub join : ℕ → ℕ → ℕ → List ℕ → List ℕ
join base head n b = join_by base head (at b head) 0 n b

-- n goes in after member q
abbrev pub go_in_after : ℕ → ℕ → ℕ → List ℕ → List ℕ
go_in_after base q n b = join_by base (next_at base q) (at b (next_at base q)) (link_to q) n b

-- ---- what they ask of the words they use, links being at most `most`:
-- leaving reads own next and previous, joining the old head. (Going in after a member reads its next, which the walk
-- has tested, or which leaving has made own next)
abbrev pub may_leave : ℕ → ℕ → ℕ → List ℕ → Bool
may_leave most base n b = leb (at b (next_at base n)) most && leb (at b (previous_at base n)) most

abbrev pub may_join : ℕ → ℕ → List ℕ → Bool
may_join most head b = leb (at b head) most

-- ---- the arenas' two lists, by their heads
abbrev pub arena_links : ℕ
arena_links = arena_word arena_next 0

abbrev pub arena_leaves : ℕ → ℕ → Heap → Heap
arena_leaves head a = on_books (leave arena_links head a)

abbrev pub arena_joins : ℕ → ℕ → Heap → Heap
arena_joins head a = on_books (join arena_links head a)

abbrev pub arena_goes_in_after : ℕ → ℕ → Heap → Heap
arena_goes_in_after q a = on_books (go_in_after arena_links q a)

-- ---- the class lists of books of A arenas
abbrev pub pool_links : ℕ → ℕ
pool_links A = pool_word A pool_next 0

abbrev pub pool_leaves : ℕ → ℕ → ℕ → Heap → Heap
pool_leaves A c n = on_books (leave (pool_links A) (class_head c) n)

abbrev pub pool_joins : ℕ → ℕ → ℕ → Heap → Heap
pool_joins A c n = on_books (join (pool_links A) (class_head c) n)
