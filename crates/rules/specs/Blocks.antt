-- 01, "Classes and blocks", at the alignment al (8 in 01; 8 or 16 by W-211): classes, block starts, a freed block's
-- link, the live test; and 02's dead block (W-206).
-- Assumes nothing.
use Rattle.std.specs.Prelude.{Bool, ◌&&◌, List, ℕ, ◌+◌, ◌*◌, ◌-◌, ◌/◌, ◌%◌, leb, ltb, eqb, if◌then◌else◌}
use Rattle.rules.specs.Say.{◌▷◌}
use Rattle.rules.specs.Books.{at, put, memory_length, is_set, class, nextoffset, pool, carved}

-- "Size n from 1 to 512 has class (n − 1) div 8 and block size 8 × (class + 1)."
-- 02, W-211: "class (n − 1) div 16, block size 16 × (class + 1)"
abbrev pub largest : ℕ
largest = 512

abbrev pub class_of : ℕ → ℕ → ℕ
class_of al n = (n - 1) / al

abbrev pub size_of : ℕ → ℕ → ℕ
size_of al c = al * (c + 1)

-- the class of the largest size: 63; "Wherever 01 or a request says 63 it reads 31 here", at 16
abbrev pub last_class : ℕ → ℕ
last_class al = class_of al largest

-- "Blocks start at 48 + k × size inside a pool, and a start is at most 4,096 − size."
abbrev pub start_of : ℕ → ℕ → ℕ
start_of s k = 48 + k * s

abbrev pub last_start : ℕ → ℕ
last_start s = 4096 - s

-- o is the in-pool offset of a block of size s, and which block's
unfoldable pub is_start : ℕ → ℕ → Bool
is_start s o = leb 48 o && leb o (last_start s) && eqb ((o - 48) % s) 0

abbrev pub block_no : ℕ → ℕ → ℕ
block_no s o = (o - 48) / s

-- "So a pool holds 4,048 div size blocks"
abbrev pub capacity : ℕ → ℕ
capacity s = 4048 / s

-- "A freed block's first four bytes hold its link: .. low byte first": the number in the four bytes from o on
unfoldable pub link_at : List ℕ → ℕ → ℕ
link_at m o = at m o + 256 * at m (o + 1) + 65536 * at m (o + 2) + 16777216 * at m (o + 3)

unfoldable pub put_link : ℕ → ℕ → List ℕ → List ℕ
put_link o v m =
    m ▷ put o (v % 256) ▷ put (o + 1) (v / 256 % 256) ▷ put (o + 2) (v / 65536 % 256) ▷ put (o + 3) (v / 16777216 % 256)

-- ---- live
-- the class of the pool that offset o lies in, and the size of its blocks
abbrev pub class_at : ℕ → List ℕ → ℕ → ℕ
class_at A b o = pool A b class (o / 4096)

abbrev pub size_at : ℕ → ℕ → List ℕ → ℕ → ℕ
size_at al A b o = size_of al (class_at A b o)

-- "An offset is live if it lies in memory, its pool's class is at most 63, it is a block start of that class .."
abbrev pub at_start : ℕ → ℕ → ℕ → List ℕ → ℕ → Bool
at_start al A P b o =
    ltb o (memory_length A P)
    && leb (class_at A b o) (last_class al)
    && is_start (size_at al A b o) (o % 4096)

-- ".. and its map bit is set."
unfoldable pub live : ℕ → ℕ → ℕ → List ℕ → List ℕ → ℕ → Bool
live al A P b m o = at_start al A P b o && is_set m (o / 4096) (block_no (size_at al A b o) (o % 4096))

-- 02, W-206: "the offset is a block start, below nextoffset, of a carved pool of class at most 63"
unfoldable pub is_block : ℕ → ℕ → ℕ → List ℕ → ℕ → Bool
is_block al A P b o =
    at_start al A P b o
    && ltb (o % 4096) (pool A b nextoffset (o / 4096))
    && carved P b (o / 4096)

-- ---- the number of an offset, said here alone
-- of one that is not live: "10 where" that holds, "5 otherwise"
abbrev pub dead_number : ℕ → ℕ → ℕ → List ℕ → ℕ → ℕ
dead_number al A P b o = if is_block al A P b o then 10 else 5

unfoldable pub live_number : ℕ → ℕ → ℕ → List ℕ → List ℕ → ℕ → ℕ
live_number al A P b m o = if live al A P b m o then 0 else dead_number al A P b o
