-- 01, "View", "Write" and "Roll call": what they hand back, copy and list, of a heap whose tests are passed.
-- Assumes nothing.
use Rattle.std.specs.Prelude.{List, [], ◌∷◌, ◌++◌, ℕ, zero, suc, ◌*◌, leb, take, drop, if◌then◌else◌}
use Rattle.std.proofs.lemmas.List.Edits.{sets}
use Rattle.rules.specs.Books.{Heap, on_memory, is_set, class, pool, offset_of}
use Rattle.rules.specs.Blocks.{size_of, last_class, start_of, capacity}

-- "View hands back the block's own part of memory, the whole block": of size s, at o
abbrev pub part : ℕ → ℕ → List ℕ → List ℕ
part o s m = take s (drop o m)

-- "Write copies a lent text to the start of a block; the rest of the block stays."
abbrev pub copy_text : ℕ → List ℕ → Heap → Heap
copy_text o text = on_memory (λ m. sets m o text)

-- ---- "offset and block size of each live block .. by rising offset"
-- among the n blocks of pool p from block k on, of size s
unfoldable pub roll_blocks : List ℕ → ℕ → ℕ → ℕ → ℕ → List ℕ
roll_blocks m p s k zero = []
roll_blocks m p s k (suc n) =
    (if is_set m p k then offset_of p (start_of s k) ∷ s ∷ [] else []) ++ roll_blocks m p s (suc k) n

-- of pool p, where its class is one: at most 63, or 31 in edition sixteen
unfoldable pub roll_pool : ℕ → ℕ → List ℕ → List ℕ → ℕ → List ℕ
roll_pool al A b m p =
    let c = pool A b class p in
    if leb c (last_class al) then roll_blocks m p (size_of al c) 0 (capacity (size_of al c)) else []

-- of the n pools from pool p on
unfoldable pub roll_pools : ℕ → ℕ → List ℕ → List ℕ → ℕ → ℕ → List ℕ
roll_pools al A b m p zero = []
roll_pools al A b m p (suc n) = roll_pool al A b m p ++ roll_pools al A b m (suc p) n

abbrev pub roll : ℕ → ℕ → ℕ → List ℕ → List ℕ → List ℕ
roll al A P b m = roll_pools al A b m 0 (A * P)
