-- The kind of an offset, by where it is live: in a pool whose blocks have one size in both heaps, or another in each.
-- Assumes nothing.
use Rattle.std.specs.Prelude.{◌≡◌, refl, Bool, true, false, not, ◌&&◌, List, [], ◌∷◌, ℕ, ◌%◌, eqb, Option, Some, None, if◌then◌else◌}
use Rattle.rules.specs.Books.{bit, is_set}
use Rattle.rules.specs.Blocks.{is_start, block_no}
use Rattle.rules.specs.Compare.{same_bytes}
use Rattle.compare.specs.declared.blocks.Kind.{Kind}
use Rattle.compare.specs.declared.blocks.Kind.TheVariants.{FirstAlone, SecondAlone, OtherSize, OtherBytes}

-- the number of a kind, and 0 where there is none
abbrev pub kind_number : Option Kind → ℕ
kind_number None = 0
kind_number (Some FirstAlone) = 1
kind_number (Some SecondAlone) = 2
kind_number (Some OtherSize) = 3
kind_number (Some OtherBytes) = 4

-- bit j of a word is set
abbrev pub is_bit : ℕ → ℕ → Bool
is_bit w j = eqb (bit w j) 1

-- the entry of offset o, if it has a kind
abbrev pub entry_of : ℕ → ℕ → List ℕ
entry_of o kind = if eqb kind 0 then [] else (o ∷ kind ∷ [])

-- a live block of size s starts at o in pool p
unfoldable pub live_in : ℕ → List ℕ → ℕ → ℕ → Bool
live_in s map p o = is_start s o && is_set map p (block_no s o)

-- by the heaps that have a live block there, where it is `inBoth` if both have
abbrev pub by_side : Bool → Bool → ℕ → ℕ
by_side inFirst inSecond inBoth =
    if inFirst
    then (if inSecond then inBoth else 1)
    else (if inSecond then 2 else 0)

pub by_side_same : (inFirst inSecond : Bool) (j k : ℕ) → (inFirst && inSecond ≡ true → j ≡ k)
    → by_side inFirst inSecond j ≡ by_side inFirst inSecond k
by_side_same true true j k e = e refl
by_side_same true false j k e = refl
by_side_same false inSecond j k e = refl

-- ---- of a block that has the size s in both heaps, if it is live in both
unfoldable pub together : List ℕ → List ℕ → Bool → Bool → ℕ → ℕ → ℕ
together m m' inFirst inSecond o s = by_side inFirst inSecond (if not (same_bytes m m' o s) then 4 else 0)

-- of the block at offset o of pool p, where the first has blocks there, and the second
abbrev pub together_at : List ℕ → List ℕ → List ℕ → List ℕ → Bool → Bool → ℕ → ℕ → ℕ → ℕ
together_at m m' map map' there there' p s o =
    let k = block_no s (o % 4096) in
    together m m' (there && is_set map p k) (there' && is_set map' p k) o s

-- ---- of an offset that has another size in each, if it is live in both
unfoldable pub apart : Bool → Bool → ℕ
apart inFirst inSecond = by_side inFirst inSecond 3

-- of offset o of pool p, whose blocks have the size s in the first heap and s' in the second
abbrev pub apart_at : List ℕ → List ℕ → ℕ → ℕ → ℕ → ℕ → ℕ
apart_at map map' s s' p o = apart (live_in s map p (o % 4096)) (live_in s' map' p (o % 4096))
