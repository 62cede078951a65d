-- `loops::count_blocks` counts two words for each live block: the sum of those of each map word, twice.
use Rattle.std.proofs.Common.{rules, ◌≡◌, ◌*◌, ◌+◌, ◌/◌, ℕ, length, ◌∙◌, ap, arith}
use Rattle.std.specs.Int.Count.{ones_in}
use Rattle.std.proofs.lemmas.List.FromFn.{length-range_with_len}
use Rattle.std.proofs.lemmas.Iterator.{YieldsList-from_range, YieldsList-from_map}
use Rattle.std.proofs.lemmas.Iterator.Adapters.{fits_from_length, at_most_from_yields_List, total_from_yields_List}
use borrow.Author.Tests.{tests}
use Rattle.rules.specs.Books.{at, offset_of}
use Rattle.rules.specs.Blocks.{start_of, capacity}
use Rattle.rules.specs.View.{roll_blocks}
use Rattle.bits.specs.Halves.{few_ones}
use Rattle.books.specs.Starts.{capacity_le}
use Rattle.loops.specs.Left.{together}
use Rattle.loops.specs.Word.{in_word, length_word, word_parts}
use Rattle.loops.specs.Roll.{length_blocks}
use Rattle.loops.proofs.count_blocks.Goals.{After-sum-live}
use Rattle.loops.proofs.count_blocks.Goals as goal

pub sum-live-requires-clause-fits : goal.sum-live-requires-clause-fits
sum-live-requires-clause-fits c =
    let a = c.args in
    let n = c.div_ceil.result in
    let most = capacity_le a.size (omega arith) in
    let words = YieldsList-from_range 0 n n c.map.ensures.source (omega arith) in
    fits_from_length _ _ 8 _ (at_most_from_yields_List words (omega (arith, length-range_with_len 0 n, most)))
    c.map.ensures.closure (omega arith)
    (λ i r q k. let few = few_ones (in_word (capacity a.size) i) (at a.map.now (8 * a.pool + i)) in search (rules, tests))

-- the words are two for each live block
counted : (c : After-sum-live)
    → let a = c.args in
    2 * c.sum-live.result ≡ length (roll_blocks a.map.now a.pool a.size 0 (capacity a.size))
counted c =
    let a = c.args in
    let n = c.div_ceil.result in
    let live = λ (i : ℕ). ones_in (in_word (capacity a.size) i) (at a.map.now (8 * a.pool + i)) in
    let words = YieldsList-from_range 0 n n c.map.ensures.source (omega arith) in
    let rounded : n ≡ (capacity a.size + 63) / 64 = omega arith in
    ap (λ (x : ℕ). 2 * x)
    (total_from_yields_List (λ x y. x + y) 0 c.sum-live.result c.sum-live.ensures.ran
    (YieldsList-from_map _ live words c.map.ensures.closure (λ i r q k. search rules)))
    ∙ rw rounded (together (word_parts a.map.now a.pool a.size (capacity a.size)) 2 live
    (λ i l. length_word (at a.map.now (8 * a.pool + i)) (offset_of a.pool (start_of a.size (64 * i))) a.size (in_word (capacity a.size) i)))

pub overflow_mul-result : goal.overflow_mul-result
overflow_mul-result c =
    let a = c.args in
    omega (arith, counted c, length_blocks a.map.now a.pool a.size 0 (capacity a.size), capacity_le a.size (omega arith))

pub returns : goal.returns
returns c = counted c
