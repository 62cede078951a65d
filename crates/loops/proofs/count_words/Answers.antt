-- `loops::count_words` counts the words of the roll: the sum of each pool's.
use Rattle.std.proofs.Common.{rules, ◌+◌, ℕ, length, ◌∙◌, arith}
use Rattle.std.proofs.lemmas.List.FromFn.{length-range_with_len}
use Rattle.std.proofs.lemmas.Iterator.{YieldsList-from_range, YieldsList-from_map}
use Rattle.std.proofs.lemmas.Iterator.Adapters.{fits_from_length, at_most_from_yields_List, total_from_yields_List}
use borrow.Author.Tests.{tests}
use Rattle.rules.specs.Books.{alignment_of}
use Rattle.rules.specs.View.{roll_pool}
use Rattle.books.specs.Sizes.{aligned}
use Rattle.loops.specs.Left.{together}
use Rattle.loops.specs.Roll.{roll_parts, length_pool}
use Rattle.loops.proofs.count_words.Goals as goal

pub sum-requires-clause-fits : goal.sum-requires-clause-fits
sum-requires-clause-fits c =
    let a = c.args in
    let s = a.shape in
    let pools = YieldsList-from_range 0 a.n a.n c.map.ensures.source (omega arith) in
    let most = length_pool (alignment_of s.edition) s.arenas a.books.now a.map.now (aligned s.edition).low in
    fits_from_length _ _ 1024 _ (at_most_from_yields_List pools (omega (arith, length-range_with_len 0 a.n, c.requires.few)))
    c.map.ensures.closure (omega arith) (λ p r q k. let few = most p in search (rules, tests))

pub returns : goal.returns
returns c =
    let a = c.args in
    let s = a.shape in
    let pools = YieldsList-from_range 0 a.n a.n c.map.ensures.source (omega arith) in
    let each = λ (p : ℕ). length (roll_pool (alignment_of s.edition) s.arenas a.books.now a.map.now p) in
    let words = together (roll_parts (alignment_of s.edition) s.arenas a.books.now a.map.now a.n) 1 each (λ p l. omega arith) in
    total_from_yields_List (λ x y. x + y) 0 c.sum.result c.sum.ensures.ran
    (YieldsList-from_map _ each pools c.map.ensures.closure (λ p r q k. search rules))
    ∙ omega (arith, words)
