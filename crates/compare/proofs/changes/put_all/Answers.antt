-- `compare::changes::put_all`: the counts of both heaps, which begin at 0, give the changes.
use Rattle.std.proofs.Common.{◌≡◌, ℕ, sym, ap, ◌∙◌, arith}
use Rattle.std.proofs.lemmas.List.{get_or-replicate}
use Rattle.std.proofs.lemmas.List.Edits.{sets}
use Rattle.rules.specs.Books.{alignment_of}
use Rattle.rules.specs.Blocks.{last_class}
use Rattle.books.specs.declared.words.Shape.{Shape}
use Rattle.books.specs.Readers.{alignment_in}
use Rattle.books.specs.Sizes.{aligned, class_low}
use Rattle.compare.specs.Changes.{Most, changes_of, total_none, counted_most, counts_give}
use Rattle.compare.proofs.changes.put_all.Goals.{After-classes}
use Rattle.compare.proofs.changes.put_all.Goals as goal

pub tally-requires : goal.tally-requires
tally-requires c k h =
    get_or-replicate 64 k 0 0 (class_low (aligned c.args.heaps.now.first.shape.edition) k h) ∙ sym (total_none _)

pub tally-requires-2 : goal.tally-requires-2
tally-requires-2 c k h =
    get_or-replicate 64 k 0 0 (class_low (aligned c.args.heaps.now.second.shape.edition) k h) ∙ sym (total_none _)

-- both counts are small
most : (c : After-classes) → let n = c.classes.result in Most n c.tally.new.counts × Most n c.tally-2.new.counts
most c =
    let f = c.args.heaps.now.first in
    let s = c.args.heaps.now.second in
    let last : last_class (alignment_in s) ≡ last_class (alignment_in f) =
    ap (λ (t : Shape). last_class (alignment_of t.edition)) c.args.heaps.now.one_shape in
    let m = counted_most (aligned f.shape.edition) f.shape.arenas f.books.now f.map.now _ _ f.shaped.all c.tally.ensures in
    let m' = counted_most (aligned s.shape.edition) s.shape.arenas s.books.now s.map.now _ _ s.shaped.all c.tally-2.ensures in
    (λ k h. m k (omega (arith, c.classes.ensures.0)), λ k h. m' k (omega (arith, last, c.classes.ensures.0)))

pub put_changes-requires : goal.put_changes-requires
put_changes-requires c =
    let m = most (goal.at.put_changes-requires c).After-classes in
    (c.classes.ensures.1, omega (arith, c.classes.ensures.0), m.0, m.1)

pub returns : goal.returns
returns c =
    let a = c.args in
    c.put_changes.ensures
    ∙ ap (λ (n : ℕ). sets a.changes.now 0 (changes_of c.tally.new.counts c.tally-2.new.counts 0 n)) c.classes.ensures.0
    ∙ ap (sets a.changes.now 0) (counts_give a.heaps.now _ _ c.tally.ensures c.tally-2.ensures)
