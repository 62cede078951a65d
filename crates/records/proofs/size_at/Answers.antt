-- `records::size_at` reads the class of the offset's pool by the books' own A, and goes by their own edition.
use mathlib.Core.Path.{ap, ap₂, ◌∙◌}
use Prim.Native.Nat.{ℕ, ◌/◌, ◌%◌}
use Rattle.rules.specs.Books.{alignment_of, class, pool}
use Rattle.rules.specs.Blocks.{size_of}
use Rattle.records.proofs.size_at.Goals as goal

pub returns : goal.returns
returns c =
    let a = c.args in
    ap (λ (x : ℕ). x % 4294967296)
    (c.size_of.ensures.0
    ∙ ap₂ (λ (x y : ℕ). size_of (alignment_of x) y) c.word_or_none-edition.ensures.0
    (c.word_or_none-class.ensures.0
    ∙ ap₂ (λ (x y : ℕ). pool x a.books.now class (y / 4096)) c.word_or_none-arenas.ensures.0 c.index-pool.ensures.0))
