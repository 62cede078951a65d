-- `steps::give_back::take_back` meets its contract: it stores the changed record, which writes freeblock and count
-- and nothing else.
use mathlib.Core.Path.{◌≡◌, ap, ap₂, ◌∙◌}
use Prim.Native.Nat.{ℕ, ◌/◌, ◌%◌}
use native.Mathlib.Omega.{arith}
use Rattle.rules.specs.Blocks.{put_link}
use Rattle.rules.specs.Books.{put_map_bit, offset_of}
use Rattle.books.specs.Records.{put_pool, given, give_stored}
use Rattle.books.specs.declared.pool.Pool.{Pool}
use Rattle.steps.specs.Backs.{heap_is}
use Rattle.steps.proofs.give_back.take_back.Goals as goal

pub returns : goal.returns
returns c =
    let a = c.args in
    let p = a.offset / 4096 in
    let f = a.offset % 4096 in
    let place : a.offset ≡ offset_of p f = omega arith in
    heap_is
    (c.put_link.ensures ∙ ap₂ (λ (o : ℕ) (q : Pool). put_link o q.freeblock a.memory.now) place c.requires.1.loaded)
    (c.store_pool.ensures
    ∙ ap (λ (q : Pool). put_pool a.shape.arenas p q a.books.now)
    (c.give.ensures ∙ ap (λ (q : Pool). given q f) c.requires.1.loaded)
    ∙ give_stored a.shape.arenas p a.books.now f)
    (c.clear_bit.ensures ∙ ap (λ (k : ℕ). put_map_bit p k 0 a.map.now) c.requires.1.number)
