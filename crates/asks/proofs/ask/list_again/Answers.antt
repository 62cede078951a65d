-- `asks::ask::list_again` writes the class head, and stores the record loaded after it, which writes
-- `alone` and freeblock.
use mathlib.Core.Path.{refl, ap}
use mathlib.Core.List.{List}
use Prim.Native.Nat.{ℕ}
use Rattle.rules.specs.Books.{put, class_head, link_to}
use Rattle.rules.specs.Outcome.{heap_of}
use Rattle.books.specs.Records.{again_stored}
use Rattle.asks.proofs.ask.list_again.Goals as goal

pub returns : goal.returns
returns c al P =
    let a = c.args in
    let b = put (class_head a.class.number) (link_to a.p) a.books.now in
    record {
      same = λ m k. simp (
        c.store_pool.ensures,
        c.again.ensures,
        c.load_pool-pool.ensures,
        c.link_to.ensures,
      )
          (ap (λ (x : List ℕ). heap_of m x k) (again_stored a.arenas a.p b b a.l (λ _. refl)));
    }
