-- `asks::ask::list_anew` writes the class head, and stores the record loaded after it, which writes
-- `alone` and what the class sets.
use mathlib.Core.Path.{refl, ap}
use mathlib.Core.List.{List}
use Prim.Native.Nat.{ℕ}
use Rattle.rules.specs.Books.{put, class_head, link_to}
use Rattle.rules.specs.Outcome.{heap_of}
use Rattle.books.specs.Records.{anew_stored}
use Rattle.asks.proofs.ask.list_anew.Goals as goal

pub returns : goal.returns
returns c al P =
    let a = c.args in
    let b = put (class_head a.class.number) (link_to a.p) a.books.now in
    record {
      same = λ m k. simp (
        c.store_pool.ensures,
        c.anew.ensures,
        c.load_pool-pool.ensures,
        c.link_to.ensures,
      )
          (ap (λ (x : List ℕ). heap_of m x k) (anew_stored a.arenas a.p b b a.class.number a.class.size refl));
    }
