-- `heap::view` meets its contract: it is the stand-in of nothing, which is lent as the empty part at memory's start.
use mathlib.Core.List.{List}
use mathlib.Core.Path.{ap, ◌∙◌}
use Prim.Native.Nat.{ℕ}
use Rattle.rules.specs.Books.{Heap}
use Rattle.rules.specs.Outcome.{heap_of}
use Rattle.rules.specs.Promises.{◌beside◌}
use Rattle.heap.specs.StandIn.{nothing_stands_in, nothing_lies}
use Rattle.heap.proofs.view.Goals as goal

pub returns : goal.returns
returns c =
    let a = c.args in
    let h = heap_of a.memory.now a.books.now a.map.now in
    let place = c.stand_in.ensures.wherever ∙ nothing_lies h a.offset a.memory.ref_ptr in
    record {
      what = ap (λ (p : List ℕ). p beside h)
          (ap (λ (x : List ℕ × (List ℕ × Heap)). x.0) c.stand_in.ensures.what ∙ nothing_stands_in h a.offset);
      wherever = (ap (λ (x : ℕ × ℕ). x.0) place, ap (λ (x : ℕ × ℕ). x.1) place);
    }
