-- `heap::stand_in` meets its contract: it hands on the phrase as it was lent, or the part from the offset on, which a
-- live offset has inside memory.
use Rattle.std.proofs.Common.{◌≡◌, refl, arith}
use Rattle.books.specs.Refusals.{number_of, number_low}
use Rattle.heap.specs.StandIn.{phrase_stands_in, phrase_lies, own_stands_in, own_lies}
use Rattle.heap.proofs.stand_in.Goals as goal

pub returns-in_default : goal.returns-in_default
returns-in_default c =
    let tested = c.in_default.ensures.number in
    let refused : number_of c.in_default.field-0 ≡ 0 → ⊥ = λ z. absurd (omega (arith, number_low c.in_default.field-0, z)) in
    record { what = phrase_stands_in _ _ _ tested refused _; wherever = phrase_lies _ _ _ tested refused _ _ }

pub overflow_add-end : goal.overflow_add-end
overflow_add-end c =
    let t = c.in-Ok.ensures.block in omega (arith, t.found.size, t.found.live.ends, t.shaped.all, t.shaped.memory)

pub slice_bounds-result-end : goal.slice_bounds-result-end
slice_bounds-result-end c =
    let t = c.in-Ok.ensures.block in omega (arith, t.found.size, t.found.live.ends, t.shaped.memory)

pub returns : goal.returns
returns c =
    let tested = c.in-Ok.ensures.number in record {
      what = own_stands_in _ _ _ tested refl _ _ c.in-Ok.ensures.block.found.size;
      wherever = own_lies _ _ _ tested refl _ _;
    }
