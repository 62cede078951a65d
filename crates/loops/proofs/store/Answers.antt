-- `loops::store` stores the elements: at turn i the element at i, and in the end all.
use Rattle.std.proofs.Common.{rules, ◌≡◌, length, sym, arith}
use Rattle.std.proofs.lemmas.List.Edits.{paste_more, sets-eq}
use Rattle.std.proofs.Math.Seq.{take-length}
use Rattle.loops.proofs.store.Goals as goal

pub loop-i-preserved : goal.loop-i-preserved
loop-i-preserved g c = search (rules, paste_more)

pub returns : goal.returns
returns g c =
    let a = c.args in
    let all : c.loop-i.i ≡ length a.from.now = omega arith in
    rw (c.loop-i.invariant, all, take-length a.from.now) (sym (sets-eq a.from.now a.to.now a.at c.requires))
