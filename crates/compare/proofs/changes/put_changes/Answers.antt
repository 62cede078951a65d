-- `compare::changes::put_changes` stores the changes in turn: at turn c those from class c on are to be stored.
use Rattle.std.proofs.Common.{◌≡◌, ℤ, suc, ◌+◌, sym, ap, ◌∙◌, arith, to_z, of_z, w32}
use mir.Facts.{to_z-of_z}
use Rattle.std.proofs.lemmas.List.Edits.{sets}
use Rattle.rules.specs.Books.{at}
use Rattle.compare.specs.Changes.{change_fits, change_next, changes_end}
use Rattle.compare.proofs.changes.put_changes.Goals as goal

pub loop-c-preserved : goal.loop-c-preserved
loop-c-preserved c =
    let a = c.args in
    let x = c.loop-c in
    let fits = change_fits (at a.counts.now x.c) (at a.counts2.now x.c) (c.requires.2 x.c (omega arith)) (c.requires.3 x.c (omega arith)) in
    let stored = ap (λ (d : ℤ). to_z w32 (of_z w32 d)) c.change.ensures ∙ to_z-of_z fits in
    let next : x.c + 1 ≡ suc x.c = omega arith in
    rw (stored, next) (sym (ap (sets x.changes x.c) (change_next a.counts.now a.counts2.now x.c a.n (omega arith))) ∙ x.invariant)

pub returns : goal.returns
returns c =
    let a = c.args in
    let x = c.loop-c in
    sym (ap (sets x.changes x.c) (changes_end a.counts.now a.counts2.now x.c a.n (omega arith))) ∙ x.invariant
