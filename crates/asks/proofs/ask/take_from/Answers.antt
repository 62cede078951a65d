-- `asks::ask::take_from` writes what its source's arm of `take_from` writes; an arena that was just opened has
-- the mark 0.
use mathlib.Core.Path.{◌≡◌, ◌∙◌, refl, ap, subst}
use mathlib.Core.List.{[]}
use native.Mathlib.Omega.{arith}
use Rattle.rules.specs.declared.Source.{Source}
use Rattle.rules.specs.Books.{carve_mark, arena, Heap}
use Rattle.rules.specs.Ask.{take_from}
use Rattle.plans.specs.Fits.{FitsSource}
use Rattle.asks.specs.HandOut.{chain, opened_mark}
use Rattle.asks.proofs.ask.take_from.Goals.{Start}
use Rattle.asks.proofs.ask.take_from.Goals as goal

-- what the path knows of the source, by its form; `rw .. at` would rewrite the source all over the start
known : (c : Start) (s : Source) → c.args.source ≡ s
    → let a = c.args in
    FitsSource a.shape.arenas a.shape.pools a.books.now s a.p
known c s e =
    let a = c.args in
    subst (λ (x : Source). FitsSource a.shape.arenas a.shape.pools a.books.now x a.p) e c.requires.4

pub returns-in-Freed : goal.returns-in-Freed
unfolding take_from
returns-in-Freed c al class =
    rw c.in-Freed.is (refl, c.take_freed.ensures)

pub returns-in-Carved : goal.returns-in-Carved
unfolding take_from
returns-in-Carved c al class =
    rw c.in-Carved.is (refl, c.carve.ensures al c.args.shape.pools class)

pub carve-requires-in-Opened : goal.carve-requires-in-Opened
carve-requires-in-Opened c =
    let fits = known (goal.at.carve-requires-in-Opened c).Start _ c.in-Opened.is in
    let a = c.in-Opened.a in
    let mark = ap (λ (h : Heap). arena h.books carve_mark a) (c.open_arena.ensures.same [] [])
    ∙ opened_mark c.args.shape.pools a c.args.books.now [] [] (omega arith) in
    omega arith

pub returns-in-Opened : goal.returns-in-Opened
unfolding take_from
returns-in-Opened c al class =
    rw c.in-Opened.is
    (refl, chain c.open_arena.ensures (c.carve-in-Opened.ensures al c.args.shape.pools class))
