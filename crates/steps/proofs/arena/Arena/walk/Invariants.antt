-- `steps::arena::Arena::walk` is the rules' walk: at each turn the walk that is left is the one that was to be made.
use Rattle.std.proofs.Common.{◌≡◌, ◌-◌}
use Rattle.rules.specs.Books.{arena_next, arena}
use Rattle.rules.specs.GiveBack.{walk}
use Rattle.steps.specs.Arenas.{link_in}
use Rattle.steps.proofs.arena.Arena.walk.Given as goal

abbrev pub invariant-loop : goal.invariant-loop
invariant-loop l =
    let s = l.self in
    let most = s.shape.arenas in
    walk most s.books.now s.number most (arena s.books.now arena_next s.number) 0
    ≡ walk most s.books.now s.number (most - l.counter) l.next (link_in l.last)
