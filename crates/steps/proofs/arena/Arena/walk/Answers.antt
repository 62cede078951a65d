-- `steps::arena::Arena::walk` is the rules' walk: at each turn the walk that is left is the one that was to be made.
use Rattle.std.proofs.Common.{◌≡◌, true, ℕ, ◌+◌, ◌-◌, ap₂, ◌∙◌, sym, arith, leb, le-leb}
use Rattle.std.proofs.lemmas.Bool.{lt-leb}
use Rattle.rules.specs.Books.{linked, arena_next, arena}
use Rattle.rules.specs.GiveBack.{walk}
use Rattle.steps.specs.Arenas.{walk_stuck, walk_ends, walk_far, walk_on, link_in}
use Rattle.steps.proofs.arena.Arena.walk.Goals.{After-passed}
use Rattle.steps.proofs.arena.Arena.walk.Goals as goal

-- a link that is looked at leads to an arena or to none
low : (c : After-passed) → leb c.loop.next c.args.self.now.shape.arenas ≡ true
low c = le-leb c.loop.next c.args.self.now.shape.arenas c.if-self-next.false

pub returns-then-self-next : goal.returns-then-self-next
returns-then-self-next c =
    let s = c.args.self.now in
    let far = lt-leb c.loop.next s.shape.arenas c.if-self-next.true in
    rw c.loop.invariant (sym (walk_stuck s.shape.arenas s.books.now s.number (s.shape.arenas - c.loop.counter) c.loop.next
    (link_in c.loop.last) far))

pub returns-in_default : goal.returns-in_default
returns-in_default c =
    let s = c.args.self.now in
    rw (
      c.loop.invariant,
      walk_ends s.shape.arenas s.books.now s.number (s.shape.arenas - c.loop.counter) c.loop.next
          (link_in c.loop.last) (low (goal.at.returns-in_default c).After-passed) c.in_default.ensures,
    ) c.goes_in.ensures

pub loop-preserved : goal.loop-preserved
loop-preserved c =
    let s = c.args.self.now in
    let here : linked c.loop.next ≡ c.in-Some.x = omega (arith, c.in-Some.ensures.1) in
    let less : s.shape.arenas - c.loop.counter - 1 ≡ s.shape.arenas - (c.loop.counter + 1) = omega arith in
    c.loop.invariant
    ∙ walk_on s.shape.arenas s.books.now s.number (s.shape.arenas - c.loop.counter) c.loop.next (link_in c.loop.last)
    (omega arith) (low (goal.at.loop-preserved c).After-passed) c.in-Some.ensures.0
    ∙ ap₂ (λ (more n : ℕ). walk s.shape.arenas s.books.now s.number more (arena s.books.now arena_next n) c.loop.next) less here
    ∙ ap₂ (λ (next last : ℕ). walk s.shape.arenas s.books.now s.number (s.shape.arenas - (c.loop.counter + 1)) next last)
    (sym c.arena_word-next-in-loop.ensures.0) c.in-Some.ensures.1

pub returns-in-Some : goal.returns-in-Some
returns-in-Some c =
    let s = c.args.self.now in
    rw c.loop.invariant (sym (walk_far s.shape.arenas s.books.now s.number (s.shape.arenas - c.loop.counter) c.loop.next
    (link_in c.loop.last) (omega arith) (low (goal.at.returns-in-Some c).After-passed) c.in-Some.ensures.0))
