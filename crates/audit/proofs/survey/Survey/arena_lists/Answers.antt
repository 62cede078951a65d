-- `audit::survey::Survey::arena_lists` tests both lists by the heads that the arenas' homes are.
use Rattle.std.proofs.Common.{◌≡◌, length, ◌∙◌, ap₂, arith, rules, ◌&&◌}
use Rattle.std.proofs.lemmas.List.{get_or-replicate}
use Rattle.std.proofs.lemmas.Grind.{common_steps}
use Rattle.audit.specs.Lists.{usable_is, unused_is}
use Rattle.audit.proofs.survey.Survey.arena_lists.Goals as goal

pub tally-requires : goal.tally-requires
tally-requires c = (grind (arith, common_steps), omega arith, λ h l. get_or-replicate 256 h 0 0 l)

pub returns : goal.returns
returns c =
    let h = c.args.self.now.heap in
    let homes = c.find_arena_homes.new.homes in
    let all : length homes ≡ h.shape.arenas = c.find_arena_homes.auto.homes ∙ search rules in
    let b = h.books.now in
    ap₂ ◌&&◌ (c.holds.ensures ∙ usable_is h.shape.arenas b homes all c.find_arena_homes.ensures)
    (c.holds-2.ensures ∙ unused_is h.shape.arenas b homes all c.find_arena_homes.ensures)
