-- `audit::survey::Survey::rule_6` makes the tests of `rule6`: those of the pools' lists by the heads that the survey
-- found.
use Rattle.std.proofs.Common.{refl, Bool, ℕ, ◌∙◌, arith, rules, tests, true, false}
use Rattle.std.proofs.lemmas.List.{get_or-replicate}
use Rattle.rules.specs.Say.{all_below}
use Rattle.rules.specs.Books.{usable_head, unused_head, class_head, arena_word, freed_head}
use Rattle.rules.specs.Audit.{freed_list, usable_member, unused_member, arena_list, rule6}
use Rattle.audit.specs.Lists.{list_holds, freed_are, classes_are, all_parts}
use Rattle.audit.proofs.Ranges.{all_is}
use Rattle.audit.proofs.survey.Survey.rule_6.Goals as goal

pub tally-requires : goal.tally-requires
tally-requires c = (omega (arith, c.args.self.now.surveyed.homes_long), omega arith, λ h l. get_or-replicate 256 h 0 0 l)

pub returns : goal.returns
unfolding rule6
returns c =
    let v = c.args.self.now in
    let h = v.heap in
    let b = h.books.now in
    let freed : ℕ → Bool = λ a. list_holds c.pool_links.result b v.homes.now false (arena_word freed_head a) in
    let listed : ℕ → Bool = λ k. list_holds c.pool_links.result b v.homes.now true (class_head k) in
    all_parts (all_below (freed_list h.shape.arenas h.shape.pools b h.map.now) h.shape.arenas)
    (arena_list h.shape.arenas b (usable_member b) usable_head) (arena_list h.shape.arenas b (unused_member b) unused_head)
    (all_is freed h.shape.arenas refl c.all.ensures.ran (λ x b q k. search (rules, tests)) ∙ rw c.pool_links.ensures (freed_are v.surveyed))
    c.arena_lists.ensures
    (all_is listed 64 refl c.all-2.ensures.ran (λ x b q k. search (rules, tests)) ∙ rw c.pool_links.ensures (classes_are v.surveyed))
    c.pools_keep_6.ensures
    c.arenas_keep_6.ensures
