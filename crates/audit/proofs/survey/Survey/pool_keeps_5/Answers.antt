-- `audit::survey::Survey::pool_keeps_5` makes the test of `pool_keeps5`: a pool with no set bit has none where there is
-- no block.
use Rattle.std.proofs.Common.{sym, ap, ◌∙◌}
use Rattle.rules.specs.Audit.{blocks_of, bits_below}
use Rattle.audit.specs.Survey.{alignment_in}
use Rattle.audit.specs.Divided.{none_stray, some_stray, at_blocks}
use Rattle.audit.proofs.survey.Survey.pool_keeps_5.Goals as goal

pub returns-then-self-n-eq0 : goal.returns-then-self-n-eq0
returns-then-self-n-eq0 c =
    sym (none_stray _ _ _ _ _ _ (sym (c.args.self.now.surveyed.counted c.args.n c.requires) ∙ c.if-self-n-eq0.true))

pub returns-then-not-is_carved : goal.returns-then-not-is_carved
returns-then-not-is_carved c =
    let live = c.args.self.now.surveyed.counted c.args.n c.requires in
    sym (some_stray _ _ _ _ _ _ (sym c.is_carved.ensures ∙ c.if-not-is_carved.true) (λ z. c.if-self-n-eq0.false (live ∙ z)))

pub returns : goal.returns
returns c =
    let h = c.args.self.now.heap in
    c.bits_below.ensures
    ∙ ap (bits_below h.map.now c.args.n) (c.blocks_of.ensures.0 ∙ ap (blocks_of (alignment_in h)) c.pool_word-class.ensures.0)
    ∙ sym (at_blocks _ _ _ _ _ _ (sym c.is_carved.ensures ∙ c.if-not-is_carved.false))
