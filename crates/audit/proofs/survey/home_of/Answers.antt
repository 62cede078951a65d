-- `audit::survey::home_of` makes the tests of `home_by` in turn.
use Rattle.std.proofs.Common.{◌≡◌, ap, ◌∙◌, arith}
use Rattle.rules.specs.Books.{alignment_of, class, pool}
use Rattle.rules.specs.Audit.{blocks_of}
use Rattle.books.specs.Sizes.{aligned}
use Rattle.audit.specs.Survey.{home_by, has_blocks}
use Rattle.audit.proofs.survey.home_of.Goals.{After-blocks_of}
use Rattle.audit.proofs.survey.home_of.Goals as goal

pub returns-then-not-is_carved : goal.returns-then-not-is_carved
unfolding home_by
returns-then-not-is_carved c = (grind arith, omega arith)

pub returns-then-live-eq0 : goal.returns-then-live-eq0
unfolding home_by
returns-then-live-eq0 c = (grind arith, omega (arith, c.arena_of.ensures.1))

-- how many blocks a pool of its class has
blocks : (c : After-blocks_of)
    → let a = c.args in
    c.blocks_of.result ≡ blocks_of (alignment_of a.s.edition) (pool a.s.arenas a.books.now class a.n)
blocks c = c.blocks_of.ensures.0 ∙ ap (blocks_of (alignment_of c.args.s.edition)) c.pool_word-class.ensures.0

pub returns-then-live-blocks_of : goal.returns-then-live-blocks_of
unfolding home_by
returns-then-live-blocks_of c =
    let a = c.args in
    let k = pool a.s.arenas a.books.now class a.n in
    let all = blocks (goal.at.returns-then-live-blocks_of c).After-blocks_of in
    let low = has_blocks (aligned a.s.edition) k a.live (omega (arith, c.if-live-blocks_of.true, all)) in
    (grind (arith, all), omega (arith, c.pool_word-class.ensures.0, low))

pub returns : goal.returns
unfolding home_by
returns c = (grind (arith, blocks (goal.at.returns c).After-blocks_of), omega arith)
