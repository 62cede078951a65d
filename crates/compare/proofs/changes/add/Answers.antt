-- `compare::changes::add` adds to one count, or to none.
use Rattle.std.proofs.Common.{eq-eqb, ne_eqb}
use Rattle.compare.specs.Changes.{added}
use Rattle.compare.proofs.changes.add.Goals as goal

pub returns-then-live-eq0 : goal.returns-then-live-eq0
unfolding added
returns-then-live-eq0 c = rw (eq-eqb c.args.live 0 c.if-live-eq0.true)

pub returns : goal.returns
unfolding added
returns c = rw (ne_eqb c.args.live 0 c.if-live-eq0.false)
