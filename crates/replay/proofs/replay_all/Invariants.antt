-- From turn to turn of `replay::replay_all` the buffers keep their lengths and the heap its shape.
use Rattle.std.proofs.Common.{◌<◌}
use Rattle.replay.specs.Turns.{Lent}
use Rattle.replay.proofs.replay_all.Given as goal

abbrev pub invariant-loop : goal.invariant-loop
invariant-loop l = Lent l.memory l.books l.map l.input l.output × (l.kept < 16)
