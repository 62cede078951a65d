-- `compare::changes::put_changes` stores the changes in turn: at turn c those from class c on are to be stored.
use Rattle.std.proofs.Common.{◌≡◌, ◌-◌}
use Rattle.std.proofs.lemmas.List.Edits.{sets}
use Rattle.compare.specs.Changes.{changes_of}
use Rattle.compare.proofs.changes.put_changes.Given as goal

abbrev pub invariant-loop-c : goal.invariant-loop-c
invariant-loop-c l =
    sets l.changes l.c (changes_of l.counts l.counts2 l.c (l.n - l.c)) ≡ sets l.initial.changes 0 (changes_of l.counts l.counts2 0 l.n)
