use Rattle.std.proofs.Common.{◌≡◌, length}
use Rattle.clustering.proofs.levels.note_groups.Given as goal

abbrev pub invariant-loop-y : goal.invariant-loop-y
invariant-loop-y l = length l.notes ≡ l.groups
