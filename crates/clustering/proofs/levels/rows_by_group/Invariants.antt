use Rattle.std.proofs.Common.{◌≡◌, length}
use Rattle.clustering.proofs.levels.rows_by_group.Given as goal

abbrev pub invariant-loop-x : goal.invariant-loop-x
invariant-loop-x l = length l.notes ≡ l.groups
