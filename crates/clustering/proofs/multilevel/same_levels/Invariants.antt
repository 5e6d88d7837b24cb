use Rattle.std.proofs.Common.{◌≡◌, ◌<◌, ◌≤◌, ℕ, Some, slice_get}
use Rattle.clustering.specs.declared.levels.Level.{Level}
use Rattle.clustering.proofs.multilevel.same_levels.Given as goal

abbrev pub invariant-loop-k : goal.invariant-loop-k
invariant-loop-k l = (j : ℕ) (level : Level) → j < l.k → slice_get l.levels j ≡ Some level → level.weighed ≤ l.most
