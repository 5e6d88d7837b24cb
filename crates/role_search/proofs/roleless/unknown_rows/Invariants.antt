use Rattle.std.proofs.Common.{◌≡◌, length}
use Rattle.role_search.proofs.roleless.unknown_rows.Given as goal

abbrev pub invariant-loop-i : goal.invariant-loop-i
invariant-loop-i l = length l.graph ≡ l.i
