use Rattle.std.proofs.Common.{◌≡◌, length}
use Rattle.certifying.proofs.order.copy_rows.Given as goal

abbrev pub invariant-loop-i : goal.invariant-loop-i
invariant-loop-i l = length l.graph ≡ l.i
