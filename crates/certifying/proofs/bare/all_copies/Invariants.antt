use Rattle.std.proofs.Common.{◌≡◌, length}
use Rattle.certifying.proofs.bare.all_copies.Given as goal

abbrev pub invariant-loop-i : goal.invariant-loop-i
invariant-loop-i l = length l.copies.items ≡ l.i
