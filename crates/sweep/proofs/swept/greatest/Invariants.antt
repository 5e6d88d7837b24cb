use Rattle.std.proofs.Common.{◌≡◌, max, drop}
use Rattle.sweep.specs.Sweep.{greatest}
use Rattle.sweep.proofs.swept.greatest.Given as goal

abbrev pub invariant-loop-p : goal.invariant-loop-p
invariant-loop-p l = max l.most (greatest (drop l.p l.depths)) ≡ greatest l.depths
