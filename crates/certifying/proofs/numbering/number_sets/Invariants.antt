use Rattle.std.proofs.Common.{◌≡◌, ◌≤◌, length}
use Rattle.certifying.specs.Private.Numbers.{AreNumbered}
use Rattle.certifying.proofs.numbering.number_sets.Given as goal

abbrev pub invariant-loop-i : goal.invariant-loop-i
invariant-loop-i l = record { long : length l.numbers.items ≡ l.i; few : l.count ≤ l.i; numbered : AreNumbered l.up l.numbers.items l.count }
