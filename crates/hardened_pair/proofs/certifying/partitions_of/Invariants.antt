use Rattle.std.proofs.Common.{◌≡◌, take}
use Rattle.hardened_pair.proofs.certifying.partitions_of.Given as goal

abbrev pub invariant-loop-y : goal.invariant-loop-y
invariant-loop-y l = l.of.items ≡ take l.y l.parts.of
