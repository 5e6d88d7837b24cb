use Rattle.std.proofs.Common.{◌≡◌, length, map, All}
use Rattle.certificate.specs.Threes.{three_of}
use Rattle.certifying.specs.Private.Bare.{AreSmall}
use Rattle.certifying.proofs.bare.no_labels.Given as goal

abbrev pub invariant-loop-made : goal.invariant-loop-made
invariant-loop-made l = record { long : length l.labels.items ≡ l.made; small : All AreSmall (map three_of l.labels.items) }
