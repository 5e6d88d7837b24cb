use Rattle.std.proofs.Common.{◌≡◌, ◌<◌, length, map, All}
use Rattle.certificate.specs.Threes.{three_of}
use Rattle.certifying.specs.Private.Depths.{AreDepths}
use Rattle.certifying.proofs.depths.depths_of.Given as goal

abbrev pub invariant-loop-i : goal.invariant-loop-i
invariant-loop-i l = record { long : length l.depths.items ≡ l.count; small : All (λ d. d < 4294967296) l.depths.items; least : AreDepths l.numbers (map three_of l.labels) l.depths.items }
