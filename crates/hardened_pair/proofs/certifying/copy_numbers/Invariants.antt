use Rattle.std.proofs.Common.{◌≡◌, map, length}
use Rattle.std.specs.List.{range_with_len}
use Rattle.certificate.specs.Threes.{three_ids}
use Rattle.hardened_pair.specs.Private.Layouts.{net_of, partitions, voted}
use Rattle.triplicate.specs.Construction.{three_copies}
use Rattle.hardened_pair.proofs.certifying.copy_numbers.Given as goal

abbrev pub invariant-loop-y : goal.invariant-loop-y
invariant-loop-y l = map three_ids l.copies.items ≡ map (three_copies (net_of l.layout) (partitions l.layout) (voted l.layout)) (range_with_len (length (net_of l.layout).inputs) l.y)
