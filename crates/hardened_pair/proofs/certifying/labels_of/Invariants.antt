use Rattle.std.proofs.Common.{◌≡◌, ◌<◌, ℕ, take, map, get_or}
use Rattle.certificate.specs.Threes.{three_of}
use Rattle.triplicate.specs.Construction.{three_labels}
use Rattle.hardened_pair.proofs.certifying.labels_of.Given as goal

abbrev pub invariant-loop-y : goal.invariant-loop-y
invariant-loop-y l = record {
  labels : map three_of l.labels.items ≡ map three_labels (take l.y l.extra.table.labels);
  small : (k : ℕ) → k < l.y → get_or l.extra.table.labels k 0 < 4294967296;
}
