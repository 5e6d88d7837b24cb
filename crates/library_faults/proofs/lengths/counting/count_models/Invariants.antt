use Rattle.std.proofs.Common.{◌≡◌, length, map}
use Rattle.blif_text.specs.Views.{plain_model}
use Rattle.library_faults.specs.Private.Counts.{AreCounted}
use Rattle.library_faults.proofs.lengths.counting.count_models.Given as goal

abbrev pub invariant-loop-x : goal.invariant-loop-x
invariant-loop-x l = record {
  long : length l.counts.items ≡ l.x-index;
  counted : AreCounted (map plain_model l.models) l.limit l.order l.counts.items;
}
