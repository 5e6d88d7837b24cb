use Rattle.std.proofs.Common.{◌≡◌, length, map}
use Rattle.blif_text.specs.Views.{plain_model}
use Rattle.wrapper_chains.specs.Private.Ways.{AreWays}
use Rattle.wrapper_chains.proofs.ways.all_ways.Given as goal

abbrev pub invariant-loop-x : goal.invariant-loop-x
invariant-loop-x l = record {
  long : length l.ways.items ≡ l.x-index;
  all : AreWays (map plain_model l.models) l.looked.order.items l.ways.items;
}
