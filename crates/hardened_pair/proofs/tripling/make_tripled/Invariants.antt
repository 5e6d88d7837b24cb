use Rattle.std.proofs.Common.{◌≡◌}
use Rattle.std.specs.List.{flat_map, range_with_len}
use Rattle.hardened_pair.specs.Private.Layouts.{net_of, partitions, voted}
use Rattle.triplicate.specs.Blocks.{block}
use Rattle.hardened_pair.specs.Private.Made.{IsMade}
use Rattle.hardened_pair.proofs.tripling.make_tripled.Given as goal

abbrev pub invariant-loop-x : goal.invariant-loop-x
invariant-loop-x l = record {
  made : IsMade l.layout l.made;
  roles : l.made.roles.items ≡ flat_map (block (net_of l.layout) (partitions l.layout) (voted l.layout)) (range_with_len 0 l.x);
}
