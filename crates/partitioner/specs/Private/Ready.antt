-- What a pass of moves begins and ends with.
use Rattle.std.specs.Prelude.{ℕ}
use Rattle.flat_net.specs.Net.{Net}
use Rattle.partitioner.specs.declared.counts.partitioning.Partitioning.{Partitioning}
use Rattle.partitioner.specs.declared.counts.spots.Spots.{Spots}
use Rattle.partitioner.specs.declared.costs.hints.Tallies.{Tallies}
use Rattle.partitioner.specs.Private.Tracking.{Tracks, held_parts}
use Rattle.partitioner.specs.Private.Spotting.{AreSpots}
use Rattle.partitioner.specs.Private.Gaining.{AreKept}

-- what is counted beside the partitions is right, where wide nodes are read is known, and gains and hints can be counted
pub record IsReady (n : Net) (size : ℕ) (p : Partitioning) (spots : Spots) (tallies : Tallies) : Type 0 where
  pub tracks : Tracks n p
  pub spotted : AreSpots n size (held_parts p) spots
  pub kept : AreKept p.count tallies.gains
  pub hinted : AreKept p.count tallies.hints
