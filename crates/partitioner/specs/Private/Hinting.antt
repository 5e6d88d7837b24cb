-- How near a node's sources are at most, in partitions with room.
use Rattle.std.specs.Prelude.{◌≡◌, ℕ, ◌<◌, ◌≤◌, ◌+◌, true, [], length, take, slice_index_or, count_by}
use Rattle.flat_net.specs.Net.{Net}
use Rattle.partitioner.specs.declared.counts.partitioning.Partitioning.{Partitioning}
use Rattle.partitioner.specs.declared.costs.gains.Gains.{Gains}
use Rattle.partitioner.specs.Below.{one_if}
use Rattle.partitioner.specs.Refining.{has_room}
use Rattle.partitioner.specs.Private.Gaining.{AreKept, is_near, near_in}
use Rattle.partitioner.specs.Private.Loss.{is_wanted}
use Rattle.partitioner.specs.Private.Tracking.{held_parts}

-- beside what is counted exactly, so many more of the nodes that node i reads are counted, in each partition with room no fewer than are near
pub record AreHints (n : Net) (size : ℕ) (p : Partitioning) (i : ℕ) (gains hints : Gains) : Type 0 where
  pub kept : AreKept p.count hints
  pub within : gains.counted + hints.counted ≤ length (slice_index_or p.sources i [])
  pub few : (q : ℕ) → near_in hints q ≤ hints.counted
  pub above : (q : ℕ) → near_in hints q ≤ hints.most
  pub near : (q : ℕ) → q < p.count → has_room size (held_parts p) q ≡ true →
      one_if (is_wanted n p.of.items i q) + count_by (is_near n p.of.items i q) (take (gains.counted + hints.counted) (slice_index_or p.sources i []))
      ≤ near_in gains q + near_in hints q
