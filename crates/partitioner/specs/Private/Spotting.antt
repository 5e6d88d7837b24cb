-- Where the readers of wide nodes stand, as sets that may hold more.
use Rattle.std.specs.Prelude.{◌≡◌, ℕ, ◌<◌, true, length}
use Rattle.flat_net.specs.Net.{Net}
use Rattle.tmr_base.specs.Parts.{PlainParts}
use Rattle.partitioner.specs.declared.counts.spots.Spots.{Spots}
use Rattle.node_reads.specs.Sources.{is_wide}
use Rattle.partitioner.specs.Private.Sets.{has}
use Rattle.partitioner.specs.Refining.{has_room}
use Rattle.partitioner.specs.Private.Tracking.{reader_count}

-- `free` has for each wide node the partitions with room in which some other node reads it, and `nets` for each
-- partition the wide nodes that are read in it by another
pub record AreSpots (n : Net) (size : ℕ) (parts : PlainParts) (spots : Spots) : Type 0 where
  pub free_long : length spots.free ≡ length n.nodes
  pub nets_long : length spots.nets ≡ parts.count
  pub nets : (x q : ℕ) → x < length n.nodes → q < parts.count → is_wide n x ≡ true → 0 < reader_count n parts.of x q → has spots.nets q x ≡ true
  pub free : (x q : ℕ) → x < length n.nodes → q < parts.count → is_wide n x ≡ true → 0 < reader_count n parts.of x q
      → has_room size parts q ≡ true → has spots.free x q ≡ true

-- what the sets hold they hold still
pub record KeepsSpots (before after : Spots) : Type 0 where
  pub free_long : length after.free ≡ length before.free
  pub nets_long : length after.nets ≡ length before.nets
  pub free_kept : (x q : ℕ) → has before.free x q ≡ true → has after.free x q ≡ true
  pub nets_kept : (q x : ℕ) → has before.nets q x ≡ true → has after.nets q x ≡ true
