-- What a node finds in a partition of what it reads.
use Rattle.std.specs.Prelude.{◌≡◌, ℕ, ◌<◌, ◌≤◌, ◌+◌, Bool, not, nat_lt, List, [], length, take, slice_index_or, count_by, if◌then◌else◌}
use Rattle.flat_net.specs.Net.{Net}
use Rattle.partitioner.specs.declared.counts.partitioning.Partitioning.{Partitioning}
use Rattle.partitioner.specs.declared.costs.gains.Gains.{Gains}
use Rattle.partitioner.specs.declared.costs.gains.Spot.{Spot}
use Rattle.partitioner.specs.Below.{one_if}
use Rattle.partitioner.specs.Private.Loss.{is_fresh, is_wanted, loss}
use Rattle.partitioner.specs.Private.Tracking.{Tracks}

-- partition q holds node x or, beside i, a node that reads it
abbrev pub is_near : Net → List ℕ → ℕ → ℕ → ℕ → Bool
is_near n of i q x = not (is_fresh n of i x q)

-- what is kept for partition q, and nothing past the partitions
abbrev pub spot_at : List Spot → ℕ → Spot
spot_at spots q = slice_index_or spots q (record { near = 0; last = 0 })

-- the turn in which something was counted last in partition q
abbrev pub last_in : Gains → ℕ → ℕ
last_in gains q = (spot_at gains.spots.items q).last

-- how many are counted in partition q, where what was counted up to turn `from` is forgotten
abbrev pub near_in : Gains → ℕ → ℕ
near_in gains q = if nat_lt gains.from (last_in gains q) then (spot_at gains.spots.items q).near else 0

-- there is a count for each partition, from some turn up to now
pub record AreKept (count : ℕ) (gains : Gains) : Type 0 where
  pub long : length gains.spots.items ≡ count
  pub past : (q : ℕ) → last_in gains q ≤ gains.turn

-- `most` is the least number that no count is above
pub record IsMost (counts : ℕ → ℕ) (most : ℕ) : Type 0 where
  pub above : (q : ℕ) → counts q ≤ most
  pub least : (bound : ℕ) → ((q : ℕ) → counts q ≤ bound) → most ≤ bound

-- nothing is counted, and turns are left
pub record AreBegun (count : ℕ) (gains : Gains) : Type 0 where
  pub kept : AreKept count gains
  pub none : gains.counted ≡ 0
  pub most : gains.most ≡ 0
  pub now : gains.from ≡ gains.turn
  pub few : gains.turn ≤ 2147483648

-- the counts are those of the first nodes in the row of those that node i reads, and one more where another node reads node i
pub record AreGains (n : Net) (p : Partitioning) (i : ℕ) (gains : Gains) : Type 0 where
  pub within : gains.counted ≤ length (slice_index_or p.sources i [])
  pub near : (q : ℕ) →
      near_in gains q ≡ one_if (is_wanted n p.of.items i q) + count_by (is_near n p.of.items i q) (take gains.counted (slice_index_or p.sources i []))
  pub most : IsMost (near_in gains) gains.most

-- what is counted beside the partitions is right, and so is what node i gains
pub record IsCounted (n : Net) (p : Partitioning) (i : ℕ) (gains : Gains) : Type 0 where
  pub tracks : Tracks n p
  pub kept : AreKept p.count gains
  pub gained : AreGains n p i gains
  pub node : i < length n.nodes

-- no node whose gains these are loses less than `bound` in any partition
abbrev pub LoseAtLeast : Gains → ℕ → Type 0
LoseAtLeast gains bound = (n : Net) (p : Partitioning) (i q : ℕ) → IsCounted n p i gains → bound ≤ loss n p.of.items i q
