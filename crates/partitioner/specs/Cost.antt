-- What a partitioning costs.
use Rattle.std.specs.Prelude.{ℕ, ◌==◌, Bool, not, ◌&&◌, List, length, slice_index}
use Rattle.std.specs.List.{list_any}
use Rattle.tmr_base.specs.Parts.{PlainParts}
use Rattle.flat_net.specs.Net.{Net}
use Rattle.partitioner.specs.Below.{sum_below, count_below}
use Rattle.node_reads.specs.Reading.{readers}

-- some node of partition p reads node x
abbrev pub is_read_in : Net → List ℕ → ℕ → ℕ → Bool
is_read_in n of x p = list_any (λ y. slice_index of y == p) (readers n x)

-- how many partitions other than its own read node x
unfoldable pub foreign_count : Net → PlainParts → ℕ → ℕ
foreign_count n parts x = count_below parts.count (λ p. not (slice_index parts.of x == p) && is_read_in n parts.of x p)

-- the number of pairs of a node and a partition other than its own in which some node reads it
unfoldable pub cost : Net → PlainParts → ℕ
cost n parts = sum_below (length n.nodes) (foreign_count n parts)
