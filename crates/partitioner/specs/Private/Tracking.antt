-- What is kept beside the partition of each node.
use Rattle.std.specs.Prelude.{◌≡◌, ℕ, ◌<◌, ◌==◌, ◌⊎◌, true, false, List, [], All, length, slice_index, slice_index_or, count_by, IsPermutation}
use Rattle.tmr_base.specs.Parts.{PlainParts}
use Rattle.flat_net.specs.Net.{Net}
use Rattle.partitioner.specs.declared.counts.partitioning.Partitioning.{Partitioning}
use Rattle.partitioner.specs.declared.counts.partitioning.Placed.{Placed}
use Rattle.node_reads.specs.Sources.{AreOtherReaders, other_readers, other_sources, is_wide, wide_sources}
use Rattle.partitioner.specs.Private.Counting.{count_at}
use Rattle.partitioner.specs.Private.Marks.{is_marked}
use Rattle.partitioner.specs.Sizes.{held}
use Rattle.partitioner.specs.Reads.{AreReads}

-- how many other nodes read node x from partition p
unfoldable pub reader_count : Net → List ℕ → ℕ → ℕ → ℕ
reader_count n of x p = count_by (λ y. slice_index of y == p) (other_readers n x)

-- node x stands in partition q, or some other node reads it there
abbrev pub IsBeside : Net → List ℕ → ℕ → ℕ → Type 0
IsBeside n of x q = (slice_index of x ≡ q) ⊎ (0 < reader_count n of x q)

-- each wide node is marked wherever it stands or is read, maybe elsewhere too, and the other nodes have no row
pub record AreMarks (n : Net) (of : List ℕ) (count : ℕ) (marks : List (List ℕ)) : Type 0 where
  pub long : length marks ≡ length n.nodes
  pub narrow : (x : ℕ) → x < length n.nodes → is_wide n x ≡ false → length (slice_index_or marks x []) ≡ 0
  pub marked : (x q : ℕ) → x < length n.nodes → q < count → is_wide n x ≡ true → IsBeside n of x q → is_marked marks x q ≡ true

-- the partitions that are kept
abbrev pub held_parts : Partitioning → PlainParts
held_parts p = record { count = p.count; of = p.of.items }

-- the partitions before any node moves
abbrev pub placed_parts : Placed → PlainParts
placed_parts p = record { count = p.count; of = p.of.items }

-- each node stands in a partition, and the readers and the numbers of nodes held are right
pub record IsPlaced (n : Net) (p : Placed) : Type 0 where
  pub few : length n.nodes < 4294967295
  pub long : length p.of.items ≡ length n.nodes
  pub in_range : All (λ q. q < p.count) p.of.items
  pub reads : AreReads n p.reads
  pub held_long : length p.held.items ≡ p.count
  pub held_right : (q : ℕ) → q < p.count → slice_index p.held.items q ≡ held p.of.items q

-- the rows are those of the design, and the counts are those of the partitions, of wide nodes alone
pub record Tracks (n : Net) (p : Partitioning) : Type 0 where
  pub few : length n.nodes < 4294967295
  pub long : length p.of.items ≡ length n.nodes
  pub in_range : All (λ q. q < p.count) p.of.items
  pub readers : AreOtherReaders n p.readers
  pub sources_long : length p.sources ≡ length n.nodes
  pub sources : (i : ℕ) → i < length n.nodes → IsPermutation (other_sources n i) (slice_index_or p.sources i [])
  pub wide_long : length p.wide ≡ length n.nodes
  pub wide : (i : ℕ) → i < length n.nodes → slice_index_or p.wide i [] ≡ wide_sources n i
  pub held_long : length p.held.items ≡ p.count
  pub held_right : (q : ℕ) → q < p.count → slice_index p.held.items q ≡ held p.of.items q
  pub counts : (x q : ℕ) → x < length n.nodes → q < p.count → is_wide n x ≡ true → count_at p.counts x q ≡ reader_count n p.of.items x q
  pub marks : AreMarks n p.of.items p.count p.marks
