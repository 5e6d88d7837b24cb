-- What partitioning looks up of a design.
use Rattle.std.specs.Prelude.{◌≡◌, ℕ, ◌<◌, [], Option, Some, length, slice_index_or, IsPermutation}
use Rattle.flat_net.specs.Net.{Net}
use Rattle.node_reads.specs.Sources.{AreOtherReaders, other_sources, wide_sources}
use Rattle.partitioner.specs.declared.reading.Sources.{Sources}
use Rattle.partitioner.specs.declared.reading.Reads.{Reads}

-- the rows list for each node the other nodes that it reads, in some order, and the wide ones among them
pub record AreSorted (n : Net) (sources : Sources) : Type 0 where
  pub rows_long : length sources.rows ≡ length n.nodes
  pub rows : (i : ℕ) → i < length n.nodes → IsPermutation (other_sources n i) (slice_index_or sources.rows i [])
  pub wide_long : length sources.wide ≡ length n.nodes
  pub wide : (i : ℕ) → i < length n.nodes → slice_index_or sources.wide i [] ≡ wide_sources n i

-- they do, where they were made
abbrev pub AreMade : Net → Option Sources → Type 0
AreMade n made = (sources : Sources) → made ≡ Some sources → AreSorted n sources

-- for each node the other nodes that read it, and where they were made those that it reads
pub record AreReads (n : Net) (reads : Reads) : Type 0 where
  pub readers : AreOtherReaders n reads.readers
  pub sources : AreMade n reads.sources
