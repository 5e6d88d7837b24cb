-- The other nodes that read a node, and those that it reads.
use Rattle.std.specs.Prelude.{ℕ, ◌==◌, Bool, not, ◌&&◌, List, length, filter, nat_lt}
use Rattle.std.specs.List.{range_with_len}
use Rattle.flat_net.specs.Net.{Net}
use Rattle.node_reads.specs.Reading.{reads}
use Rattle.node_reads.specs.Noting.{Lists}

-- node y is another node than x and reads it
abbrev pub reads_other : Net → ℕ → ℕ → Bool
reads_other n y x = not (x == y) && reads n y x

-- node z is another node than y, which reads it
abbrev pub is_source : Net → ℕ → ℕ → Bool
is_source n z y = reads_other n y z

-- the other nodes that read node x
abbrev pub other_readers : Net → ℕ → List ℕ
other_readers n x = filter (λ y. reads_other n y x) (range_with_len 0 (length n.nodes))

-- the other nodes that node y reads
abbrev pub other_sources : Net → ℕ → List ℕ
other_sources n y = filter (λ x. reads_other n y x) (range_with_len 0 (length n.nodes))

-- more than 16 other nodes read node x
abbrev pub is_wide : Net → ℕ → Bool
is_wide n x = nat_lt 16 (length (other_readers n x))

-- the wide nodes that node y reads, other than itself
abbrev pub wide_sources : Net → ℕ → List ℕ
wide_sources n y = filter (is_wide n) (other_sources n y)

-- the rows list for each node the other nodes that read it
abbrev pub AreOtherReaders : Net → List (List ℕ) → Type 0
AreOtherReaders n rows = Lists (reads_other n) (length n.nodes) (length n.nodes) rows

-- the rows list for each node the other nodes that it reads
abbrev pub AreSources : Net → List (List ℕ) → Type 0
AreSources n rows = Lists (is_source n) (length n.nodes) (length n.nodes) rows
