-- Which nodes need not be counted again.
use Rattle.std.specs.Prelude.{◌≡◌, ◌≢◌, ℕ, ◌<◌, ◌≤◌, false, List, All, length, slice_index}
use Rattle.flat_net.specs.Net.{Net}
use Rattle.node_reads.specs.Sources.{reads_other, other_sources}
use Rattle.partitioner.specs.declared.refinement.resting.Rest.{Rest}
use Rattle.partitioner.specs.Private.Loss.{IsContent}

-- when something changed last near node i
abbrev pub changed_at : Rest → ℕ → ℕ
changed_at rest i = slice_index rest.changed.items i

-- when node i was last found content
abbrev pub rested_at : Rest → ℕ → ℕ
rested_at rest i = slice_index rest.rested.items i

-- there are times for each node, and none was found content after now
pub record AreDated (count : ℕ) (rest : Rest) : Type 0 where
  pub changed_long : length rest.changed.items ≡ count
  pub rested_long : length rest.rested.items ≡ count
  pub past : (i : ℕ) → rested_at rest i ≤ rest.clock

-- node i was found content, and nothing changed since near it or near a node that it reads
pub record IsResting (n : Net) (rest : Rest) (i : ℕ) : Type 0 where
  pub some : 0 < rested_at rest i
  pub own : changed_at rest i ≤ rested_at rest i
  pub sources : All (λ x. changed_at rest x ≤ rested_at rest i) (other_sources n i)

-- node i neither is node j nor reads it, and neither is a node that j reads nor reads one
pub record IsApart (n : Net) (i j : ℕ) : Type 0 where
  pub other : i ≢ j
  pub unread : reads_other n i j ≡ false
  pub no_source : All (λ x. i ≢ x) (other_sources n j)
  pub no_reader : All (λ x. reads_other n i x ≡ false) (other_sources n j)

-- where the nodes stand as listed, each that rests is content
pub record Rests (n : Net) (of : List ℕ) (rest : Rest) : Type 0 where
  pub dated : AreDated (length n.nodes) rest
  pub content : (i : ℕ) → i < length n.nodes → IsResting n rest i → IsContent n of i
