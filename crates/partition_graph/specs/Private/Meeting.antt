-- Edges that are being counted.
use Rattle.std.specs.Prelude.{◌≡◌, ℕ, ◌<◌, ◌==◌, Bool, ◌&&◌, List, length, slice_index, All}
use Rattle.std.specs.HashSet as set
use Rattle.std.specs.Map.{values_of}
use Rattle.std.specs.BTreeMap.{IsOrdered}
use Rattle.partitioner.specs.Below.{count_below}
use Rattle.partition_graph.specs.declared.edges.Edges.{Edges}
use Rattle.partition_graph.specs.Edges.{edge_cmp, number_of_edge}

-- the same net and the same place
abbrev pub same_pair : ℕ × ℕ → ℕ × ℕ → Bool
same_pair a b = (a.0 == b.0) && (a.1 == b.1)

-- net x was met, leading to place b
abbrev pub is_met : Edges → ℕ → ℕ → Bool
is_met e x b = set.contains same_pair e.met (x, b)

-- the numbers are those of the nets that were met; the places of the nets are given
pub record AreCounted (homes : List ℕ) (e : Edges) : Type 0 where
  pub ascending : IsOrdered edge_cmp e.counts
  pub numbers : (a b : ℕ) → number_of_edge e.counts a b ≡ count_below (length homes) (λ x. slice_index homes x == a && is_met e x b)
  pub some : All (λ number. 0 < number) (values_of e.counts.entries)
