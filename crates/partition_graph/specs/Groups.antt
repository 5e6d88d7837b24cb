-- Which partitions are drawn in one frame: those that are mostly of one placed model. n is the original, k the certificate.
use Rattle.std.specs.Prelude.{◌≡◌, ◌≢◌, ℕ, ◌+◌, ◌*◌, ◌<◌, ◌≤◌, ◌==◌, ◌⊎◌, Bool, ◌&&◌, List, [], length, slice_index, slice_index_or}
use Rattle.std.specs.List.{before_last}
use Rattle.std.specs.Str.{bytes_eq}
use Rattle.flat_net.specs.Net.{Net, name_of}
use Rattle.certificate.specs.Cert.{PlainCert}
use Rattle.partitioner.specs.Below.{count_below}
use Rattle.partition_graph.specs.Places.{nodes_in}

abbrev pub is_slash : ℕ → Bool
is_slash b = b == 47

-- the path of the placed model that net x belongs to: its name up to the last `/`, nothing where there is none
unfoldable pub path_of : Net → ℕ → List ℕ
path_of n x = before_last is_slash (name_of n x)

-- how many nodes of partition p have this path
unfoldable pub path_count : Net → PlainCert → ℕ → List ℕ → ℕ
path_count n k p path = count_below (length k.part) (λ i. slice_index k.part i == p && bytes_eq (path_of n (k.original_inputs + i)) path)

-- the path that more than half of partition p's nodes have, or nothing where there is none but that of the main model
pub record IsGroup (n : Net) (k : PlainCert) (p : ℕ) (path : List ℕ) : Type 0 where
  pub own : (path ≡ []) ⊎ (nodes_in k p < 2 * path_count n k p path)
  pub none : path ≡ [] → (other : List ℕ) → other ≢ [] → 2 * path_count n k p other ≤ nodes_in k p

-- the path of each partition
abbrev pub group_at : List (List ℕ) → ℕ → List ℕ
group_at groups p = slice_index_or groups p []

pub record AreGroups (n : Net) (k : PlainCert) (groups : List (List ℕ)) : Type 0 where
  pub long : length groups ≡ length k.depth
  pub each : (p : ℕ) → p < length k.depth → IsGroup n k p (group_at groups p)
