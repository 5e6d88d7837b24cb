-- Paths that lead among the nodes of a partition that were seen so far.
use Rattle.std.specs.Prelude.{◌≡◌, ℕ, ◌+◌, ◌-◌, ◌*◌, ◌<◌, ◌≤◌, ◌==◌, Bool, true, false, ◌&&◌, List, length, slice_index, slice_index_or, if◌then◌else◌}
use Rattle.std.specs.Str.{bytes_eq}
use Rattle.flat_net.specs.Net.{Net}
use Rattle.certificate.specs.Cert.{PlainCert}
use Rattle.partitioner.specs.Below.{count_below}
use Rattle.partition_graph.specs.declared.groups.Lead.{Lead}
use Rattle.partition_graph.specs.Groups.{path_of}

-- one node more was seen, which has the leading path or another one
abbrev pub voted_lead : Lead → ℕ → Bool → Lead
voted_lead lead x same =
    if lead.by == 0 then record { node = x; by = 1 } else record { node = lead.node; by = if same then lead.by + 1 else lead.by - 1 }

-- the path of node i, counted from 0
abbrev pub node_path : Net → PlainCert → ℕ → List ℕ
node_path n k i = path_of n (k.original_inputs + i)

-- of the first m nodes, how many are in partition p, and how many of these have this path
unfoldable pub seen_in : PlainCert → ℕ → ℕ → ℕ
seen_in k m p = count_below m (λ i. slice_index k.part i == p)

unfoldable pub seen_with : Net → PlainCert → ℕ → ℕ → List ℕ → ℕ
seen_with n k m p path = count_below m (λ i. slice_index k.part i == p && bytes_eq (node_path n k i) path)

-- only the leading path can have more than half of them
pub record IsLeading (n : Net) (k : PlainCert) (m p : ℕ) (lead : Lead) : Type 0 where
  pub few : lead.by ≤ seen_in k m p
  pub node : 0 < seen_in k m p → lead.node < length k.part
  pub own : (path : List ℕ) → bytes_eq (node_path n k lead.node) path ≡ true → 2 * seen_with n k m p path ≤ seen_in k m p + lead.by
  pub other : (path : List ℕ) → bytes_eq (node_path n k lead.node) path ≡ false → 2 * seen_with n k m p path + lead.by ≤ seen_in k m p

-- the lead of partition p
abbrev pub lead_at : List Lead → ℕ → Lead
lead_at leads p = slice_index_or leads p (record { node = 0; by = 0 })

pub record AreLeading (n : Net) (k : PlainCert) (m : ℕ) (leads : List Lead) : Type 0 where
  pub long : length leads ≡ length k.depth
  pub each : (p : ℕ) → p < length k.depth → IsLeading n k m p (lead_at leads p)

-- node i has the path that leads in its partition
abbrev pub has_lead : Net → PlainCert → List Lead → ℕ → Bool
has_lead n k leads i = bytes_eq (node_path n k i) (node_path n k (lead_at leads (slice_index k.part i)).node)
