-- Pieces of a report that is being written.
use Rattle.std.specs.Prelude.{◌≡◌, ℕ, ◌<◌, ◌&&◌, Bool, not, nat_eq, take, List, [], ◌∷◌, ◌++◌, drop, length, map, All, slice_get, slice_index, Some}
use Rattle.std.specs.List.{flat_map, list_any}
use Rattle.tmr_base.specs.declared.ids.PartId.{PartId}
use Rattle.flat_net.specs.Net.{Net, net_count}
use Rattle.flat_net.specs.Nodes.{number_of}
use Rattle.certificate.specs.Cert.{PlainCert}
use Rattle.certificate.specs.Text.{line_text}
use Rattle.feedback_cut.specs.Components.{PlainGroups, component_of, has_loop}
use Rattle.recovery_depth.specs.declared.depth_and_chain.Deep.{Deep}
use Rattle.recovery_depth.specs.Depths.{is_register_at}
use Rattle.reports.specs.declared.writing.PartCounts.{PartCounts}
use Rattle.reports.specs.Counts.{count_in, any_node, loops_in}
use Rattle.reports.specs.Report.{part_lines}

-- words, a blank before each
abbrev pub spaced : List (List ℕ) → List ℕ
spaced [] = []
spaced (word ∷ words) = 32 ∷ (word ++ spaced words)

-- the lines of the partitions from p on
abbrev pub parts_left : Net → PlainCert → PlainGroups → List Deep → ℕ → List ℕ
parts_left n k g deeps p = flat_map line_text (part_lines n k g p (drop p deeps))

abbrev pub part_number : PartId → ℕ
part_number p = p.0

-- a number for each partition, which counts its nodes that pass a test
pub record AreCountsOf (k : PlainCert) (test : ℕ → Bool) (counts : List ℕ) : Type 0 where
  pub long : length counts ≡ length k.depth
  pub count : (p : ℕ) → p < length k.depth → slice_index counts p ≡ count_in k test p

-- the component of node x has a loop, and x is the first of its nodes: each component with a loop has one such node
abbrev pub heads_loop : PlainGroups → ℕ → Bool
heads_loop g x = has_loop g (component_of g x) && not (list_any (nat_eq (component_of g x)) (take x g.of))

-- a number for each partition, which counts its components with a loop
pub record AreLoopsOf (k : PlainCert) (g : PlainGroups) (counts : List ℕ) : Type 0 where
  pub long : length counts ≡ length k.depth
  pub count : (p : ℕ) → p < length k.depth → slice_index counts p ≡ loops_in k g p

-- the numbers count the nodes, the registers and the loops
pub record AreCounted (n : Net) (k : PlainCert) (counts : PartCounts) : Type 0 where
  pub nodes : AreCountsOf k any_node counts.nodes.items
  pub registers : AreCountsOf k (is_register_at n) counts.registers.items
  pub loops : AreLoopsOf k counts.groups counts.loops.items

-- chains are of nets
abbrev pub AreNets : Net → List Deep → Type 0
AreNets n deeps = (p : ℕ) (d : Deep) → slice_get deeps p ≡ Some d → All (λ x. x < net_count n) (map number_of d.chain.items)
