-- The edges of a picture: which nets of a place lead to another place, or to the same. n is the original, k the certificate.
use Rattle.std.specs.Prelude.{◌≡◌, ℕ, ◌+◌, ◌<◌, ◌==◌, Bool, false, ◌&&◌, ◌||◌, nat_lt, nat_le, length, All, unwrap_or}
use Rattle.std.specs.declared.cmp.Ordering.{Ordering}
use Rattle.std.specs.Ordering.{nat_cmp, ordering_then}
use Rattle.std.specs.List.{list_any, range_with_len}
use Rattle.std.specs.Map.{values_of}
use Rattle.std.specs.BTreeMap.{BTreeMap, IsOrdered, get}
use Rattle.flat_net.specs.Net.{Net, node_of, pins_at}
use Rattle.certificate.specs.declared.role.Role.{Role}
use Rattle.certificate.specs.declared.role.Role.TheVariants.{Copy, Voter}
use Rattle.certificate.specs.Cert.{PlainCert}
use Rattle.partition_graph.specs.Places.{place_of, outputs_place, home, count_at}

-- the role is that of a voter of node x for a partition of place b
abbrev pub votes_for : PlainCert → ℕ → ℕ → Role → Bool
votes_for k x b (Copy y c) = false
votes_for k x b (Voter y p c) = nat_le k.original_inputs x && (y.0 == x && place_of k p.0 == b)

-- node x has a voter for a partition of place b
abbrev pub is_voted_for : PlainCert → ℕ → ℕ → Bool
is_voted_for k x b = list_any (votes_for k x b) k.roles

-- net y has a pin that reads net x
abbrev pub reads_net : Net → ℕ → ℕ → Bool
reads_net n y x = list_any (λ pin. pin == x) (pins_at (node_of n y))

-- net y is of place b, and reads input x
abbrev pub reads_input : Net → PlainCert → ℕ → ℕ → ℕ → Bool
reads_input n k x b y = nat_lt x k.original_inputs && (home k y == b && reads_net n y x)

-- input x is read by a node of place b
abbrev pub is_read_at : Net → PlainCert → ℕ → ℕ → Bool
is_read_at n k x b = list_any (reads_input n k x b) (range_with_len 0 (k.original_inputs + length k.part))

-- net x is an output, and b the place of the outputs
abbrev pub is_put_out : Net → PlainCert → ℕ → ℕ → Bool
is_put_out n k x b = list_any (λ y. y == x && outputs_place k == b) n.outputs

-- net x leads to place b: a node that has a voter for a partition there, an input that a node reads there, or an output
unfoldable pub leads_to : Net → PlainCert → ℕ → ℕ → Bool
leads_to n k b x = is_voted_for k x b || (is_read_at n k x b || is_put_out n k x b)

-- how many nets of place a lead to place b
abbrev pub edge_count : Net → PlainCert → ℕ → ℕ → ℕ
edge_count n k a b = count_at k (leads_to n k b) a

-- by the first place, and then by the second
abbrev pub edge_cmp : ℕ × ℕ → ℕ × ℕ → Ordering
edge_cmp a b = ordering_then (nat_cmp a.0 b.0) (nat_cmp a.1 b.1)

-- the number that is kept for the edge from a to b, 0 where there is none
abbrev pub number_of_edge : BTreeMap (ℕ × ℕ) ℕ → ℕ → ℕ → ℕ
number_of_edge edges a b = unwrap_or (get edge_cmp edges (a, b)) 0

-- the edges in ascending order: one from place a to place b wherever some net of a leads to b, with the number of these nets
pub record AreEdges (n : Net) (k : PlainCert) (edges : BTreeMap (ℕ × ℕ) ℕ) : Type 0 where
  pub ascending : IsOrdered edge_cmp edges
  pub numbers : (a b : ℕ) → number_of_edge edges a b ≡ edge_count n k a b
  pub some : All (λ number. 0 < number) (values_of edges.entries)
