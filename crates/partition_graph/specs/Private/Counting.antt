-- Lists that say something of each partition or each net.
use Rattle.std.specs.Prelude.{◌≡◌, ℕ, ◌+◌, ◌<◌, Bool, false, List, length, map, slice_index, slice_index_or, All}
use Rattle.std.specs.Borrow.{Bor}
use Rattle.flat_net.specs.Net.{Net}
use Rattle.certificate.specs.Cert.{PlainCert, depth_of}
use Rattle.partition_graph.specs.Places.{nodes_in, place_of, home}
use Rattle.partition_graph.specs.Picture.{registers_in, most_nodes, rest_sum, rest_max, one}
use Rattle.partition_graph.specs.declared.writing.BoxCounts.{BoxCounts}
use Rattle.partition_graph.specs.declared.writing.Rest.{Rest}

-- bit x is set
abbrev pub is_marked : List Bool → ℕ → Bool
is_marked bits x = slice_index_or bits x false

-- the number of nodes of each partition
pub record AreNodeCounts (k : PlainCert) (nodes : List ℕ) : Type 0 where
  pub long : length nodes ≡ length k.depth
  pub each : (p : ℕ) → p < length k.depth → slice_index nodes p ≡ nodes_in k p

-- the place of each partition
pub record ArePlaces (k : PlainCert) (places : List ℕ) : Type 0 where
  pub long : length places ≡ length k.depth
  pub each : (p : ℕ) → p < length k.depth → slice_index places p ≡ place_of k p

-- the place of each net
pub record AreHomes (k : PlainCert) (homes : List ℕ) : Type 0 where
  pub long : length homes ≡ k.original_inputs + length k.part
  pub each : (x : ℕ) → x < k.original_inputs + length k.part → slice_index homes x ≡ home k x

-- the bytes of a name
abbrev pub text : Bor (List ℕ) → List ℕ
text word = word.now

abbrev pub texts : List (Bor (List ℕ)) → List (List ℕ)
texts words = map text words

-- what the boxes tell
pub record AreCounted (n : Net) (k : PlainCert) (counts : BoxCounts) : Type 0 where
  pub nodes : AreNodeCounts k counts.nodes.items
  pub few_nodes : All (λ m. m < 4294967296) counts.nodes.items
  pub few_registers : All (λ m. m < 4294967296) counts.registers.items
  pub registers_long : length counts.registers.items ≡ length k.depth
  pub registers : (p : ℕ) → p < length k.depth → slice_index counts.registers.items p ≡ registers_in n k p
  pub places : ArePlaces k counts.places.items
  pub most : counts.most ≡ most_nodes k

-- what the box of the partitions that are not drawn tells
pub record IsRest (n : Net) (k : PlainCert) (rest : Rest) : Type 0 where
  pub count : rest.count ≡ rest_sum k one
  pub nodes : rest.nodes ≡ rest_sum k (nodes_in k)
  pub registers : rest.registers ≡ rest_sum k (registers_in n k)
  pub depth : rest.depth ≡ rest_max k (depth_of k)
