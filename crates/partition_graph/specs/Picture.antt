-- The text of a picture, which `dot` draws. n is the original, k the certificate of a hardened design.
use Rattle.std.specs.Prelude.{◌≡◌, ℕ, ◌+◌, ◌*◌, ◌/◌, ◌==◌, ◌&&◌, Bool, true, false, List, [], ◌∷◌, ◌++◌, length, slice_index, codes, max, nat_lt, Option, Some, None, if◌then◌else◌}
use Rattle.std.specs.List.{flat_map, concat, range_with_len}
use Rattle.std.specs.Fmt.{decimal}
use Rattle.std.specs.BTreeMap.{BTreeMap}
use Rattle.flat_net.specs.Net.{Net, Node, Table, Register, node_of}
use Rattle.certificate.specs.Cert.{PlainCert, depth_of}
use Rattle.partitioner.specs.Below.{sum_below, count_below}
use Rattle.partition_graph.specs.Places.{nodes_in, is_drawn, max_below}
use Rattle.partition_graph.specs.Edges.{AreEdges}
use Rattle.partition_graph.specs.Groups.{AreGroups, group_at}

-- a byte of a name between quotes: `"`, `\` and `&` would mean something else there
abbrev pub escaped : ℕ → List ℕ
escaped b = if b == 34 then codes "\\\"" else if b == 92 then codes "\\\\" else if b == 38 then codes "&amp;" else b ∷ []

abbrev pub quoted : List ℕ → List ℕ
quoted name = flat_map escaped name

abbrev pub is_node_register : Option Node → Bool
is_node_register None = false
is_node_register (Some (Table name cover pins)) = false
is_node_register (Some (Register name init pin)) = true

-- node x, counted from 0, is a register
abbrev pub is_register_at : Net → ℕ → Bool
is_register_at n x = is_node_register (node_of n (length n.inputs + x))

-- how many registers partition p has
unfoldable pub registers_in : Net → PlainCert → ℕ → ℕ
registers_in n k p = count_below (length k.part) (λ x. slice_index k.part x == p && is_register_at n x)

-- the most nodes of a partition
unfoldable pub most_nodes : PlainCert → ℕ
most_nodes k = max_below (length k.depth) (nodes_in k)

-- the width of a partition's border: from 1, for no nodes, to 5, for the most nodes of a partition
abbrev pub border : PlainCert → ℕ → ℕ
border k p = 1 + (4 * nodes_in k p) / max (most_nodes k) 1

-- the box of partition p: `pP [label="P\nA nodes\nS registers\ndepth D", penwidth=W];`
unfoldable pub box_text : ℕ → ℕ → ℕ → ℕ → ℕ → List ℕ
box_text p nodes registers depth width =
    concat (codes "p" ∷ decimal p ∷ codes " [label=\"" ∷ decimal p ∷ codes "\\n" ∷ decimal nodes ∷ codes " nodes\\n" ∷ decimal registers
    ∷ codes " registers\\ndepth " ∷ decimal depth ∷ codes "\", penwidth=" ∷ decimal width ∷ codes "];" ∷ [])

-- the box in a frame with the path as its label; all boxes with that path stand in the same frame
unfoldable pub framed : List ℕ → List ℕ → List ℕ
framed path box =
    concat (codes "  subgraph \"cluster_" ∷ quoted path ∷ codes "\" { label=\"" ∷ quoted path ∷ codes "\"; " ∷ box ∷ codes " }\n" ∷ [])

-- the box without a frame
unfoldable pub unframed : List ℕ → List ℕ
unframed box = concat (codes "  " ∷ box ∷ codes "\n" ∷ [])

abbrev pub box_line : List ℕ → List ℕ → List ℕ
box_line [] box = unframed box
box_line (b ∷ path) box = framed (b ∷ path) box

-- the line of partition p, if it is drawn
abbrev pub part_line_in : Net → PlainCert → List ℕ → ℕ → List ℕ
part_line_in n k path p =
    if is_drawn k p then box_line path (box_text p (nodes_in k p) (registers_in n k p) (depth_of k p) (border k p)) else []

abbrev pub part_line : Net → PlainCert → List (List ℕ) → ℕ → List ℕ
part_line n k groups p = part_line_in n k (group_at groups p) p

-- the number of a partition counts if it is not drawn
abbrev pub if_not_drawn : PlainCert → (ℕ → ℕ) → ℕ → ℕ
if_not_drawn k f p = if is_drawn k p then 0 else f p

abbrev pub one : ℕ → ℕ
one p = 1

-- the sum and the greatest of f at the partitions that are not drawn
unfoldable pub rest_sum : PlainCert → (ℕ → ℕ) → ℕ
rest_sum k f = sum_below (length k.depth) (if_not_drawn k f)

unfoldable pub rest_max : PlainCert → (ℕ → ℕ) → ℕ
rest_max k f = max_below (length k.depth) (if_not_drawn k f)

-- the box of the partitions that are not drawn: `rest [label="N other partitions\nA nodes\nS registers\ndepth at most D", style=dashed];`
unfoldable pub rest_text : ℕ → ℕ → ℕ → ℕ → List ℕ
rest_text count nodes registers depth =
    concat (codes "  rest [label=\"" ∷ decimal count ∷ codes " other partitions\\n" ∷ decimal nodes ∷ codes " nodes\\n" ∷ decimal registers
    ∷ codes " registers\\ndepth at most " ∷ decimal depth ∷ codes "\", style=dashed];\n" ∷ [])

-- its line, if there are some
abbrev pub rest_line : ℕ → ℕ → ℕ → ℕ → List ℕ
rest_line count nodes registers depth = if count == 0 then [] else rest_text count nodes registers depth

abbrev pub others_line : Net → PlainCert → List ℕ
others_line n k = rest_line (rest_sum k one) (rest_sum k (nodes_in k)) (rest_sum k (registers_in n k)) (rest_max k (depth_of k))

-- the name of a place in the text, where there are so many partitions
unfoldable pub place_name : ℕ → ℕ → List ℕ
place_name parts a =
    if nat_lt a parts then codes "p" ++ decimal a else if a == parts then codes "rest" else if a == parts + 1 then codes "inputs" else codes "outputs"

-- `A -> B [label=N];`
unfoldable pub edge_line : ℕ → (ℕ × ℕ) × ℕ → List ℕ
edge_line parts e =
    concat (codes "  " ∷ place_name parts e.0.0 ∷ codes " -> " ∷ place_name parts e.0.1 ∷ codes " [label=" ∷ decimal e.1 ∷ codes "];\n" ∷ [])

-- the first lines, with the model's name, and how many inputs and outputs there are
unfoldable pub head_text : Net → List ℕ
head_text n =
    concat (codes "digraph partitions {\n  label=\"" ∷ quoted n.model ∷ codes "\";\n  node [shape=box];\n  inputs [label=\"inputs\\n"
    ∷ decimal (length n.inputs) ∷ codes "\", shape=ellipse];\n  outputs [label=\"outputs\\n"
    ∷ decimal (length n.outputs) ∷ codes "\", shape=ellipse];\n" ∷ [])

-- the whole text
abbrev pub picture_text : Net → PlainCert → List (List ℕ) → BTreeMap (ℕ × ℕ) ℕ → List ℕ
picture_text n k groups edges =
    head_text n
    ++ (flat_map (part_line n k groups) (range_with_len 0 (length k.depth))
    ++ (others_line n k ++ (flat_map (edge_line (length k.depth)) edges.entries ++ codes "}\n")))

-- the text of the picture of a hardened design's partitions
pub record IsPicture (n : Net) (k : PlainCert) (text : List ℕ) : Type 0 where
  pub groups : List (List ℕ)
  pub edges : BTreeMap (ℕ × ℕ) ℕ
  pub are_groups : AreGroups n k groups
  pub are_edges : AreEdges n k edges
  pub text_is : text ≡ picture_text n k groups edges
