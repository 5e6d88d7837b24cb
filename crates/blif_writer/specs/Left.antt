-- Pieces of a text that is being written.
use Rattle.std.specs.Prelude.{ℕ, Bool, List, [], ◌∷◌, ◌++◌, drop, Option, Some, None}
use Rattle.std.specs.List.{flat_map}
use Rattle.flat_net.specs.Net.{Net, Node}
use Rattle.blif_writer.specs.Text.{with_marks, node_lines, lines_text}

-- words, a blank before each
abbrev pub spaced : List (List ℕ) → List ℕ
spaced words = flat_map (λ word. 32 ∷ word) words

-- a line of words, of which this is the first
abbrev pub spaced_line : List ℕ → List (List ℕ) → List ℕ
spaced_line first words = first ++ (spaced words ++ 10 ∷ [])

-- the lines of a net, of which an input has none
abbrev pub lines_at : Net → Option Node → Bool → List (List (List ℕ))
lines_at n None free = []
lines_at n (Some node) free = node_lines n (node, free)

-- the lines of the nodes but the first i
abbrev pub nodes_left : Net → List Bool → ℕ → List ℕ
nodes_left n free i = lines_text (flat_map (node_lines n) (drop i (with_marks free n.nodes)))
