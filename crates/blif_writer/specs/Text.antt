-- The flat text of a design, as a list of lines, each of them a list of words. `free` are the marks of registers whose value in
-- cycle 0 is free, one for each node.
use Rattle.std.specs.Prelude.{ℕ, Bool, true, false, List, [], ◌∷◌, ◌++◌, map, codes, Option, Some, None}
use Rattle.std.specs.List.{flat_map, join_with_byte}
use Rattle.blif_text.specs.declared.library.Init.{Init}
use Rattle.blif_text.specs.declared.library.Init.TheVariants.{Zero, One, Free, Unknown}
use Rattle.tmr_base.specs.declared.ids.Edge.{Edge}
use Rattle.tmr_base.specs.declared.ids.Edge.TheVariants.{Rising, Falling}
use Rattle.table_cover.specs.Cover.{PlainCover}
use Rattle.flat_net.specs.Net.{Net, Node, Table, Register, name_of}

-- `1` or `0`: the output of a table's rows
abbrev pub bit : Bool → List ℕ
bit true = codes "1"
bit false = codes "0"

-- a register's value in cycle 0
abbrev pub init_word : Init → List ℕ
init_word Zero = codes "0"
init_word One = codes "1"
init_word Free = codes "2"
init_word Unknown = codes "3"

-- that of a marked register is unknown
abbrev pub start_of : Bool → Bool → Init
start_of true init = Unknown
start_of false true = One
start_of false false = Zero

-- each node with its mark, of which there is one for each; where there is none, the node is not marked
unfoldable pub with_marks : List Bool → List Node → List (Node × Bool)
with_marks free [] = []
with_marks [] (node ∷ nodes) = (node, false) ∷ with_marks [] nodes
with_marks (bit ∷ free) (node ∷ nodes) = (node, bit) ∷ with_marks free nodes

abbrev pub edge_word : Edge → List ℕ
edge_word Rising = codes "re"
edge_word Falling = codes "fe"

-- `MARKS OUTPUT`; a row without marks is its output alone
abbrev pub row_line : Bool → List ℕ → List (List ℕ)
row_line is_on [] = bit is_on ∷ []
row_line is_on (mark ∷ marks) = (mark ∷ marks) ∷ bit is_on ∷ []

-- the rows of a cover, in order
abbrev pub row_lines : PlainCover → List (List (List ℕ))
row_lines k = map (row_line k.is_on) k.rows

-- the names of nets
abbrev pub net_words : Net → List ℕ → List (List ℕ)
net_words n nets = map (name_of n) nets

-- the clock's name, where there is a clock
abbrev pub clock_words : Option (Edge × List ℕ) → List (List ℕ)
clock_words None = []
clock_words (Some (edge, clock)) = clock ∷ []

-- `E CLOCK`, where there is a clock
abbrev pub control_words : Option (Edge × List ℕ) → List (List ℕ)
control_words None = []
control_words (Some (edge, clock)) = edge_word edge ∷ clock ∷ []

-- `.names PINS NAME` and the table's rows; `.latch D Q I` or `.latch D Q E CLOCK I`
abbrev pub node_lines : Net → Node × Bool → List (List (List ℕ))
node_lines n (Table name cover pins, free) = (codes ".names" ∷ (net_words n pins ++ name ∷ [])) ∷ row_lines cover
node_lines n (Register name init pin, free) =
    (codes ".latch" ∷ name_of n pin ∷ name ∷ (control_words n.clock ++ init_word (start_of free init) ∷ [])) ∷ []

-- `.model NAME`, `.inputs INPUTS CLOCK`, `.outputs OUTPUTS`, the lines of each node in order, `.end`
unfoldable pub free_lines : Net → List Bool → List (List (List ℕ))
free_lines n free =
    (codes ".model" ∷ n.model ∷ []) ∷
    (codes ".inputs" ∷ (n.inputs ++ clock_words n.clock)) ∷
    (codes ".outputs" ∷ net_words n n.outputs) ∷
    (flat_map (node_lines n) (with_marks free n.nodes) ++ (codes ".end" ∷ []) ∷ [])

-- words with one blank between each two, and a line feed
abbrev pub line_text : List (List ℕ) → List ℕ
line_text words = join_with_byte 32 words ++ 10 ∷ []

-- the lines of a text, one after the other
abbrev pub lines_text : List (List (List ℕ)) → List ℕ
lines_text lines = flat_map line_text lines

-- the flat text of a design with these marks
abbrev pub free_text : Net → List Bool → List ℕ
free_text n free = lines_text (free_lines n free)

-- the flat text of a design
abbrev pub flat_text : Net → List ℕ
flat_text n = free_text n []
