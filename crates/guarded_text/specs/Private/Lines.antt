-- Only private functions cite this: the lines of the copies of nodes, told node by node of the original.
use Rattle.std.specs.Prelude.{◌≡◌, ℕ, false, List, [], ◌∷◌, ◌++◌, map, codes, Option, Some, None}
use Rattle.std.specs.Option.{option_map}
use Rattle.tmr_base.specs.declared.ids.Edge.{Edge}
use Rattle.tmr_base.specs.Names.{clock_text}
use Rattle.table_cover.specs.Cover.{PlainCover}
use Rattle.flat_net.specs.Net.{Net, Node, Table, Register, name_of, IsCoverOf}
use Rattle.blif_writer.specs.Text.{control_words, init_word, start_of, row_lines, lines_text}
use Rattle.guarded_text.specs.Private.Spelled.{tailed}

-- the clock of the guarded design
abbrev pub guarded_clock : Option (Edge × List ℕ) → Option (Edge × List ℕ)
guarded_clock clock = option_map (λ c. (c.0, clock_text c.1)) clock

-- the names of nets, a tilde and this byte behind each
abbrev pub all_tailed : Net → ℕ → List ℕ → List (List ℕ)
all_tailed n byte nets = map (λ x. tailed (name_of n x) byte) nets

-- the lines of the copy of a node whose names end in this byte
abbrev pub copy_lines : Net → ℕ → Option Node → List (List (List ℕ))
copy_lines n byte None = []
copy_lines n byte (Some (Table name cover pins)) = (codes ".names" ∷ (all_tailed n byte pins ++ tailed name byte ∷ [])) ∷ row_lines cover
copy_lines n byte (Some (Register name init pin)) =
    (codes ".latch" ∷ tailed (name_of n pin) byte ∷ tailed name byte
    ∷ (control_words (guarded_clock n.clock) ++ init_word (start_of false init) ∷ [])) ∷ []

abbrev pub copy_text : Net → ℕ → Option Node → List ℕ
copy_text n byte node = lines_text (copy_lines n byte node)

-- the lines of both copies of a node: names end in `0` and in `1`
abbrev pub twins_text : Net → Node → List ℕ
twins_text n node = copy_text n 48 (Some node) ++ copy_text n 49 (Some node)

-- the lines of a table's rows; of another net it says nothing
abbrev pub AreRowsOf : Option Node → List ℕ → Type 0
AreRowsOf net rows = (k : PlainCover) → IsCoverOf net k → rows ≡ lines_text (row_lines k)
