-- How many bytes a flat text has.
use Rattle.std.specs.Prelude.{ℕ, ◌+◌, List, sum_by}
use Rattle.flat_net.specs.Net.{Net, Node, Table, Register, name_of}
use Rattle.library_faults.specs.FlatText.{spaced, all_spaced, rows_length, control_length}
use Rattle.blif_writer.specs.Text.{clock_words}

-- the names of nets, a blank before each
abbrev pub nets_length : Net → List ℕ → ℕ
nets_length n nets = sum_by (λ x. spaced (name_of n x)) nets

-- `.names PINS NAME` and the rows; `.latch D Q I` or `.latch D Q E CLOCK I`
abbrev pub node_length : Net → Node → ℕ
node_length n (Table name cover pins) = 7 + nets_length n pins + spaced name + rows_length cover
node_length n (Register name init pin) = 9 + spaced (name_of n pin) + spaced name + control_length n.clock

-- the four lines that each text has, and those of the nodes
unfoldable pub flat_length : Net → ℕ
flat_length n =
    (7 + spaced n.model)
    + (8 + all_spaced n.inputs + all_spaced (clock_words n.clock))
    + (9 + nets_length n n.outputs)
    + 5
    + sum_by (node_length n) n.nodes
