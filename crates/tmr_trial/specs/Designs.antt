-- The design that a number gives.
use Rattle.std.specs.Prelude.{ℕ, zero, suc, ◌+◌, ◌-◌, ◌==◌, Bool, true, false, List, [], ◌∷◌, ◌++◌, map, count_by, codes, min, Option, Some, None, if◌then◌else◌}
use Rattle.std.specs.List.{range_with_len}
use Rattle.std.specs.Fmt.{decimal}
use Rattle.tmr_base.specs.declared.ids.Edge.{Edge}
use Rattle.tmr_base.specs.declared.ids.Edge.TheVariants.{Rising}
use Rattle.table_cover.specs.Cover.{PlainCover}
use Rattle.flat_net.specs.Net.{Net, Node, Table, Register, is_register}
use Rattle.tmr_trial.specs.Numbers.{state_after, draw}

-- the inputs are `i0` to `i7`
abbrev pub input_text : ℕ → List ℕ
input_text i = codes "i" ++ decimal i

-- node i is `n` and its number
abbrev pub node_text : ℕ → List ℕ
node_text i = codes "n" ++ decimal i

-- both bits, some bit, one bit alone, not both
abbrev pub and_cover : PlainCover
and_cover = record { width = 2; is_on = true; rows = codes "11" ∷ [] }

abbrev pub or_cover : PlainCover
or_cover = record { width = 2; is_on = false; rows = codes "00" ∷ [] }

abbrev pub xor_cover : PlainCover
xor_cover = record { width = 2; is_on = true; rows = codes "10" ∷ codes "01" ∷ [] }

abbrev pub nand_cover : PlainCover
nand_cover = record { width = 2; is_on = false; rows = codes "11" ∷ [] }

-- the cover of number k
unfoldable pub gate : ℕ → PlainCover
gate k = if k == 0 then and_cover else if k == 1 then or_cover else if k == 2 then xor_cover else nand_cover

-- one node of four is a register
abbrev pub draws_register : ℕ → Bool
draws_register s = draw s 0 4 == 0

-- node i of a design of so many nodes, drawn behind state s: a register draws its initial value and then its pin, of all
-- nets; a table draws its two pins, of the nets before it, and then its cover
unfoldable pub node_drawn : ℕ → ℕ → ℕ → Node
node_drawn nodes i s =
    if draws_register s then Register (node_text i) (draw s 1 2 == 1) (draw s 2 (8 + nodes))
    else Table (node_text i) (gate (draw s 3 4)) (draw s 1 (8 + i) ∷ draw s 2 (8 + i) ∷ [])

-- the state behind that node
unfoldable pub state_behind : ℕ → ℕ
state_behind s = if draws_register s then state_after 3 s else state_after 4 s

-- the state before node i, where `number` is that before the first
unfoldable pub state_at : ℕ → ℕ → ℕ
state_at number zero = number
state_at number (suc i) = state_behind (state_at number i)

abbrev pub node_at : ℕ → ℕ → ℕ → Node
node_at number nodes i = node_drawn nodes i (state_at number i)

-- the first `count` nodes of a design of so many nodes
abbrev pub nodes_drawn : ℕ → ℕ → ℕ → List Node
nodes_drawn number nodes count = map (node_at number nodes) (range_with_len 0 count)

-- the clock is there only if there is a register
unfoldable pub clock_for : ℕ → Option (Edge × List ℕ)
clock_for registers = if registers == 0 then None else Some (Rising, codes "clk")

-- the net numbers of the last 8 nodes, or of all nodes if there are fewer
abbrev pub trial_outputs : ℕ → List ℕ
trial_outputs nodes = range_with_len (8 + (nodes - min nodes 8)) (min nodes 8)

-- the design of so many nodes that is drawn from this number
unfoldable pub design_of : ℕ → ℕ → Net
design_of number nodes = record {
  model = codes "trial";
  inputs = map input_text (range_with_len 0 8);
  nodes = nodes_drawn number nodes nodes;
  outputs = trial_outputs nodes;
  clock = clock_for (count_by is_register (nodes_drawn number nodes nodes));
}
