-- Nodes kept as lists side by side: names, bodies, and all pins in one list that is cut at the places where a node's pins end.
use Rattle.std.specs.Prelude.{◌≡◌, ℕ, ◌+◌, ◌≤◌, List, [], ◌∷◌, slice_index, slice_range}
use Rattle.flat_net.specs.declared.nodes.Body.{Body}
use Rattle.flat_net.specs.declared.nodes.Body.TheVariants.{TableBody, RegisterBody}
use Rattle.flat_net.specs.Net.{Node, Table, Register}

-- a table's pins are all that stand in its part of the list, and a register's pin is the first of them
abbrev pub node_from : List ℕ → Body → List ℕ → Node
node_from name (TableBody cover) pins = Table name cover pins
node_from name (RegisterBody init) pins = Register name init (slice_index pins 0)

-- the nodes, of which the first has its pins from `from` on
abbrev pub nodes_from : ℕ → List (List ℕ) → List Body → List ℕ → List ℕ → List Node
nodes_from from names [] ends pins = []
nodes_from from [] (body ∷ bodies) ends pins = []
nodes_from from (name ∷ names) (body ∷ bodies) [] pins = []
nodes_from from (name ∷ names) (body ∷ bodies) (end ∷ ends) pins =
    node_from name body (slice_range pins from end) ∷ nodes_from end names bodies ends pins

-- a register has one pin
abbrev pub HasPins : Body → ℕ → ℕ → Type 0
HasPins (TableBody cover) from end = Unit {0}
HasPins (RegisterBody init) from end = end ≡ from + 1

-- one end for each body; the ends never fall, and the last is the number of all pins
abbrev pub AreEnds : ℕ → List Body → List ℕ → ℕ → Type 0
AreEnds from [] [] count = from ≡ count
AreEnds from [] (end ∷ ends) count = ⊥
AreEnds from (body ∷ bodies) [] count = ⊥
AreEnds from (body ∷ bodies) (end ∷ ends) count = (from ≤ end) × HasPins body from end × AreEnds end bodies ends count
