-- How many tables stand on the longest path of a design: the figure by which its clock falls.
use Rattle.std.specs.Prelude.{◌≡◌, ℕ, ◌+◌, ◌<◌, ◌≤◌, ◌⊎◌, List, [], ◌∷◌, Option, Some, None, Contains}
use Rattle.flat_net.specs.Net.{Net, Node, Table, Register, net_count, node_of, table_pins, IsTable}

-- the pin of a register
abbrev pub register_pins : Option Node → List ℕ
register_pins None = []
register_pins (Some (Table name cover pins)) = []
register_pins (Some (Register name init pin)) = pin ∷ []

-- net x is an input or a register
abbrev pub IsStart : Net → ℕ → Type 0
IsStart n x = (x < net_count n) × (IsTable (node_of n x) → ⊥)

-- a path from an input or a register to net x on which so many tables stand, x with them if it is one: each table reads the net before it
pub data Path (n : Net) : ℕ → ℕ → Type 0 where
  begins : (x : ℕ) → IsStart n x → Path n x 0
  goes_on : (x y tables : ℕ) → Path n x tables → Contains (table_pins (node_of n y)) x → Path n y (tables + 1)

-- net x is an output, or a register reads it
abbrev pub IsEnd : Net → ℕ → Type 0
IsEnd n x = Contains n.outputs x ⊎ ((y : ℕ) × Contains (register_pins (node_of n y)) x)

-- so many tables stand on a path from an input or a register to a register or an output
pub record HasPath (n : Net) (tables : ℕ) : Type 0 where
  pub end : ℕ
  pub path : Path n end tables
  pub is_end : IsEnd n end

-- the most tables on such a path, or 0 where there is none
pub record AreLevels (n : Net) (levels : ℕ) : Type 0 where
  pub most : (tables : ℕ) → HasPath n tables → tables ≤ levels
  pub some : (levels ≡ 0) ⊎ HasPath n levels
