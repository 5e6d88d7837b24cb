-- Only private functions cite this: a cycle of which some nets have their values already.
use Rattle.std.specs.Prelude.{◌≡◌, ℕ, ◌<◌, Bool, false, List, length, Option, Some, None, slice_index, if◌then◌else◌}
use Rattle.table_cover.specs.Words.{word_bit}
use Rattle.flat_net.specs.Net.{Net, Node, net_count, node_of, IsTable, IsRegister}
use Rattle.net_meaning.specs.Meaning.{bit, node_value}
use Rattle.net_simulator.specs.Forced.{forced_value}
use Rattle.net_simulator.specs.declared.marks.Marks.{Marks}

-- what a node's equation gives it
abbrev pub own_value : Option Node → ℕ → List Bool → List Bool → Bool
own_value None t before v = false
own_value (Some node) t before v = node_value node None t before v

-- the nets of which P holds meet their equations
pub record IsSettled (n : Net) (t : ℕ) (ins before : List Bool) (forced : ℕ → Option Bool) (P : ℕ → Type 0) (v : List Bool) : Type 0 where
  pub wide : length v ≡ net_count n
  pub equations : (x : ℕ) → x < net_count n → P x → bit v x ≡ forced_value (node_of n x) (forced x) t ins before v x

-- a net that is no node
abbrev pub IsInput : Net → ℕ → Type 0
IsInput n x = (IsTable (node_of n x) → ⊥) × (IsRegister (node_of n x) → ⊥)

-- a net that is no table, and if a register, then one of the first `count` of these
abbrev pub IsHeldAmong : Net → List ℕ → ℕ → ℕ → Type 0
IsHeldAmong n nets count x = (IsTable (node_of n x) → ⊥) × (IsRegister (node_of n x) → (i : ℕ) × (i < count) × (slice_index nets i ≡ x))

-- a net that is no table
abbrev pub IsNoTable : Net → ℕ → Type 0
IsNoTable n x = IsTable (node_of n x) → ⊥

-- a net that is no table, or one of the first `count` of these
abbrev pub IsAmong : Net → List ℕ → ℕ → ℕ → Type 0
IsAmong n nets count x = IsTable (node_of n x) → (i : ℕ) × (i < count) × (slice_index nets i ≡ x)

-- the value is forced where the mask says so
abbrev pub mark : Bool → Bool → Option Bool
mark mask value = if mask then Some value else None

-- what run j forces on net x
abbrev pub marked : Marks → ℕ → ℕ → Option Bool
marked m j x = if bit m.forced.items x then mark (word_bit j (slice_index m.masks.items x)) (word_bit j (slice_index m.values.items x)) else None

-- there are marks for so many nets
pub record AreMarks (count : ℕ) (m : Marks) : Type 0 where
  pub forced : length m.forced.items ≡ count
  pub masks : length m.masks.items ≡ count
  pub values : length m.values.items ≡ count

-- the first cycle has the number 0, and each later one counts as 1
abbrev pub number_of_cycle : Bool → ℕ
number_of_cycle started = if started then 1 else 0

-- each net
abbrev pub IsAnyNet : ℕ → Type 0
IsAnyNet x = Unit {0}

-- the values of the last cycle, if there was one
abbrev pub last_of : {A : Type 0} → Bool → A → Option A
last_of started last = if started then Some last else None
