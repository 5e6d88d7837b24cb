-- A flat synchronous design: inputs, then nodes, which are tables and registers.
use Rattle.std.specs.Prelude.{◌≡◌, ◌≢◌, ℕ, ◌+◌, ◌-◌, ◌<◌, ◌≤◌, Bool, true, false, nat_lt, List, [], ◌∷◌, ◌++◌, map, length, Option, Some, None, slice_get, slice_index, slice_index_or, position, sum_by, count_by, codes, All, Contains, IsSomeAnd, ⊤, if◌then◌else◌}
use Rattle.std.specs.List.{flat_map}
use Rattle.std.specs.Str.{bytes_eq}
use Rattle.tmr_base.specs.Names.{is_name}
use Rattle.tmr_base.specs.declared.ids.Edge.{Edge}
use Rattle.table_cover.specs.Cover.{PlainCover, IsCover}

-- a table has a cover and the net numbers of its pins; a register has its value in cycle 0 and the net number of its one pin
pub data Node : Type 0 where
  Table : (name : List ℕ) (cover : PlainCover) (pins : List ℕ) → Node
  Register : (name : List ℕ) (init : Bool) (pin : ℕ) → Node

-- a model's name, the names of its inputs, its nodes, the net numbers of its outputs, and its clock if there is one
pub record Net : Type 0 where
  pub model : List ℕ
  pub inputs : List (List ℕ)
  pub nodes : List Node
  pub outputs : List ℕ
  pub clock : Option (Edge × List ℕ)

-- net numbers count the inputs first and then the nodes
abbrev pub net_count : Net → ℕ
net_count n = length n.inputs + length n.nodes

-- entry x of a list whose first entry has the number start; None below and past the list
unfoldable pub slot : {A : Type 0} → ℕ → List A → ℕ → Option A
slot start xs x = if nat_lt x start then None else slice_get xs (x - start)

-- the node with net number x; an input has none
abbrev pub node_of : Net → ℕ → Option Node
node_of n x = slot (length n.inputs) n.nodes x

abbrev pub node_name : Node → List ℕ
node_name (Table name cover pins) = name
node_name (Register name init pin) = name

-- the names of all nets, in the order of their numbers
abbrev pub net_names : Net → List (List ℕ)
net_names n = n.inputs ++ map node_name n.nodes

abbrev pub name_of : Net → ℕ → List ℕ
name_of n x = slice_index_or (net_names n) x []

-- the number of the net with this name, if there is one
unfoldable pub net_named : Net → List ℕ → Option ℕ
net_named n name = position (bytes_eq name) (net_names n)

-- the pins of a node
abbrev pub pins_of : Node → List ℕ
pins_of (Table name cover pins) = pins
pins_of (Register name init pin) = pin ∷ []

-- the pins of a net, of which an input has none
abbrev pub pins_at : Option Node → List ℕ
pins_at None = []
pins_at (Some node) = pins_of node

-- the pins of all nodes, node by node
abbrev pub all_pins : Net → List ℕ
all_pins n = flat_map pins_of n.nodes

-- how many pins all nodes have together
abbrev pub pin_total : Net → ℕ
pin_total n = sum_by (λ node. length (pins_of node)) n.nodes

abbrev pub is_register : Node → Bool
is_register (Table name cover pins) = false
is_register (Register name init pin) = true

abbrev pub register_count : Net → ℕ
register_count n = count_by is_register n.nodes

-- the cover of a table; a register and an input have none
abbrev pub cover_at : Option Node → Option PlainCover
cover_at None = None
cover_at (Some (Table name cover pins)) = Some cover
cover_at (Some (Register name init pin)) = None

-- the value of a register in cycle 0; a table and an input have none
abbrev pub init_at : Option Node → Option Bool
init_at None = None
init_at (Some (Table name cover pins)) = None
init_at (Some (Register name init pin)) = Some init

abbrev pub IsTable : Option Node → Type 0
IsTable net = IsSomeAnd (cover_at net) (λ cover. ⊤)

abbrev pub IsRegister : Option Node → Type 0
IsRegister net = IsSomeAnd (init_at net) (λ init. ⊤)

-- the net is a table with this cover
abbrev pub IsCoverOf : Option Node → PlainCover → Type 0
IsCoverOf net k = IsSomeAnd (cover_at net) (λ cover. cover ≡ k)

-- the net is a register with this initial value
abbrev pub IsInitOf : Option Node → Bool → Type 0
IsInitOf net b = IsSomeAnd (init_at net) (λ init. init ≡ b)

-- the pins of a table
abbrev pub table_pins : Option Node → List ℕ
table_pins None = []
table_pins (Some (Table name cover pins)) = pins
table_pins (Some (Register name init pin)) = []

-- the number of a node
abbrev pub IsNode : Net → ℕ → Type 0
IsNode n x = (length n.inputs ≤ x) × (x < net_count n)

-- the net numbers of all nodes, each once, each table after each table that it reads
pub record IsOrder (n : Net) (order : List ℕ) : Type 0 where
  pub nodes : All (IsNode n) order
  pub complete : (x : ℕ) → IsNode n x → Contains order x
  pub once : (before after : List ℕ) (x : ℕ) → order ≡ before ++ x ∷ after → Contains before x → ⊥
  pub after : (before after : List ℕ) (x : ℕ) → order ≡ before ++ x ∷ after
      → All (λ pin. IsTable (node_of n pin) → Contains before pin) (table_pins (node_of n x))

-- a node's pins are nets, and a table has as many as its cover is wide
abbrev pub IsWired : ℕ → Node → Type 0
IsWired count (Table name cover pins) = All (λ x. x < count) pins × (length pins ≡ cover.width) × IsCover cover
IsWired count (Register name init pin) = pin < count

-- the clock is no net and is not called `NIL`, and it is there only where there is a register
abbrev pub IsClockOf : Net → Option (Edge × List ℕ) → Type 0
IsClockOf n None = Unit {0}
IsClockOf n (Some (edge, name)) = (is_name name ≡ true) × (name ≢ codes "NIL") × (Contains (net_names n) name → ⊥) × (0 < register_count n)

-- all that a valid design keeps, but for an order
pub record IsUnordered (n : Net) : Type 0 where
  pub model_is_name : is_name n.model ≡ true
  pub few : net_count n < 4294967295
  pub few_pins : pin_total n < 4294967295
  pub few_outputs : length n.outputs < 4294967295
  pub names_are_names : (x : ℕ) → x < net_count n → is_name (name_of n x) ≡ true
  pub names_differ : (x y : ℕ) → x < net_count n → y < net_count n → name_of n x ≡ name_of n y → x ≡ y
  pub wired : (x : ℕ) (node : Node) → node_of n x ≡ Some node → IsWired (net_count n) node
  pub outputs_in_range : All (λ x. x < net_count n) n.outputs
  pub outputs_differ : (j k : ℕ) → j < k → k < length n.outputs → slice_index n.outputs j ≢ slice_index n.outputs k
  pub clock : IsClockOf n n.clock

-- what each design keeps: its nodes can be evaluated in an order
pub record IsValid (n : Net) : Type 0 where
  pub unordered : IsUnordered n
  pub ordered : (order : List ℕ) × IsOrder n order

-- a design, and beside it an order in which its nodes can be evaluated
pub record Design : Type 0 where
  pub net : Net
  pub order : List ℕ

-- what each design that a program holds keeps
pub record IsDesign (d : Design) : Type 0 where
  pub valid : IsValid d.net
  pub order : IsOrder d.net d.order
