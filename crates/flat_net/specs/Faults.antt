-- The design of a draft, and the first fault of a draft that has none.
use Rattle.std.specs.Prelude.{◌≡◌, ℕ, Bool, true, false, not, ◌&&◌, ◌||◌, List, [], ◌∷◌, ◌++◌, map, filter, position, codes, Option, Some, None, Vec}
use Rattle.std.specs.List.{flat_map, list_any}
use Rattle.std.specs.Option.{unwrap_or}
use Rattle.std.specs.Str.{bytes_eq}
use Rattle.std.specs.declared.alloc.Global.{Global}
use Rattle.tmr_base.specs.declared.ids.Edge.{Edge}
use Rattle.tmr_base.specs.declared.ids.Edge.TheVariants.{Rising, Falling}
use Rattle.flat_net.specs.Net.{Net, Node, Table, Register, name_of, IsOrder}
use Rattle.flat_net.specs.Loop.{IsLoop}
use Rattle.flat_net.specs.First.{HasNone, IsFirst}
use Rattle.flat_net.specs.Draft.{PlainDraft, Element, TableOf, LatchOf, out_of, reads_of}
use Rattle.flat_net.specs.declared.fault.NetFault.{NetFault}
use Rattle.flat_net.specs.declared.fault.NetFault.TheVariants.{DoubleDriven, MixedClock, ClockUse, Undriven, CombLoop, Memory}

-- the name is one of these
abbrev pub is_among : List (List ℕ) → List ℕ → Bool
is_among names name = list_any (bytes_eq name) names

-- ---- the design

-- the control of the first latch, if there is a latch
abbrev pub first_control : List Element → Option (Option (Edge × List ℕ))
first_control [] = None
first_control (TableOf pins out cover ∷ elements) = first_control elements
first_control (LatchOf pin out control init ∷ elements) = Some control

-- the clock is the control of the first latch
abbrev pub clock_from : Option (Option (Edge × List ℕ)) → Option (Edge × List ℕ)
clock_from None = None
clock_from (Some control) = control

abbrev pub clock_of : PlainDraft → Option (Edge × List ℕ)
clock_of d = clock_from (first_control d.elements)

abbrev pub is_clock : Option (Edge × List ℕ) → List ℕ → Bool
is_clock None name = false
is_clock (Some (edge, clock)) name = bytes_eq clock name

-- the main inputs other than the clock
abbrev pub net_inputs : PlainDraft → List (List ℕ)
net_inputs d = filter (λ name. not (is_clock (clock_of d) name)) d.inputs

-- the names of the nets: the inputs, and then the elements' outputs
abbrev pub draft_names : PlainDraft → List (List ℕ)
draft_names d = net_inputs d ++ map out_of d.elements

-- the number of the net with this name
abbrev pub number_in : List (List ℕ) → List ℕ → ℕ
number_in names name = unwrap_or (position (bytes_eq name) names) 0

abbrev pub node_of_element : List (List ℕ) → Element → Node
node_of_element names (TableOf pins out cover) = Table out cover (map (number_in names) pins)
node_of_element names (LatchOf pin out control init) = Register out init (number_in names pin)

-- one node for each element
abbrev pub net_of_draft : PlainDraft → Net
net_of_draft d = record {
  model = d.model;
  inputs = net_inputs d;
  nodes = map (node_of_element (draft_names d)) d.elements;
  outputs = map (number_in (draft_names d)) d.outputs;
  clock = clock_of d;
}

-- ---- the faults, each given that those before it are not there

-- the element's output is a main input or the output of an earlier element
abbrev pub is_driven_before : List (List ℕ) → List Element → Element → Bool
is_driven_before inputs before element = is_among (inputs ++ map out_of before) (out_of element)

abbrev pub same_edge : Edge → Edge → Bool
same_edge Rising Rising = true
same_edge Rising Falling = false
same_edge Falling Rising = false
same_edge Falling Falling = true

-- both have no control, or both have one with the same edge and the same net
abbrev pub same_control : Option (Edge × List ℕ) → Option (Edge × List ℕ) → Bool
same_control None None = true
same_control None (Some b) = false
same_control (Some a) None = false
same_control (Some a) (Some b) = same_edge a.0 b.0 && bytes_eq a.1 b.1

-- the element is a latch with another clocking than this
abbrev pub is_unlike : Option (Edge × List ℕ) → Element → Bool
is_unlike first (TableOf pins out cover) = false
is_unlike first (LatchOf pin out control init) = not (same_control first control)

abbrev pub is_unlike_any : Option (Option (Edge × List ℕ)) → Element → Bool
is_unlike_any None element = false
is_unlike_any (Some first) element = is_unlike first element

-- the element is a latch whose clocking differs from that of the first latch
abbrev pub is_mixed : List Element → Element → Bool
is_mixed before element = is_unlike_any (first_control before) element

-- all pins, in the order of the elements
abbrev pub draft_reads : PlainDraft → List (List ℕ)
draft_reads d = flat_map reads_of d.elements

-- a clock that is named `NIL`, or is not a main input, or is a pin of some element, or is a main output
abbrev pub is_misused : PlainDraft → List ℕ → Bool
is_misused d clock = bytes_eq clock (codes "NIL") || not (is_among d.inputs clock) || is_among (draft_reads d) clock || is_among d.outputs clock

-- the name is no net
abbrev pub is_no_net : List (List ℕ) → List (List ℕ) → List ℕ → Bool
is_no_net names before name = not (is_among names name)

-- no element is driven twice
abbrev pub IsDrivenOnce : PlainDraft → Type 0
IsDrivenOnce d = HasNone (is_driven_before d.inputs) d.elements

-- all latches have the same clocking
abbrev pub HasOneClock : PlainDraft → Type 0
HasOneClock d = HasNone is_mixed d.elements

-- the clock, if there is one, is an input and nothing else
abbrev pub HasCleanClock : PlainDraft → Type 0
HasCleanClock d = (edge : Edge) (clock : List ℕ) → clock_of d ≡ Some (edge, clock) → is_misused d clock ≡ false

-- each pin and each main output is a net
abbrev pub IsDriven : PlainDraft → Type 0
IsDriven d = HasNone (is_no_net (draft_names d)) (draft_reads d ++ d.outputs)

-- no fault of a draft, of which a loop of tables is the last
pub record IsFaultless (d : PlainDraft) : Type 0 where
  pub driven_once : IsDrivenOnce d
  pub one_clock : HasOneClock d
  pub clean_clock : HasCleanClock d
  pub driven : IsDriven d
  pub ordered : (order : List ℕ) × IsOrder (net_of_draft d) order

-- the output of the first element that is driven before
abbrev pub IsDoubleDriven : PlainDraft → List ℕ → Type 0
IsDoubleDriven d name = (element : Element) × IsFirst (is_driven_before d.inputs) d.elements element × (out_of element ≡ name)

-- the output of the first latch whose clocking differs from that of the first latch of all
abbrev pub IsMixedClock : PlainDraft → List ℕ → Type 0
IsMixedClock d name = (element : Element) × IsFirst is_mixed d.elements element × (out_of element ≡ name)

abbrev pub IsClockUse : PlainDraft → List ℕ → Type 0
IsClockUse d name = (edge : Edge) × (clock_of d ≡ Some (edge, name)) × (is_misused d name ≡ true)

-- the first pin, and then the first main output, that is no net
abbrev pub IsUndriven : PlainDraft → List ℕ → Type 0
IsUndriven d name = IsFirst (is_no_net (draft_names d)) (draft_reads d ++ d.outputs) name

-- the names of tables that are a loop
abbrev pub IsCombLoop : PlainDraft → List (List ℕ) → Type 0
IsCombLoop d names = (tables : List ℕ) × IsLoop (net_of_draft d) tables × (names ≡ map (name_of (net_of_draft d)) tables)

-- the fault is there, and none of those before it
abbrev pub IsFaultOf : PlainDraft → NetFault → Type 0
IsFaultOf d (DoubleDriven name) = IsDoubleDriven d name
IsFaultOf d (MixedClock name) = IsDrivenOnce d × IsMixedClock d name
IsFaultOf d (ClockUse name) = IsDrivenOnce d × HasOneClock d × IsClockUse d name
IsFaultOf d (Undriven name) = IsDrivenOnce d × HasOneClock d × HasCleanClock d × IsUndriven d name
IsFaultOf d (CombLoop names) = IsDrivenOnce d × HasOneClock d × HasCleanClock d × IsDriven d × IsCombLoop d names.items
IsFaultOf d Memory = Unit {0}

-- the same fault, where a loop may be told by any list that is one
pub data IsSameFault : NetFault → NetFault → Type 0 where
  same : (fault : NetFault) → IsSameFault fault fault
  of_tables : (names others : Vec (List ℕ) Global) → IsSameFault (CombLoop names) (CombLoop others)
