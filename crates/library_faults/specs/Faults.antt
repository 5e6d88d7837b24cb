-- The faults of `.subckt` statements, each statement by itself.
use Rattle.std.specs.Prelude.{ℕ, ◌||◌, not, List, [], ◌∷◌, ◌++◌, map, Option, Some, None, option_map, option_and_then, find, slice_get, if◌then◌else◌}
use Rattle.blif_text.specs.Kind.{is_among}
use Rattle.blif_text.specs.Models.{PlainElement, Table, Register, Instance, PlainModel}
use Rattle.library_faults.specs.declared.fault.PlacingFault.{PlacingFault}
use Rattle.library_faults.specs.declared.fault.PlacingFault.TheVariants.{UnknownModel, UnboundInput, UnknownFormal, DuplicateFormal, BothWays}
use Rattle.library_faults.specs.Graph.{names_of, number_named}
use Rattle.library_faults.specs.Ports.{PlainPorts, ports_of}

-- the first fault, or else the second
infixr 20 ◌or_else◌
abbrev pub ◌or_else◌ : Option PlacingFault → Option PlacingFault → Option PlacingFault
(Some fault) or_else second = Some fault
None or_else second = second

-- the first input of the placed model that is also an output of it
unfoldable pub both_ways : PlainPorts → Option PlacingFault
both_ways p = option_map BothWays (find (is_among p.outputs) p.inputs)

-- a formal that is no input or output of the placed model, or that is bound already
unfoldable pub formal_fault : PlainPorts → List (List ℕ) → List ℕ → Option PlacingFault
formal_fault p bound formal =
    if not (is_among p.inputs formal || is_among p.outputs formal) then Some (UnknownFormal formal)
    else if is_among bound formal then Some (DuplicateFormal formal)
    else None

-- the first fault of formals, where those before them are bound
unfoldable pub formals_fault : PlainPorts → List (List ℕ) → List (List ℕ) → Option PlacingFault
formals_fault p bound [] = None
formals_fault p bound (formal ∷ formals) = formal_fault p bound formal or_else formals_fault p (bound ++ formal ∷ []) formals

-- the first input of the placed model without a binding
unfoldable pub unbound_input : PlainPorts → List (List ℕ) → Option PlacingFault
unbound_input p formals = option_map UnboundInput (find (λ input. not (is_among formals input)) p.inputs)

abbrev pub formal_of : List ℕ × List ℕ → List ℕ
formal_of binding = binding.0

-- a statement that binds these formals of a model with these inputs and outputs
unfoldable pub known_fault : PlainPorts → List (List ℕ) → Option PlacingFault
known_fault p formals = both_ways p or_else (formals_fault p [] formals or_else unbound_input p formals)

-- the same, where the library may have no such model
abbrev pub placing_fault : List ℕ → Option PlainPorts → List (List ℕ) → Option PlacingFault
placing_fault model None formals = Some (UnknownModel model)
placing_fault model (Some p) formals = known_fault p formals

-- the inputs and outputs of the model with this name
abbrev pub ports_named : List (List ℕ) → List PlainPorts → List ℕ → Option PlainPorts
ports_named names ports name = option_and_then (slice_get ports) (number_named names name)

abbrev pub element_fault : List (List ℕ) → List PlainPorts → PlainElement → Option PlacingFault
element_fault names ports (Table pins out cover) = None
element_fault names ports (Register pin out control init) = None
element_fault names ports (Instance model bindings) = placing_fault model (ports_named names ports model) (map formal_of bindings)

-- the first fault of statements, in a library whose models have these names, inputs and outputs
unfoldable pub elements_fault : List (List ℕ) → List PlainPorts → List PlainElement → Option PlacingFault
elements_fault names ports [] = None
elements_fault names ports (element ∷ elements) = element_fault names ports element or_else elements_fault names ports elements

-- the first fault of a model's statements
abbrev pub model_fault : List PlainModel → PlainModel → Option PlacingFault
model_fault library m = elements_fault (names_of library) (map ports_of library) m.elements
