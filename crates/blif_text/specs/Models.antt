-- The models that statements spell, where none is bad. The statements stand in their order here.
--
-- Names are their bytes, and lists of names are lists of lists of bytes.
use Rattle.std.specs.Prelude.{ℕ, ◌-◌, ◌==◌, Bool, true, false, List, [], ◌∷◌, ◌++◌, length, map, Option, Some, None, codes, if◌then◌else◌}
use Rattle.std.specs.Str.{bytes_eq}
use Rattle.blif_text.specs.declared.statements.word.Word.{Word}
use Rattle.blif_text.specs.declared.statements.word.Word.TheVariants.{Model, Inputs, Outputs, Clock, Names, Latch, Subckt, End, Row}
use Rattle.tmr_base.specs.declared.ids.Edge.{Edge}
use Rattle.tmr_base.specs.declared.ids.Edge.TheVariants.{Rising, Falling}
use Rattle.blif_text.specs.declared.library.Init.{Init}
use Rattle.blif_text.specs.declared.library.Init.TheVariants.{Zero, One, Free, Unknown as Unset}
use Rattle.table_cover.specs.Cover.{PlainCover}
use Rattle.blif_text.specs.Text.{Statement, all_but_last}
use Rattle.blif_text.specs.Kind.{is_among, Marks, row_of, tokens_of, formal, actual}
unfoldable pub use Rattle.blif_text.specs.Kind.{listed}

-- a table, a register or a placed model, whose bindings are pairs of a formal and an actual
pub data PlainElement : Type 0 where
  Table : (pins : List (List ℕ)) (out : List ℕ) (cover : PlainCover) → PlainElement
  Register : (pin out : List ℕ) (control : Option (Edge × List ℕ)) (init : Init) → PlainElement
  Instance : (model : List ℕ) (bindings : List (List ℕ × List ℕ)) → PlainElement

-- a model; its inputs and outputs are lists of names
pub record PlainModel : Type 0 where
  pub name : List ℕ
  pub inputs : List (List ℕ)
  pub outputs : List (List ℕ)
  pub elements : List PlainElement

-- the first token, where there is one
abbrev pub first_token : List (List ℕ) → List ℕ
first_token [] = []
first_token (token ∷ tokens) = token

abbrev pub last_token : List (List ℕ) → List ℕ
last_token [] = []
last_token (token ∷ []) = token
last_token (token ∷ next ∷ tokens) = last_token (next ∷ tokens)

-- the edge that TYPE says
abbrev pub edge : List ℕ → Edge
edge token = if bytes_eq token (codes "re") then Rising else Falling

-- CONTROL `NIL` means no control, and TYPE then counts for nothing
abbrev pub control : List ℕ → List ℕ → Option (Edge × List ℕ)
control type token = if bytes_eq token (codes "NIL") then None else Some (edge type, token)

-- the initial value that INIT says; it is unknown where INIT is absent
abbrev pub init : List ℕ → Init
init token = if bytes_eq token (codes "0") then Zero else if bytes_eq token (codes "1") then One else if bytes_eq token (codes "2") then Free else Unset

-- the register of the tokens after `.latch`
unfoldable pub register : List (List ℕ) → List PlainElement
register (pin ∷ out ∷ []) = Register pin out None Unset ∷ []
register (pin ∷ out ∷ start ∷ []) = Register pin out None (init start) ∷ []
register (pin ∷ out ∷ type ∷ clock ∷ []) = Register pin out (control type clock) Unset ∷ []
register (pin ∷ out ∷ type ∷ clock ∷ start ∷ []) = Register pin out (control type clock) (init start) ∷ []
register _ = []

abbrev pub binding : List ℕ → List ℕ × List ℕ
binding token = (formal token, actual token)

-- the placed model of the tokens after `.subckt`
unfoldable pub instance : List (List ℕ) → List PlainElement
instance [] = []
instance (model ∷ bindings) = Instance model (map binding bindings) ∷ []

abbrev pub row_then : Word → Option Marks → List Marks → List Marks
row_then Row (Some row) rows = row ∷ rows
row_then _ _ rows = []

-- the rows of a table of that many pins: those at the front of the statements that follow its `.names`
unfoldable pub rows : ℕ → List Statement → List Marks
rows width [] = []
rows width (s ∷ rest) = row_then s.word (row_of width (tokens_of s)) (rows width rest)

-- output `1` is polarity on; a table without rows has it on too
abbrev pub is_on : List Marks → Bool
is_on [] = true
is_on (row ∷ rows) = row.output == 49

-- the table of the tokens after `.names`, of which the last is the output, with these rows
unfoldable pub table : List (List ℕ) → List Marks → PlainElement
table tokens rows = Table (all_but_last tokens) (last_token tokens)
    (record { width = length (all_but_last tokens); is_on = is_on rows; rows = map (λ row. row.marks) rows })

abbrev pub element_then : Word → Statement → List Statement → List PlainElement → List PlainElement
element_then Names s rest elements = table s.arguments (rows (length s.arguments - 1) rest) ∷ elements
element_then Latch s rest elements = register s.arguments ++ elements
element_then Subckt s rest elements = instance s.arguments ++ elements
element_then _ s rest elements = elements

-- the elements of a model's statements, in their order
unfoldable pub elements : List Statement → List PlainElement
elements [] = []
elements (s ∷ rest) = element_then s.word s rest (elements rest)

abbrev pub is_port_in : Word → Bool
is_port_in Inputs = true
is_port_in Clock = true
is_port_in _ = false

abbrev pub is_port_out : Word → Bool
is_port_out Outputs = true
is_port_out _ = false

-- these names behind those, each once, in the order of first appearance
unfoldable pub appearing : List (List ℕ) → List (List ℕ) → List (List ℕ)
appearing names [] = names
appearing names (name ∷ more) = appearing (if is_among names name then names else names ++ name ∷ []) more

-- the model of that name with these statements; its inputs are the names of `.inputs` and `.clock`
unfoldable pub model : List ℕ → List Statement → PlainModel
model name body = record {
  name = name;
  inputs = appearing [] (listed is_port_in body);
  outputs = listed is_port_out body;
  elements = elements body;
}

abbrev pub own_then : Word → Statement → List Statement → List Statement
own_then Model s rest = []
own_then End s rest = []
own_then _ s rest = s ∷ rest

-- the statements up to the end of the model: `.end`, the next `.model`, or the end of the text
unfoldable pub own : List Statement → List Statement
own [] = []
own (s ∷ rest) = own_then s.word s (own rest)

abbrev pub model_then : Word → Statement → List Statement → List PlainModel → List PlainModel
model_then Model s body models = model (first_token s.arguments) body ∷ models
model_then _ s body models = models

-- the models that statements spell, in their order
unfoldable pub models : List Statement → List PlainModel
models [] = []
models (s ∷ rest) = model_then s.word s (own rest) (models rest)
