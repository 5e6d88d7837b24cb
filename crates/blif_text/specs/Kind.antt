-- When a statement is bad, and the kind that it is refused with: the first that fits.
--
-- Each definition tries its kinds in the order in which they are written. A statement is judged after the list of
-- those before it, which stand in the order of the text.
use Rattle.std.specs.Prelude.{ℕ, ◌-◌, ◌==◌, Bool, true, false, ◌&&◌, ◌||◌, not, List, [], ◌∷◌, ◌++◌, length, Option, Some, None, option_map, option_and_then, position, is_some, codes, if◌then◌else◌}
use Rattle.std.specs.List.{list_all, list_any, before_first, after_first}
use Rattle.std.specs.Str.{bytes_eq}
use Rattle.tmr_base.specs.Names.{is_name}
use Rattle.table_cover.specs.Cover.{is_mark}
use Rattle.table_cover.specs.Pushing.{is_output}
use Rattle.blif_text.specs.declared.fault.TextKind.{TextKind}
use Rattle.blif_text.specs.declared.fault.TextKind.TheVariants.{NoModel, Unsupported, BadName, BadRow, MixedCover, BadLatch, BadBinding, DuplicatePort, DuplicateModel, RowOutside, Arguments}
use Rattle.blif_text.specs.declared.statements.word.Word.{Word}
use Rattle.blif_text.specs.declared.statements.word.Word.TheVariants.{Model, Inputs, Outputs, Clock, Names, Latch, Subckt, End, Unknown, Row}
use Rattle.blif_text.specs.Text.{Statement}

-- the kind, where the test passes
abbrev pub when : Bool → TextKind → Option TextKind
when true kind = Some kind
when false kind = None

-- the first kind, or else the second
infixr 20 ◌or_else◌
abbrev pub ◌or_else◌ : Option TextKind → Option TextKind → Option TextKind
(Some kind) or_else second = Some kind
None or_else second = second

-- a name that is none
unfoldable pub name_kind : List ℕ → Option TextKind
name_kind token = when (not (is_name token)) BadName

-- names of which one is none
unfoldable pub names_kind : List (List ℕ) → Option TextKind
names_kind [] = None
names_kind (token ∷ tokens) = name_kind token or_else names_kind tokens

abbrev pub is_among : List (List ℕ) → List ℕ → Bool
is_among names name = list_any (bytes_eq name) names

abbrev pub is_empty : List (List ℕ) → Bool
is_empty tokens = length tokens == 0

-- What the arguments of one statement decide.

-- `.model NAME`, where the file has models of these names
unfoldable pub model_kind : List (List ℕ) → List (List ℕ) → Option TextKind
model_kind models (name ∷ []) = name_kind name or_else when (is_among models name) DuplicateModel
model_kind models _ = Some Arguments

-- a name that is none, or one that is listed already
unfoldable pub port_kind : List (List ℕ) → List ℕ → Option TextKind
port_kind listed name = name_kind name or_else when (is_among listed name) DuplicatePort

-- `.inputs`, `.outputs` and `.clock`, token by token, where the model's lists of this word have these names
unfoldable pub ports_kind : List (List ℕ) → List (List ℕ) → Option TextKind
ports_kind listed [] = None
ports_kind listed (name ∷ names) =
    port_kind listed name or_else ports_kind (listed ++ name ∷ []) names

-- `.names I1 .. Ik O`
unfoldable pub table_kind : List (List ℕ) → Option TextKind
table_kind tokens = when (is_empty tokens) Arguments or_else names_kind tokens

-- TYPE: on the rising or the falling edge; active on a level is known and not supported
unfoldable pub type_kind : List ℕ → Option TextKind
type_kind token =
    if bytes_eq token (codes "re") || bytes_eq token (codes "fe") then None
    else if bytes_eq token (codes "ah") || bytes_eq token (codes "al") || bytes_eq token (codes "as") then Some Unsupported
    else Some BadLatch

-- INIT: 0, 1, 2 (don't care) or 3 (unknown)
unfoldable pub init_kind : List ℕ → Option TextKind
init_kind token = when (not (bytes_eq token (codes "0") || bytes_eq token (codes "1") || bytes_eq token (codes "2") || bytes_eq token (codes "3"))) BadLatch

-- D and Q
unfoldable pub ends_kind : List ℕ → List ℕ → Option TextKind
ends_kind pin out = name_kind pin or_else name_kind out

-- TYPE CONTROL
unfoldable pub control_kind : List ℕ → List ℕ → Option TextKind
control_kind type token = type_kind type or_else name_kind token

-- `.latch D Q [TYPE CONTROL] [INIT]`
unfoldable pub latch_kind : List (List ℕ) → Option TextKind
latch_kind (pin ∷ out ∷ []) = ends_kind pin out
latch_kind (pin ∷ out ∷ init ∷ []) = ends_kind pin out or_else init_kind init
latch_kind (pin ∷ out ∷ type ∷ control ∷ []) = ends_kind pin out or_else control_kind type control
latch_kind (pin ∷ out ∷ type ∷ control ∷ init ∷ []) = ends_kind pin out or_else control_kind type control or_else init_kind init
latch_kind _ = Some Arguments

-- a formal and an actual, split at the first `=`
abbrev pub is_equals : ℕ → Bool
is_equals b = b == 61

abbrev pub formal : List ℕ → List ℕ
formal token = before_first is_equals token

abbrev pub actual : List ℕ → List ℕ
actual token = after_first is_equals token

abbrev pub is_binding : List ℕ → Bool
is_binding token = is_some (position is_equals token) && is_name (formal token) && is_name (actual token)

unfoldable pub binding_kind : List ℕ → Option TextKind
binding_kind token = when (not (is_binding token)) BadBinding

unfoldable pub bindings_kind : List (List ℕ) → Option TextKind
bindings_kind [] = None
bindings_kind (token ∷ tokens) = binding_kind token or_else bindings_kind tokens

-- `.subckt MODEL FORMAL=ACTUAL ..`
unfoldable pub instance_kind : List (List ℕ) → Option TextKind
instance_kind [] = Some Arguments
instance_kind (model ∷ bindings) = name_kind model or_else bindings_kind bindings

-- Rows.

-- a row's marks, one a pin, and its output
pub record Marks : Type 0 where
  pub marks : List ℕ
  pub output : ℕ

-- a row of a table without pins is its output alone, one byte
abbrev pub row_alone : List (List ℕ) → Option Marks
row_alone ((output ∷ []) ∷ []) = Some (record { marks = []; output = output })
row_alone _ = None

-- any other row is two tokens: its marks, and its output, one byte
abbrev pub row_wide : List (List ℕ) → Option Marks
row_wide (marks ∷ (output ∷ []) ∷ []) = Some (record { marks = marks; output = output })
row_wide _ = None

abbrev pub row_parts : ℕ → List (List ℕ) → Option Marks
row_parts width tokens = if width == 0 then row_alone tokens else row_wide tokens

-- as many marks as the table has pins, each `0`, `1` or `-`, and the output `0` or `1`
abbrev pub is_row : ℕ → Marks → Bool
is_row width row = (length row.marks == width) && (list_all is_mark row.marks && is_output row.output)

abbrev pub row_in : ℕ → Marks → Option Marks
row_in width row = if is_row width row then Some row else None

-- the row that these tokens are in a table of that many pins
unfoldable pub row_of : ℕ → List (List ℕ) → Option Marks
row_of width tokens = option_and_then (row_in width) (row_parts width tokens)

-- a table that may have a row next: its number of pins, and the output of its rows where it has some
pub record Shape : Type 0 where
  pub width : ℕ
  pub output : Option ℕ

-- all rows of a table have the same output
abbrev pub mixed_kind : Option ℕ → ℕ → Option TextKind
mixed_kind None output = None
mixed_kind (Some before) output = when (not (before == output)) MixedCover

abbrev pub marks_kind : Option ℕ → Option Marks → Option TextKind
marks_kind before None = Some BadRow
marks_kind before (Some row) = mixed_kind before row.output

unfoldable pub row_kind : Option Shape → List (List ℕ) → Option TextKind
row_kind None tokens = Some RowOutside
row_kind (Some table) tokens = marks_kind table.output (row_of table.width tokens)

-- What the statements before another decide. They stand in the order of the text.

-- names that statements of one word list, one statement after the other
unfoldable pub listed : (Word → Bool) → List Statement → List (List ℕ)
listed of [] = []
listed of (s ∷ rest) = if of s.word then s.arguments ++ listed of rest else listed of rest

abbrev pub is_model : Word → Bool
is_model Model = true
is_model _ = false

abbrev pub is_inputs : Word → Bool
is_inputs Inputs = true
is_inputs _ = false

abbrev pub is_outputs : Word → Bool
is_outputs Outputs = true
is_outputs _ = false

abbrev pub is_clock : Word → Bool
is_clock Clock = true
is_clock _ = false

-- the statements of the open model, one statement later: a `.model` begins it, and an `.end` ends it
abbrev pub in_model : Word → Statement → Option (List Statement) → Option (List Statement)
in_model Model s body = Some []
in_model End s body = None
in_model _ s body = option_map (λ body. body ++ s ∷ []) body

-- what is open behind these statements, where this was open before them
abbrev pub open_from : Option (List Statement) → List Statement → Option (List Statement)
open_from body [] = body
open_from body (s ∷ rest) = open_from (in_model s.word s body) rest

-- the statements of the open model behind its `.model`; none is open before the first `.model` and behind an `.end`
unfoldable pub open_model : List Statement → Option (List Statement)
open_model earlier = open_from None earlier

-- The table that may have a row next, one statement later: that of the statement itself, since rows follow their `.names` directly.
abbrev pub shape_from : Word → List (List ℕ) → Option Shape → Option Shape
shape_from Names tokens table = Some (record { width = length tokens - 1; output = None })
shape_from Row tokens table = option_and_then (λ t. option_map (λ row. record { width = t.width; output = Some row.output }) (row_of t.width tokens)) table
shape_from _ tokens table = None

abbrev pub tokens_of : Statement → List (List ℕ)
tokens_of s = s.first ∷ s.arguments

abbrev pub table_tokens : Word → Statement → List (List ℕ)
table_tokens Row s = tokens_of s
table_tokens _ s = s.arguments

-- the table that may have a row behind these statements, where this one might before them
abbrev pub table_from : Option Shape → List Statement → Option Shape
table_from table [] = table
table_from table (s ∷ rest) = table_from (shape_from s.word (table_tokens s.word s) table) rest

-- the table that may have a row next, behind these statements
unfoldable pub table_before : List Statement → Option Shape
table_before earlier = table_from None earlier

-- what of the open model decides
pub record Here : Type 0 where
  pub inputs : List (List ℕ)
  pub outputs : List (List ℕ)
  pub clocks : List (List ℕ)
  pub table : Option Shape

abbrev pub here_of : List Statement → Here
here_of body = record { inputs = listed is_inputs body; outputs = listed is_outputs body; clocks = listed is_clock body; table = table_before body }

unfoldable pub here : List Statement → Option Here
here earlier = option_map here_of (open_model earlier)

-- The kind.

-- of a statement in the open model
abbrev pub kind_here : Word → List (List ℕ) → Here → Statement → Option TextKind
kind_here Model models h s = model_kind models s.arguments
kind_here Inputs models h s = ports_kind h.inputs s.arguments
kind_here Outputs models h s = ports_kind h.outputs s.arguments
kind_here Clock models h s = ports_kind h.clocks s.arguments
kind_here Names models h s = table_kind s.arguments
kind_here Latch models h s = latch_kind s.arguments
kind_here Subckt models h s = instance_kind s.arguments
kind_here End models h s = when (not (is_empty s.arguments)) Arguments
kind_here Unknown models h s = Some Unsupported
kind_here Row models h s = row_kind h.table (tokens_of s)

abbrev pub kind_outside : Word → List (List ℕ) → Statement → Option TextKind
kind_outside Model models s = model_kind models s.arguments
kind_outside _ models s = Some NoModel

unfoldable pub kind_at : List (List ℕ) → Option Here → Statement → Option TextKind
kind_at models None s = kind_outside s.word models s
kind_at models (Some h) s = kind_here s.word models h s

-- the kind of a statement behind these earlier ones
abbrev pub kind : List Statement → Statement → Option TextKind
kind earlier s = kind_at (listed is_model earlier) (here earlier) s

-- a bad line
pub record Bad : Type 0 where
  pub line : ℕ
  pub kind : TextKind

abbrev pub bad_or : ℕ → Option TextKind → Option Bad → Option Bad
bad_or line None rest = rest
bad_or line (Some kind) rest = Some (record { line = line; kind = kind })

-- the first bad one of these statements, behind earlier ones
unfoldable pub first_bad : List Statement → List Statement → Option Bad
first_bad earlier [] = None
first_bad earlier (s ∷ rest) = bad_or s.line (kind earlier s) (first_bad (earlier ++ s ∷ []) rest)
