-- What a reader of statements keeps of those that it has read: the models, and what the open one has so far.
use Rattle.std.specs.Prelude.{if◌then◌else◌, ◌≡◌, ◌==◌, ℕ, ◌-◌, List, [], ◌∷◌, ◌++◌, length, Option, Some, None, option_map, option_to_list}
use Rattle.blif_text.specs.declared.fault.TextKind.{TextKind}
use Rattle.blif_text.specs.declared.statements.word.Word.{Word}
use Rattle.blif_text.specs.declared.statements.word.Word.TheVariants.{Model, Inputs, Outputs, Clock, Names, Latch, Subckt, End, Row}
use Rattle.blif_text.specs.Text.{Statement}
use Rattle.blif_text.specs.Kind.{Shape, Here, Marks, row_of, tokens_of, kind_at, is_model}
use Rattle.blif_text.specs.Private.Latest.{here, lists}
use Rattle.table_cover.specs.Cover.{PlainCover}
use Rattle.blif_text.specs.Views.{bit, marked_rows}
use Rattle.blif_text.specs.Models.{PlainElement, PlainModel, appearing, listed, is_port_in, is_port_out, table, register, instance, rows, elements, own, models, first_token}

-- a table whose rows are being read: the tokens after `.names`, and the rows so far
pub record OpenTable : Type 0 where
  pub tokens : List (List ℕ)
  pub rows : List Marks

-- the output of the rows so far, where there are some
abbrev pub output_before : PlainCover → Option ℕ
output_before k = if length k.rows == 0 then None else Some (bit k.is_on)

abbrev pub table_view : List (List ℕ) → List ℕ → PlainCover → OpenTable
table_view pins out k = record { tokens = pins ++ out ∷ []; rows = marked_rows k }

-- the open model; ports has the names of inputs and clocks, each once
pub record OpenModel : Type 0 where
  pub name : List ℕ
  pub inputs : List (List ℕ)
  pub clocks : List (List ℕ)
  pub ports : List (List ℕ)
  pub outputs : List (List ℕ)
  pub elements : List PlainElement
  pub table : Option OpenTable

pub record Progress : Type 0 where
  pub models : List PlainModel
  pub names : List (List ℕ)
  pub open_model : Option OpenModel

-- nothing is read yet
abbrev pub nothing : Progress
nothing = record { models = []; names = []; open_model = None }

abbrev pub fresh : List ℕ → OpenModel
fresh name = record { name = name; inputs = []; clocks = []; ports = []; outputs = []; elements = []; table = None }

abbrev pub width_of : OpenTable → ℕ
width_of t = length t.tokens - 1

-- the output of the latest row
abbrev pub last_output : Option ℕ → List Marks → Option ℕ
last_output before [] = before
last_output before (row ∷ rows) = last_output (Some row.output) rows

abbrev pub shape_of : OpenTable → Shape
shape_of t = record { width = width_of t; output = last_output None t.rows }

abbrev pub here_in : OpenModel → Here
here_in m = record { inputs = m.inputs; outputs = m.outputs; clocks = m.clocks; table = option_map shape_of m.table }

-- the kind of the next statement
abbrev pub kind_in : Progress → Statement → Option TextKind
kind_in p s = kind_at p.names (option_map here_in p.open_model) s

-- the elements, where no more rows come
abbrev pub with_table : List PlainElement → Option OpenTable → List PlainElement
with_table elements None = elements
with_table elements (Some t) = elements ++ table t.tokens t.rows ∷ []

abbrev pub all_elements : OpenModel → List PlainElement
all_elements m = with_table m.elements m.table

-- no more rows come
abbrev pub without_table : OpenModel → OpenModel
without_table m = record {
  name = m.name;
  inputs = m.inputs;
  clocks = m.clocks;
  ports = m.ports;
  outputs = m.outputs;
  elements = all_elements m;
  table = None;
}

abbrev pub ended_model : OpenModel → PlainModel
ended_model m = record { name = m.name; inputs = m.ports; outputs = m.outputs; elements = all_elements m }

abbrev pub ended : Option OpenModel → List PlainModel
ended None = []
ended (Some m) = ended_model m ∷ []

-- all models, where no more statements come
abbrev pub all_models : Progress → List PlainModel
all_models p = p.models ++ ended p.open_model

abbrev pub with_row : List (List ℕ) → OpenTable → OpenTable
with_row tokens t = record { tokens = t.tokens; rows = t.rows ++ option_to_list (row_of (width_of t) tokens) }

abbrev pub with_elements : OpenModel → List PlainElement → Option OpenTable → OpenModel
with_elements m more table = record {
  name = m.name;
  inputs = m.inputs;
  clocks = m.clocks;
  ports = m.ports;
  outputs = m.outputs;
  elements = all_elements m ++ more;
  table = table;
}

-- the open model with one more statement
abbrev pub more_of : Word → Statement → OpenModel → OpenModel
more_of Inputs s m = record {
  name = m.name;
  inputs = m.inputs ++ s.arguments;
  clocks = m.clocks;
  ports = appearing m.ports s.arguments;
  outputs = m.outputs;
  elements = all_elements m;
  table = None;
}
more_of Clock s m = record {
  name = m.name;
  inputs = m.inputs;
  clocks = m.clocks ++ s.arguments;
  ports = appearing m.ports s.arguments;
  outputs = m.outputs;
  elements = all_elements m;
  table = None;
}
more_of Outputs s m = record {
  name = m.name;
  inputs = m.inputs;
  clocks = m.clocks;
  ports = m.ports;
  outputs = m.outputs ++ s.arguments;
  elements = all_elements m;
  table = None;
}
more_of Names s m = record {
  name = m.name;
  inputs = m.inputs;
  clocks = m.clocks;
  ports = m.ports;
  outputs = m.outputs;
  elements = all_elements m;
  table = Some (record { tokens = s.arguments; rows = [] });
}
more_of Latch s m = with_elements m (register s.arguments) None
more_of Subckt s m = with_elements m (instance s.arguments) None
more_of Row s m = record {
  name = m.name;
  inputs = m.inputs;
  clocks = m.clocks;
  ports = m.ports;
  outputs = m.outputs;
  elements = m.elements;
  table = option_map (with_row (tokens_of s)) m.table;
}
more_of _ s m = m

-- the open model ends, and the next begins, of which the tokens are the name
abbrev pub with_model : Progress → List (List ℕ) → Progress
with_model p tokens = record { models = all_models p; names = p.names ++ tokens; open_model = Some (fresh (first_token tokens)) }

abbrev pub after_word : Word → Statement → Progress → Progress
after_word Model s p = with_model p s.arguments
after_word End s p = record { models = all_models p; names = p.names; open_model = None }
after_word w s p = record { models = p.models; names = p.names; open_model = option_map (more_of w s) p.open_model }

-- what is kept after one more statement
abbrev pub after : Progress → Statement → Progress
after p s = after_word s.word s p

-- What it stands for.

abbrev pub table_behind : Option OpenTable → List Statement → List PlainElement
table_behind None body = elements body
table_behind (Some t) body = table t.tokens (t.rows ++ rows (width_of t) body) ∷ elements body

abbrev pub model_behind : OpenModel → List Statement → PlainModel
model_behind m body = record {
  name = m.name;
  inputs = appearing m.ports (listed is_port_in body);
  outputs = m.outputs ++ listed is_port_out body;
  elements = m.elements ++ table_behind m.table body;
}

abbrev pub open_behind : Option OpenModel → List Statement → List PlainModel
open_behind None more = models more
open_behind (Some m) more = model_behind m (own more) ∷ models more

-- the earlier statements, of which the latest stands first, and then more
unfoldable pub before : List Statement → List Statement → List Statement
before [] more = more
before (s ∷ earlier) more = before earlier (s ∷ more)

-- this is kept of these statements, of which the latest stands first
pub record Keeps (p : Progress) (earlier : List Statement) : Type 0 where
  pub names : lists is_model earlier ≡ p.names
  pub open_model : here earlier ≡ option_map here_in p.open_model
  pub models : (more : List Statement) → models (before earlier more) ≡ p.models ++ open_behind p.open_model more
