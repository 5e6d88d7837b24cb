-- The length of a model's text, where it places no models: its lines, each ended by one byte, with single blanks.
use Rattle.std.specs.Prelude.{ℕ, ◌+◌, ◌*◌, ◌==◌, List, length, sum_by, min, Option, Some, None, if◌then◌else◌}
use Rattle.tmr_base.specs.declared.ids.Edge.{Edge}
use Rattle.table_cover.specs.Cover.{PlainCover}
use Rattle.blif_text.specs.Models.{PlainElement, Table, Register, Instance, PlainModel}

-- a blank and a name
abbrev pub spaced : List ℕ → ℕ
spaced name = 1 + length name

-- a list of names, a blank before each
abbrev pub all_spaced : List (List ℕ) → ℕ
all_spaced names = sum_by spaced names

-- a row: its marks and a blank, where it has marks, and its output
abbrev pub row_length : ℕ → ℕ
row_length width = if width == 0 then 2 else width + 3

abbrev pub rows_length : PlainCover → ℕ
rows_length k = length k.rows * row_length k.width

-- ` re CLOCK`
abbrev pub control_length : Option (Edge × List ℕ) → ℕ
control_length None = 0
control_length (Some (edge, clock)) = 3 + spaced clock

-- `.names PINS OUT` and its rows; `.latch D Q I` or `.latch D Q E CLOCK I`
abbrev pub element_length : PlainElement → ℕ
element_length (Table pins out cover) = 7 + all_spaced pins + spaced out + rows_length cover
element_length (Register pin out control init) = 9 + spaced pin + spaced out + control_length control
element_length (Instance model bindings) = 0

-- `.model NAME`, `.inputs INPUTS`, `.outputs OUTPUTS`, `.end`
abbrev pub header_length : PlainModel → ℕ
header_length m = (7 + spaced m.name) + (8 + all_spaced m.inputs) + (9 + all_spaced m.outputs) + 5

-- these lines, and those of the elements
unfoldable pub text_length : PlainModel → ℕ
text_length m = header_length m + sum_by element_length m.elements

-- a number as far as 64 bits hold it
abbrev pub capped : ℕ → ℕ
capped n = min n 18446744073709551615
