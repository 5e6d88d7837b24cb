-- What the bytes of a text give: its models, or the first bad line with its kind.
--
-- The definition of reading is this file and those that it names: Text, Word, Kind and Models, and Joined of text_lines.
use Rattle.std.specs.Prelude.{◌≡◌, ℕ, List, [], ◌∷◌, Option, Some, None, Result, Ok, Err}
use Rattle.blif_text.specs.declared.fault.TextKind.TheVariants.{NoModel}
use Rattle.blif_text.specs.declared.fault.TextFault.{TextFault}
use Rattle.blif_text.specs.declared.fault.TextFault.TheVariants as faults
use Rattle.blif_text.specs.Text.{Statement, statements, ended_statements}
use Rattle.blif_text.specs.Kind.{Bad, first_bad}
use Rattle.blif_text.specs.Models.{PlainModel, models}

abbrev pub unless_bad : Option Bad → List PlainModel → Result (List PlainModel) Bad
unless_bad (Some bad) library = Err bad
unless_bad None library = Ok library

-- the models of these statements, or the first bad one; a text without any statement has no model, told at line 1
unfoldable pub reading_of : List Statement → Result (List PlainModel) Bad
reading_of [] = Err (record { line = 1; kind = NoModel })
reading_of (s ∷ rest) = unless_bad (first_bad [] (s ∷ rest)) (models (s ∷ rest))

-- the reading of a text
abbrev pub reading : List ℕ → Result (List PlainModel) Bad
reading bytes = reading_of (statements bytes)

-- the first bad line among those that have come to their end
abbrev pub ended_bad : List ℕ → Option Bad
ended_bad bytes = first_bad [] (ended_statements bytes)

-- the fault is the one that the reading has
abbrev pub IsFaultOf : Result (List PlainModel) Bad → TextFault → Type 0
IsFaultOf read (faults.Bad line kind) = read ≡ Err (record { line = line; kind = kind })
IsFaultOf read faults.Memory = Unit {0}

-- unless memory ran out, the models, or the first bad line, are those of the reading
abbrev pub Reads : Result (List PlainModel) TextFault → Result (List PlainModel) Bad → Type 0
Reads (Ok models) read = read ≡ Ok models
Reads (Err fault) read = IsFaultOf read fault
