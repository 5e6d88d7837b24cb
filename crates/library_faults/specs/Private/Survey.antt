-- What a look at a library ends with.
use Rattle.std.specs.Prelude.{◌≡◌, ◌<◌, ℕ, List}
use Rattle.blif_text.specs.Models.{PlainModel}
use Rattle.library_faults.specs.declared.fault.LibraryFault.{LibraryFault}
use Rattle.library_faults.specs.declared.fault.LibraryFault.TheVariants as fault
use Rattle.library_faults.specs.declared.survey.first_fault.Survey.{Survey}
use Rattle.library_faults.specs.declared.survey.first_fault.Survey.TheVariants.{Sound, Misplaced, Recursive}
use Rattle.library_faults.specs.Graph.{graph, names_of}
use Rattle.library_faults.specs.Library.{IsPlaceable, IsFirstFault, IsRecursive}
use Rattle.library_faults.specs.Found.{IsOrder}
use Rattle.library_faults.specs.Flat.{flat_model}
use Rattle.library_faults.specs.FlatText.{text_length}

abbrev pub IsSurvey : List PlainModel → Survey → Type 0
IsSurvey library (Sound names order) = (names.keys ≡ names_of library) × IsPlaceable library × IsOrder (graph library) order.items
IsSurvey library (Misplaced fault) = IsFirstFault library fault
IsSurvey library (Recursive names) = IsRecursive library names.items

-- the first fault of the statements, or else a loop of models
abbrev pub IsOrderFault : List PlainModel → LibraryFault → Type 0
IsOrderFault library (fault.Misplaced placing) = IsFirstFault library placing
IsOrderFault library (fault.Recursive names) = IsRecursive library names.items
IsOrderFault library fault.TooLarge = ⊥
IsOrderFault library fault.Memory = Unit {0}

-- the flat text is longer than the limit
abbrev pub IsLengthFault : List PlainModel → ℕ → LibraryFault → Type 0
IsLengthFault library limit (fault.Misplaced placing) = ⊥
IsLengthFault library limit (fault.Recursive names) = ⊥
IsLengthFault library limit fault.TooLarge = limit < text_length (flat_model library)
IsLengthFault library limit fault.Memory = Unit {0}
