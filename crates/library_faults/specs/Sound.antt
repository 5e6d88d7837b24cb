-- A library without faults, and the first fault of one that has some.
use Rattle.std.specs.Prelude.{◌≤◌, ◌<◌, ℕ, List}
use Rattle.blif_text.specs.Models.{PlainModel}
use Rattle.library_faults.specs.declared.fault.LibraryFault.{LibraryFault}
use Rattle.library_faults.specs.declared.fault.LibraryFault.TheVariants.{Misplaced, Recursive, TooLarge, Memory}
use Rattle.library_faults.specs.Graph.{graph}
use Rattle.library_faults.specs.Library.{IsPlaceable, IsFirstFault, IsRecursive}
use Rattle.library_faults.specs.Found.{IsOrder}
use Rattle.library_faults.specs.Flat.{flat_model}
use Rattle.library_faults.specs.FlatText.{text_length}

-- no statement of a reached model has a fault, and the reached models can be listed so that each stands after those that it places
pub record IsSound (library : List PlainModel) : Type 0 where
  pub placeable : IsPlaceable library
  pub order : List ℕ
  pub ordered : IsOrder (graph library) order

-- the flat text keeps the limit
abbrev pub Fits : List PlainModel → ℕ → Type 0
Fits library limit = text_length (flat_model library) ≤ limit

-- the fault is there, and none of those before it
abbrev pub IsLibraryFault : List PlainModel → ℕ → LibraryFault → Type 0
IsLibraryFault library limit (Misplaced fault) = IsFirstFault library fault
IsLibraryFault library limit (Recursive names) = IsRecursive library names.items
IsLibraryFault library limit TooLarge = IsSound library × (limit < text_length (flat_model library))
IsLibraryFault library limit Memory = Unit {0}
