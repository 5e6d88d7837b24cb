-- The faults of a library among those of its flat design, and its flat model before the design is made.
use Rattle.std.specs.Prelude.{◌≡◌, ℕ, List, None}
use Rattle.blif_text.specs.Library.{IsLibrary}
use Rattle.blif_text.specs.Models.{PlainModel}
use Rattle.library_faults.specs.declared.fault.PlacingFault.{PlacingFault}
use Rattle.library_faults.specs.declared.fault.PlacingFault.TheVariants as placing
use Rattle.library_faults.specs.declared.fault.LibraryFault.{LibraryFault}
use Rattle.library_faults.specs.declared.fault.LibraryFault.TheVariants as own
use Rattle.library_faults.specs.Flat.{flat_model}
use Rattle.library_faults.specs.Sound.{IsSound, Fits}
use Rattle.hierarchy.specs.declared.flat_fault.FlatFault.{FlatFault}
use Rattle.hierarchy.specs.declared.flat_fault.FlatFault.TheVariants.{UnknownModel, UnboundInput, UnknownFormal, DuplicateFormal, BothWays, Recursive, TooLarge, Memory}
use Rattle.hierarchy.specs.Clash.{name_clash}

abbrev pub flat_fault_of : PlacingFault → FlatFault
flat_fault_of (placing.UnknownModel name) = UnknownModel name
flat_fault_of (placing.UnboundInput name) = UnboundInput name
flat_fault_of (placing.UnknownFormal name) = UnknownFormal name
flat_fault_of (placing.DuplicateFormal name) = DuplicateFormal name
flat_fault_of (placing.BothWays name) = BothWays name

abbrev pub library_fault_of : LibraryFault → FlatFault
library_fault_of (own.Misplaced fault) = flat_fault_of fault
library_fault_of (own.Recursive names) = Recursive names
library_fault_of own.TooLarge = TooLarge
library_fault_of own.Memory = Memory

-- a library without faults of its own or of its flat text, and its flat model.
pub record IsFlatModel (library : List PlainModel) (limit : ℕ) (m : PlainModel) : Type 0 where
  pub kept : IsLibrary library
  pub sound : IsSound library
  pub fits : Fits library limit
  pub clear : name_clash library ≡ None
  pub is : m ≡ flat_model library
