-- The flat design of a library, and why it has none.
use Rattle.std.specs.Prelude.{◌≡◌, ◌≢◌, ◌<◌, ℕ, Bool, List, Some, None, Vec, count_by}
use Rattle.std.specs.declared.alloc.Global.{Global}
use Rattle.blif_text.specs.Models.{PlainModel}
use Rattle.flat_net.specs.Net.{Net}
use Rattle.flat_net.specs.Faults.{net_of_draft, IsFaultless, IsFaultOf}
use Rattle.flat_net.specs.declared.fault.NetFault.TheVariants as net
use Rattle.library_faults.specs.declared.fault.PlacingFault.TheVariants as placing
use Rattle.hierarchy.specs.declared.flat_fault.FlatFault.{FlatFault}
use Rattle.hierarchy.specs.declared.flat_fault.FlatFault.TheVariants.{UnknownModel, UnboundInput, UnknownFormal, DuplicateFormal, BothWays, Recursive, TooLarge, NameClash, Net as NetOf, Memory}
use Rattle.library_faults.specs.Library.{IsFirstFault, IsRecursive}
use Rattle.library_faults.specs.Sound.{IsSound, Fits}
use Rattle.library_faults.specs.Flat.{flat_model}
use Rattle.library_faults.specs.FlatText.{text_length}
use Rattle.hierarchy.specs.Clash.{name_clash}
use Rattle.hierarchy.specs.Drafted.{draft_of, assumed, open_marks}

-- the fault is there, and none of those before it
abbrev pub IsFlatFault : List PlainModel → ℕ → FlatFault → Type 0
IsFlatFault library limit TooLarge = IsSound library × (limit < text_length (flat_model library))
IsFlatFault library limit (NameClash name) = IsSound library × Fits library limit × (name_clash library ≡ Some name)
IsFlatFault library limit (NetOf fault) =
    IsSound library × Fits library limit × (name_clash library ≡ None) × (fault ≢ net.Memory) × IsFaultOf (draft_of (flat_model library)) fault
IsFlatFault library limit (UnknownModel name) = IsFirstFault library (placing.UnknownModel name)
IsFlatFault library limit (UnboundInput name) = IsFirstFault library (placing.UnboundInput name)
IsFlatFault library limit (UnknownFormal name) = IsFirstFault library (placing.UnknownFormal name)
IsFlatFault library limit (DuplicateFormal name) = IsFirstFault library (placing.DuplicateFormal name)
IsFlatFault library limit (BothWays name) = IsFirstFault library (placing.BothWays name)
IsFlatFault library limit (Recursive names) = IsRecursive library names.items
IsFlatFault library limit Memory = Unit {0}

-- the same fault, where a loop may be told by any list that is one
pub data IsSameFault : FlatFault → FlatFault → Type 0 where
  same : (fault : FlatFault) → IsSameFault fault fault
  of_models : (names others : Vec (List ℕ) Global) → IsSameFault (Recursive names) (Recursive others)
  of_tables : (names others : Vec (List ℕ) Global) → IsSameFault (NetOf (net.CombLoop names)) (NetOf (net.CombLoop others))

-- the library has no fault, and its flat design is this one, with that many assumed initial values
pub record IsFlat (library : List PlainModel) (limit : ℕ) (design : Net) (open_values : ℕ) : Type 0 where
  pub sound : IsSound library
  pub fits : Fits library limit
  pub clear : name_clash library ≡ None
  pub faultless : IsFaultless (draft_of (flat_model library))
  pub design_is : design ≡ net_of_draft (draft_of (flat_model library))
  pub open_are : open_values ≡ assumed (flat_model library)

-- the same, where the registers whose initial values are assumed are marked
pub record IsFreeFlat (library : List PlainModel) (limit : ℕ) (design : Net) (free : List Bool) : Type 0 where
  pub flat : IsFlat library limit design (count_by (λ bit. bit) free)
  pub marks_are : free ≡ open_marks (flat_model library)
