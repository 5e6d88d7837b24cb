-- The flat model of a library, and what the design of it needs.
use Rattle.std.proofs.Common.{◌≡◌, ◌≢◌, ◌≤◌, ◌<◌, ℕ, Bool, List, [], ◌∷◌, length, map, sym, ap, subst, arith, None, slice_index_or}
use Rattle.std.specs.Prelude.{All}
use Rattle.blif_text.specs.Models.{PlainModel}
use Rattle.blif_text.specs.Library.{FitsPins, IsLibrary, Differ}
use Rattle.blif_text.specs.Views.{plain_model}
use Rattle.blif_text.specs.declared.library.BlifModel.{BlifModel}
use Rattle.flat_net.specs.Net.{Net}
use Rattle.flat_net.specs.Faults.{net_of_draft, IsFaultless, IsFaultOf}
use Rattle.flat_net.specs.declared.fault.NetFault.{NetFault}
use Rattle.flat_net.specs.declared.fault.NetFault.TheVariants as net
use Rattle.hierarchy.specs.declared.flat_fault.FlatFault.{FlatFault}
use Rattle.hierarchy.specs.declared.flat_fault.FlatFault.TheVariants.{Net as NetOf}
use Rattle.library_faults.specs.declared.fault.PlacingFault.{PlacingFault}
use Rattle.library_faults.specs.declared.fault.PlacingFault.TheVariants as placing
use Rattle.library_faults.specs.declared.fault.LibraryFault.{LibraryFault}
use Rattle.library_faults.specs.declared.fault.LibraryFault.TheVariants as of
use Rattle.library_faults.specs.declared.looked.Looked.{Looked}
use Rattle.library_faults.specs.Library.{IsFirstFault}
use Rattle.library_faults.specs.Sound.{IsLibraryFault}
use Rattle.library_faults.specs.Private.Looked.{IsLooked}
use Rattle.library_faults.specs.Flat.{main_of, flat_model}
use Rattle.library_faults.specs.FlatText.{text_length}
use Rattle.hierarchy.specs.Clash.{name_clash}
use Rattle.hierarchy.specs.Drafted.{draft_of, open_marks}
use Rattle.hierarchy.specs.Flatten.{IsFlatFault, IsFreeFlat}
use Rattle.library_faults.specs.Sound.{IsSound, Fits}
use Rattle.hierarchy.specs.Private.Stages.{IsFlatModel, flat_fault_of, library_fault_of}
use Rattle.hierarchy.proofs.FlatKeeps.{flat_fits, flat_inputs, flat_outputs}
use Rattle.hierarchy.proofs.Marks.{free_flat}

-- ---- which model is the flat one

pub is_flat_model : (library : List PlainModel) (limit : ℕ) (m : PlainModel) → IsLibrary library → IsSound library → Fits library limit → name_clash library ≡ None → m ≡ flat_model library → IsFlatModel library limit m
is_flat_model library limit m kept sound fits clear is = record { kept = kept; sound = sound; fits = fits; clear = clear; is = is }

pub same_flat_model : (library : List PlainModel) (limit : ℕ) (m main : PlainModel) → m ≡ main → IsFlatModel library limit main → IsFlatModel library limit m
same_flat_model library limit m main same flat = subst (IsFlatModel library limit) (sym same) flat

pub ruleset flat_models = (is_flat_model, same_flat_model)

-- ---- a fault of the library itself

placing_fault : (library : List PlainModel) (limit : ℕ) (fault : PlacingFault) → IsFirstFault library fault → IsFlatFault library limit (flat_fault_of fault)
placing_fault library limit (placing.UnknownModel name) f = f
placing_fault library limit (placing.UnboundInput name) f = f
placing_fault library limit (placing.UnknownFormal name) f = f
placing_fault library limit (placing.DuplicateFormal name) f = f
placing_fault library limit (placing.BothWays name) f = f

own_fault : (library : List PlainModel) (limit : ℕ) (fault : LibraryFault) → IsLibraryFault library limit fault → IsFlatFault library limit (library_fault_of fault)
own_fault library limit (of.Misplaced fault) f = placing_fault library limit fault f
own_fault library limit (of.Recursive names) f = f
own_fault library limit of.TooLarge f = f
own_fault library limit of.Memory f = tt

pub library_fault : (library : List PlainModel) (limit : ℕ) (fault : LibraryFault) (made : FlatFault) → made ≡ library_fault_of fault → IsLibraryFault library limit fault → IsFlatFault library limit made
library_fault library limit fault made is f = subst (IsFlatFault library limit) (sym is) (own_fault library limit fault f)

pub looked_sound : (library : List PlainModel) (looked : Looked) → IsLooked library looked → IsSound library
looked_sound library looked is = record { placeable = is.placeable; order = looked.order.items; ordered = is.ordered }

pub ruleset library_laws = (library_fault, looked_sound)

-- ---- what it keeps

pub keeps_pins : (library : List PlainModel) (limit : ℕ) (m : PlainModel) → IsFlatModel library limit m → All FitsPins m.elements
keeps_pins library limit m flat = subst (λ (m : PlainModel). All FitsPins m.elements) (sym flat.is) (flat_fits library flat.kept)

pub keeps_inputs : (library : List PlainModel) (limit : ℕ) (m : PlainModel) → IsFlatModel library limit m → Differ m.inputs
keeps_inputs library limit m flat = subst (λ (m : PlainModel). Differ m.inputs) (sym flat.is) (flat_inputs library flat.kept)

pub keeps_outputs : (library : List PlainModel) (limit : ℕ) (m : PlainModel) → IsFlatModel library limit m → Differ m.outputs
keeps_outputs library limit m flat = subst (λ (m : PlainModel). Differ m.outputs) (sym flat.is) (flat_outputs library flat.kept)

pub keeps_limit : (library : List PlainModel) (limit : ℕ) (m : PlainModel) → IsFlatModel library limit m → text_length m ≤ limit
keeps_limit library limit m flat = subst (λ (m : PlainModel). text_length m ≤ limit) (sym flat.is) flat.fits

pub ruleset flat_kept = (keeps_limit)

-- ---- its design

pub model_design : (library : List PlainModel) (limit : ℕ) (m : PlainModel) (n : Net) (free : List Bool) → IsFlatModel library limit m → IsFaultless (draft_of m) → n ≡ net_of_draft (draft_of m) → free ≡ open_marks m → IsFreeFlat library limit n free
model_design library limit m n free flat faultless design marks = free_flat library limit m n free flat.is flat.sound flat.fits flat.clear faultless design marks

pub model_fault : (library : List PlainModel) (limit : ℕ) (m : PlainModel) (fault : NetFault) → IsFlatModel library limit m → fault ≢ net.Memory → IsFaultOf (draft_of m) fault → IsFlatFault library limit (NetOf fault)
model_fault library limit m fault flat caused first = (flat.sound, flat.fits, flat.clear, caused, subst (λ (m : PlainModel). IsFaultOf (draft_of m) fault) flat.is first)

pub ruleset flat_designs = (model_design, model_fault)

-- ---- the main model

pub first_of : (models : List BlifModel) (main : BlifModel) → 0 < length models → main ≡ slice_index_or models 0 main → plain_model main ≡ main_of (map plain_model models)
first_of [] main some is = absurd (omega arith)
first_of (m ∷ models) main some is = ap plain_model is
