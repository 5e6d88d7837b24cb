-- The design that the bytes of a file give.
use Rattle.std.specs.Prelude.{◌≡◌, ◌≢◌, ℕ, ◌⊎◌, Bool, List, Ok, Err}
use Rattle.blif_text.specs.Kind.{Bad}
use Rattle.blif_text.specs.Models.{PlainModel}
use Rattle.blif_text.specs.Reading.{reading}
use Rattle.flat_net.specs.Net.{Net}
use Rattle.hierarchy.specs.Flatten.{IsFlatFault}
use Rattle.hierarchy.specs.declared.flat_fault.FlatFault.{FlatFault}
use Rattle.hierarchy.specs.declared.flat_fault.FlatFault.TheVariants.{Memory}
use Rattle.blif_writer.specs.NetOf.{IsFreeNetOf}
use Rattle.tmr_outside.specs.Contents.{Contents}
use Rattle.tmr_top.specs.Loads.{Load}
use Rattle.tmr_top.specs.Files.{Holds}
use Rattle.tmr_texts.specs.Reasons.{bad_reason, flat_reason}

-- the first bad line of the text
pub record IsBadText (bytes reason : List ℕ) : Type 0 where
  pub bad : Bad
  pub read : reading bytes ≡ Err bad
  pub says : reason ≡ bad_reason bad

-- the text is read, and its models give no design
pub record IsBadLibrary (limit : ℕ) (bytes reason : List ℕ) : Type 0 where
  pub library : List PlainModel
  pub read : reading bytes ≡ Ok library
  pub fault : FlatFault
  pub caused : fault ≢ Memory
  pub first : IsFlatFault library limit fault
  pub says : reason ≡ flat_reason fault

-- why the bytes give no design
abbrev pub IsUnread : ℕ → List ℕ → List ℕ → Type 0
IsUnread limit bytes reason = IsBadText bytes reason ⊎ IsBadLibrary limit bytes reason

-- the file holds this design, and these are its marks: true at each register whose initial value is 2, 3 or absent
abbrev pub HoldsDesign : Contents → Load → Net → List Bool → Type 0
HoldsDesign held load n free = Holds held load (λ bytes. IsFreeNetOf bytes load.limit n free)

-- the file holds no design, for this reason
abbrev pub HoldsNoDesign : Contents → Load → List ℕ → Type 0
HoldsNoDesign held load reason = Holds held load (λ bytes. IsUnread load.limit bytes reason)
