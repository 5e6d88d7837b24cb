-- What is read of the file of a design.
use Rattle.std.specs.Prelude.{◌≡◌, ℕ, List}
use Rattle.flat_net.specs.Free.{FreeDesign}
use Rattle.aag_text.specs.Written.{IsFileOf}
use Rattle.aag_design.specs.declared.fault.AagFault.{AagFault}
use Rattle.aag_design.specs.declared.fault.AagFault.TheVariants.{Line, Doubled, Undefined, Loop, TooLarge, Memory}
use Rattle.aag_design.specs.Read.{IsFaultOf, IsReadAs}

-- a flat text that is too long, or want of memory: no fault of a line, of a variable or of a loop
abbrev pub IsOfSize : AagFault → Type 0
IsOfSize (Line number) = ⊥
IsOfSize (Doubled v) = ⊥
IsOfSize (Undefined v) = ⊥
IsOfSize (Loop variables) = ⊥
IsOfSize TooLarge = Unit {0}
IsOfSize Memory = Unit {0}

-- the file of a design has no other fault, and what is read of it is the design of the file's graph
pub record IsReadBack (n : FreeDesign) (bytes : List ℕ) (file : IsFileOf n bytes) (limit : ℕ) : Type 0 where
  pub fault : (fault : AagFault) → IsFaultOf bytes limit fault → IsOfSize fault
  pub graph : (m : FreeDesign) (read : IsReadAs bytes limit m) → read.graph ≡ file.graph
