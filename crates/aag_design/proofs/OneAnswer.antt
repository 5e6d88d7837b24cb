-- A file gives a design or has a first fault, and not both.
use Rattle.std.proofs.Common.{◌≡◌, ◌≢◌, ℕ, ◌<◌, ◌≤◌, List, length, subst, refl, sym, arith}
use Rattle.flat_net.specs.Free.{FreeDesign}
use Rattle.aag_text.specs.Aig.{PlainAig}
use Rattle.aag_text.specs.Lines.{IsFile}
use Rattle.aag_text.specs.Variables.{defined, is_among, is_undefined, read_variables, IsDefinedOnce, IsDefined}
use Rattle.aag_reader.proofs.OneFile.{one_file, file_or_bad, none_or_first}
use Rattle.aag_design.specs.declared.fault.AagFault.{AagFault}
use Rattle.aag_design.specs.declared.fault.AagFault.TheVariants.{Line, Doubled, Undefined, Loop, TooLarge, Memory}
use Rattle.aag_design.specs.Loop.{IsLoop}
use Rattle.aag_design.specs.Read.{design_text, IsFaultOf, IsReadAs}

small_or_large : (limit : ℕ) (text : List ℕ) → length text ≤ limit → limit < length text → ⊥
small_or_large limit text le lt = omega (arith, le, lt)

module _ (bytes : List ℕ) (limit : ℕ) (n : FreeDesign) (read : IsReadAs bytes limit n) where
  same : (a : PlainAig) → IsFile bytes a → read.graph ≡ a
  same a file = one_file bytes read.graph a read.of.file file

  pub design_or_fault : (fault : AagFault) → fault ≢ Memory → IsFaultOf bytes limit fault → ⊥
  design_or_fault (Line number) caused is = file_or_bad bytes read.graph read.of.file number is
  design_or_fault (Doubled v) caused (a, file, first) =
      none_or_first is_among (defined a) v (subst IsDefinedOnce (same a file) read.of.once) first
  design_or_fault (Undefined v) caused (a, file, once, first) =
      none_or_first (is_undefined a) (read_variables a) v (subst IsDefined (same a file) read.of.known) first
  design_or_fault (Loop variables) caused (a, of, is) =
      read.no_loop variables.items (subst (λ (g : PlainAig). IsLoop g variables.items) (sym (same a of.file)) is)
  design_or_fault TooLarge caused (a, of, no_loop, large) =
      small_or_large limit (design_text a) (subst (λ (g : PlainAig). length (design_text g) ≤ limit) (same a of.file) read.small) large
  design_or_fault Memory caused is = caused refl
