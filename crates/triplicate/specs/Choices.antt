-- Where the two forms of hardening differ: in the partitions, and in the cut of the loops inside them.
use Rattle.std.specs.Prelude.{◌≡◌, ℕ, ◌≤◌, Bool, List}
use Rattle.tmr_base.specs.Parts.{PlainParts}
use Rattle.flat_net.specs.Net.{Net}
use Rattle.feedback_cut.specs.Cut.{CutMeets, CutsRegisters}
use Rattle.partitioner.specs.Cost.{cost}
use Rattle.partitioner.specs.Sizes.{KeepsSize, plain_parts}
use Rattle.partitioner.specs.Refining.{refined}
use Rattle.triplicate.specs.declared.form.Form.{Form}
use Rattle.triplicate.specs.declared.form.Form.TheVariants.{Plain, Lean}

-- lean partitions keep the rule of sizes, by which each node stands in one of them, and cost no more than the plain form's. Whether a
-- single move lowers the cost is told beside them, as `IsMinimal`
pub record AreLeanParts (n : Net) (size : ℕ) (parts : PlainParts) : Type 0 where
  pub keeps : KeepsSize n size parts
  pub cheap : cost n parts ≤ cost n (refined n size (plain_parts n size) 8)

-- the partitions of a form
abbrev pub ArePartsOf : Form → Net → ℕ → PlainParts → Type 0
ArePartsOf Plain n size parts = parts ≡ refined n size (plain_parts n size) 8
ArePartsOf Lean n size parts = AreLeanParts n size parts

-- the cut of a form
abbrev pub IsCutOf : Form → Net → PlainParts → List (List Bool) → Type 0
IsCutOf Plain n parts cut = CutMeets n parts cut
IsCutOf Lean n parts cut = CutsRegisters n parts cut
