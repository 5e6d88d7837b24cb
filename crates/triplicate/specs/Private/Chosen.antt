-- Only private functions cite this: what partitioning gives for a form.
use Rattle.std.specs.Prelude.{◌≡◌, ◌↔◌, ℕ, IsTrue, length}
use Rattle.tmr_base.specs.Parts.{AreParts}
use Rattle.flat_net.specs.Net.{Net}
use Rattle.partitioner.specs.declared.refinement.refining.Refined.{Refined}
use Rattle.partitioner.specs.Cost.{cost}
use Rattle.partitioner.specs.Sizes.{plain_parts, KeepsSize}
use Rattle.partitioner.specs.Refining.{IsMinimal}
use Rattle.triplicate.specs.declared.form.Form.{Form}
use Rattle.triplicate.specs.Choices.{ArePartsOf}

-- the partitions of a form, what they cost and what the plain cut does, and whether no single move lowers the cost
pub record AreChosen (kind : Form) (n : Net) (size : ℕ) (r : Refined) : Type 0 where
  pub parts : ArePartsOf kind n size r.parts
  pub long : length r.parts.of ≡ length n.nodes
  pub range : AreParts r.parts
  pub pairs : r.cost ≡ cost n r.parts
  pub plain_pairs : r.before ≡ cost n (plain_parts n size)
  pub minimal : IsTrue r.minimal ↔ IsMinimal n size r.parts

-- what is told of each partitioning that may be chosen
pub record AreTold (n : Net) (size : ℕ) (r : Refined) : Type 0 where
  pub keeps : KeepsSize n size r.parts
  pub range : AreParts r.parts
  pub pairs : r.cost ≡ cost n r.parts
  pub minimal : IsTrue r.minimal ↔ IsMinimal n size r.parts
