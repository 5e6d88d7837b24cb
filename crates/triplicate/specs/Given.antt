-- What a hardened design can be made from.
use Rattle.std.specs.Prelude.{◌≡◌, ℕ, ◌+◌, ◌*◌, ◌<◌, ◌≤◌, Bool, List, length}
use Rattle.tmr_base.specs.Parts.{PlainParts, AreParts}
use Rattle.flat_net.specs.Net.{Net, pin_total, IsValid}
use Rattle.triplicate.specs.declared.form.Form.{Form}
use Rattle.triplicate.specs.Voting.{VotesFor}
use Rattle.triplicate.specs.Blocks.{hardened_roles}
use Rattle.recovery_depth.specs.Depths.{AreDepths}
use Rattle.triplicate.specs.Labels.{Labeling, depths_in}
use Rattle.triplicate.specs.Construction.{hardened_net}

-- a valid design with partitions of its nodes, pins that are to be voted, with labels for them; and the hardened design has
-- nets, pins and outputs that are few enough for their numbers
pub record IsGiven (n : Net) (parts : PlainParts) (voted : ℕ → ℕ → Bool) (t : Labeling) : Type 0 where
  pub valid : IsValid n
  pub in_range : AreParts parts
  pub parts_long : length parts.of ≡ length n.nodes
  pub few_parts : parts.count ≤ 4294967295
  -- the form, its cut and the extra pins by which pins are voted
  pub kind : Form
  pub cut : List (List Bool)
  pub extra : ℕ → ℕ → Bool
  pub votes : VotesFor kind n parts t.inputs cut extra voted
  pub labels : AreDepths n parts voted (depths_in t)
  -- numbers of 32 bits are enough
  pub few_outputs : 3 * length n.outputs < 4294967295
  pub few_pins : pin_total (hardened_net n parts voted) < 4294967295
  pub few : 3 * length n.inputs + length (hardened_roles n parts voted) < 4294967295
