-- Only private functions cite this: a design, the plan of its hardened form, and where in that form each net's copies and voters stand.
use Rattle.std.specs.Prelude.{ℕ, ◌+◌, ◌*◌, ◌<◌, Bool, true, false, not, List, ◌++◌, length, map, slice_index}
use Rattle.std.specs.List.{range_with_len}
use Rattle.tmr_base.specs.declared.copies.CopyNo.TheVariants.{First}
use Rattle.tmr_base.specs.Parts.{PlainParts}
use Rattle.flat_net.specs.Net.{Net, pin_total}
use Rattle.flat_net.specs.Draft.{AreDistinct}
use Rattle.certificate.specs.declared.role.Role.{Role}
use Rattle.feedback_cut.specs.Inner.{node_pins}
use Rattle.triplicate.specs.Blocks.{block, hardened_roles, hardened_inputs, role_name}
use Rattle.triplicate.specs.Construction.{pin_net, block_nets, hardened_net, is_register_net}
use Rattle.triplicate.specs.Numbers.{copy_net, voter_net}
use Rattle.triplicate.specs.Pins.{AreVotesOf}
use Rattle.triplicate.specs.Planned.{votes_in, plan_votes}
use Rattle.triplicate.specs.Starts.{AreVoterRows, AreStarts}
use Rattle.triplicate.specs.Taps.{AreTaps}
use Rattle.hardened_pair.specs.declared.layout.Layout.{Layout}

-- the design
abbrev pub net_of : Layout → Net
net_of l = l.net.now.net

-- its partitions
abbrev pub partitions : Layout → PlainParts
partitions l = l.plan.now.parts

-- pin j of node y is voted
abbrev pub voted : Layout → ℕ → ℕ → Bool
voted l = plan_votes (net_of l) l.plan.now

-- the roles of the hardened nodes
abbrev pub roles_of : Layout → List Role
roles_of l = hardened_roles (net_of l) (partitions l) (voted l)

-- the hardened design
abbrev pub hardened_of : Layout → Net
hardened_of l = hardened_net (net_of l) (partitions l) (voted l)

-- the first copy of net x
abbrev pub first_copy_of : Layout → ℕ → ℕ
first_copy_of l x = copy_net (net_of l) (partitions l) (voted l) x First

-- the first voter of net x for partition p
abbrev pub first_voter_of : Layout → ℕ → ℕ → ℕ
first_voter_of l x p = voter_net (net_of l) (partitions l) (voted l) x p First

-- what the first copy of node y reads at pin j
abbrev pub first_pin_of : Layout → ℕ → ℕ → ℕ
first_pin_of l y j = pin_net (net_of l) (partitions l) (voted l) y First j (slice_index (node_pins (net_of l) y) j)

-- what the first copy of node y reads at its first count pins
abbrev pub first_pins_to : Layout → ℕ → ℕ → List ℕ
first_pins_to l y count = map (first_pin_of l y) (range_with_len 0 count)

-- what the first copy of node y reads
abbrev pub first_pins_of : Layout → ℕ → List ℕ
first_pins_of l y = first_pins_to l y (length (node_pins (net_of l) y))

-- what stands for net x
abbrev pub block_of : Layout → ℕ → List Role
block_of l x = block (net_of l) (partitions l) (voted l) x

-- the numbers of what stands for net x
abbrev pub numbers_of : Layout → ℕ → List ℕ
numbers_of l x = block_nets (net_of l) (partitions l) (voted l) x

-- the net is a register, or it is none
abbrev pub is_of_kind : Net → Bool → ℕ → Bool
is_of_kind n true x = is_register_net n x
is_of_kind n false x = not (is_register_net n x)

-- the hardened design has names that differ, and pins and nets that are few enough for their numbers
pub record HasRoom (n : Net) (parts : PlainParts) (voted : ℕ → ℕ → Bool) : Type 0 where
  pub names : AreDistinct (hardened_inputs n ++ map (role_name n) (hardened_roles n parts voted))
  pub pins : pin_total (hardened_net n parts voted) < 4294967295
  pub nets : 3 * length n.inputs + length (hardened_roles n parts voted) < 4294967295

-- the plan's lists are those of its partitions and voted pins, the starts are where copies and voters stand, and there is room for all
pub record IsLayout (l : Layout) : Type 0 where
  pub votes : AreVotesOf (net_of l) (partitions l) (votes_in l.plan.now)
  pub voters : AreVoterRows (net_of l) (partitions l) (voted l) l.plan.now.voters
  pub taps : AreTaps (net_of l) (partitions l) (voted l) l.plan.now.taps
  pub starts : AreStarts (net_of l) (partitions l) (voted l) l.starts.items
  pub room : HasRoom (net_of l) (partitions l) (voted l)
