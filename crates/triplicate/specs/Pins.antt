-- Which pins hardening votes, as a test of single pins.
use Rattle.std.specs.Prelude.{◌≡◌, ℕ, ◌-◌, ◌==◌, ◌||◌, not, nat_lt, Bool, List, length, slice_index, if◌then◌else◌}
use Rattle.tmr_base.specs.Parts.{PlainParts}
use Rattle.flat_net.specs.Net.{Net}
use Rattle.feedback_cut.specs.Inner.{node_pins}
use Rattle.feedback_cut.specs.Cut.{CutsLoops}
use Rattle.recovery_depth.specs.Extra.{is_cut_or_extra}

-- whether pins that read inputs are voted, a cut, and for each node whether it is a register whose pin is extra
pub record PlainVotes : Type 0 where
  pub inputs : Bool
  pub cut : List (List Bool)
  pub marks : List Bool

-- a pin of node y that reads net x; `own` says whether it is cut or extra
abbrev pub read_is_voted : Net → PlainParts → Bool → ℕ → Bool → ℕ → Bool
read_is_voted n parts inputs y own x =
    if nat_lt x (length n.inputs) then inputs
    else not (slice_index parts.of (x - length n.inputs) == slice_index parts.of y) || own

-- pin j of node y: it reads an input, and those are voted, or a node of another partition, or it is cut or extra
unfoldable pub pin_is_voted : Net → PlainParts → PlainVotes → ℕ → ℕ → Bool
pin_is_voted n parts votes y j = read_is_voted n parts votes.inputs y (is_cut_or_extra votes.cut votes.marks y j) (slice_index (node_pins n y) j)

-- the cut is one of all loops inside these partitions of the nodes, and there is a mark for each node
pub record AreVotesOf (n : Net) (parts : PlainParts) (votes : PlainVotes) : Type 0 where
  pub parts_long : length parts.of ≡ length n.nodes
  pub cut : CutsLoops n parts votes.cut
  pub marks : length votes.marks ≡ length n.nodes
