-- Designs of which some registers begin with a free value.
use Rattle.std.specs.Prelude.{◌≡◌, ℕ, Bool, true, false, List, length}
use Rattle.std.specs.Option.{unwrap_or}
use Rattle.flat_net.specs.Net.{Net, Design, slot, node_of, IsInitOf}

-- the bit of net x in a list of one bit for each node, the first of which has the number start; false where there is none
abbrev pub node_bit : ℕ → List Bool → ℕ → Bool
node_bit start bits x = unwrap_or (slot start bits x) false

-- one mark for each node, and marked are only registers whose initial value is 0
pub record AreMarks (n : Net) (free : List Bool) : Type 0 where
  pub one_each : length free ≡ length n.nodes
  pub registers : (x : ℕ) → node_bit (length n.inputs) free x ≡ true → IsInitOf (node_of n x) false

-- a design, and the marks of the registers whose value in cycle 0 is free
pub record FreeDesign : Type 0 where
  pub design : Design
  pub free : List Bool
