-- Where a rule can fail.
use Rattle.std.specs.Prelude.{◌≡◌, ℕ, ◌<◌, ◌≤◌, length}
use Rattle.flat_net.specs.Net.{Net}

-- There are eight rules. Rules 1 and 2 fail at 0, and rules 3 to 7 at a hardened node's number.
pub record IsPlace (h : Net) (rule place : ℕ) : Type 0 where
  pub first : 1 ≤ rule
  pub last : rule ≤ 8
  pub whole : rule ≤ 2 → place ≡ 0
  pub node : 3 ≤ rule → rule ≤ 7 → place < length h.nodes
