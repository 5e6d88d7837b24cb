-- Where each net's copies and voters stand, and which partitions need voters, as lists.
use Rattle.std.specs.Prelude.{◌≡◌, ℕ, ◌+◌, ◌≤◌, Bool, List, length, slice_index}
use Rattle.tmr_base.specs.Parts.{PlainParts}
use Rattle.flat_net.specs.Net.{Net, net_count}
use Rattle.node_reads.specs.Noting.{Lists}
use Rattle.triplicate.specs.Numbers.{block_start}
use Rattle.triplicate.specs.Voting.{needs_voter}

-- partition p needs a voter of net x
abbrev pub needs : Net → PlainParts → (ℕ → ℕ → Bool) → ℕ → ℕ → Bool
needs n parts voted p x = needs_voter n parts voted x p

-- for each net the partitions that need a voter of it, ascending
abbrev pub AreVoterRows : Net → PlainParts → (ℕ → ℕ → Bool) → List (List ℕ) → Type 0
AreVoterRows n parts voted rows = Lists (needs n parts voted) parts.count (net_count n) rows

-- for each net where what stands for it begins, and last where all of it ends
pub record AreStarts (n : Net) (parts : PlainParts) (voted : ℕ → ℕ → Bool) (starts : List ℕ) : Type 0 where
  pub long : length starts ≡ net_count n + 1
  pub each : (x : ℕ) → x ≤ net_count n → slice_index starts x ≡ block_start n parts voted x
