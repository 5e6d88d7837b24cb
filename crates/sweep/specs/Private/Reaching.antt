-- Only private functions cite this: paths on which a voted pin counts one table more, and the most tables on them.
use Rattle.std.specs.Prelude.{◌≡◌, ℕ, ◌+◌, ◌*◌, ◌-◌, ◌==◌, ◌<◌, ◌≤◌, ◌⊎◌, Bool, false, List, length, Option, Some, None, slice_index, if◌then◌else◌}
use Rattle.flat_net.specs.Net.{Net, Node, Table, Register, net_count, node_of, IsTable, IsRegister}
use Rattle.feedback_cut.specs.Inner.{node_pins}
use Rattle.partitioner.specs.Below.{one_if}
use Rattle.triplicate.specs.Planned.{plan_votes}
use Rattle.triplicate.specs.Taps.{AreTaps}
use Rattle.sweep.specs.declared.votes.Votes.{Votes}
use Rattle.sweep.specs.declared.votes.Votes.TheVariants.{Absent, Planned}
use Rattle.sweep.specs.Levels.{IsStart}

-- pin j of node y is voted
abbrev pub voted_by : Net → Votes → ℕ → ℕ → Bool
voted_by n Absent = λ y j. false
voted_by n (Planned p) = plan_votes n p.now

-- which voter each pin reads is noted
abbrev pub HasTaps : Net → Votes → Type 0
HasTaps n Absent = Unit {0}
HasTaps n (Planned p) = AreTaps n p.now.parts (plan_votes n p.now) p.now.taps

-- a path to net x with so many tables, where a voted pin counts one more. Nodes and pins are counted from 0
pub data VotedPath (n : Net) (voted : ℕ → ℕ → Bool) : ℕ → ℕ → Type 0 where
  begins : (x : ℕ) → IsStart n x → VotedPath n voted x 0
  goes_on : (y j tables : ℕ) → IsTable (node_of n (length n.inputs + y)) → j < length (node_pins n y)
      → VotedPath n voted (slice_index (node_pins n y) j) tables → VotedPath n voted (length n.inputs + y) (tables + one_if (voted y j) + 1)

-- a path to an output, or to a register, whose pin may be voted too
pub data VotedEnd (n : Net) (voted : ℕ → ℕ → Bool) : ℕ → Type 0 where
  at_output : (k tables : ℕ) → k < length n.outputs → VotedPath n voted (slice_index n.outputs k) tables → VotedEnd n voted tables
  at_register : (y tables : ℕ) → IsRegister (node_of n (length n.inputs + y)) → VotedPath n voted (slice_index (node_pins n y) 0) tables
      → VotedEnd n voted (tables + one_if (voted y 0))

-- what comes along a pin that reads a net of this number, where 0 says that no path leads to the net, and else the tables and one more
abbrev pub passed : ℕ → Bool → ℕ
passed reach voted = if reach == 0 then 0 else reach + one_if voted

-- what comes along pin j of node y
abbrev pub along : Net → (ℕ → ℕ → Bool) → List ℕ → ℕ → ℕ → ℕ
along n voted reach y j = passed (slice_index reach (slice_index (node_pins n y) j)) (voted y j)

-- the greatest of f at the numbers below count, or 0 where there is none
pub record IsMostOf (f : ℕ → ℕ) (count most : ℕ) : Type 0 where
  pub some : (most ≡ 0) ⊎ ((j : ℕ) × (j < count) × (most ≡ f j))
  pub none_above : (j : ℕ) → j < count → f j ≤ most

-- the most that comes along a pin of node y
abbrev pub IsMostAt : Net → (ℕ → ℕ → Bool) → List ℕ → ℕ → ℕ → Type 0
IsMostAt n voted reach y most = IsMostOf (along n voted reach y) (length (node_pins n y)) most

-- before any table is looked at: an input and a register are reached, with no tables
abbrev pub first_reach : Option Node → ℕ
first_reach None = 1
first_reach (Some (Table name cover pins)) = 0
first_reach (Some (Register name init pin)) = 1

-- what is reached at net x: at a table one more than what comes along its pins, if something does; elsewhere what was reached before
pub record IsNextReach (n : Net) (voted : ℕ → ℕ → Bool) (reach : List ℕ) (x next : ℕ) : Type 0 where
  pub most : ℕ
  pub is_most : IsTable (node_of n x) → IsMostAt n voted reach (x - length n.inputs) most
  pub table : IsTable (node_of n x) → next ≡ (if most == 0 then 0 else most + 1)
  pub other : (IsTable (node_of n x) → ⊥) → next ≡ slice_index reach x

-- for each net one more than the most tables on a path to it, or 0 where none leads to it; of tables those in the first i places of the order
pub record AreReached (n : Net) (voted : ℕ → ℕ → Bool) (order : List ℕ) (i : ℕ) (reach : List ℕ) : Type 0 where
  pub long : length reach ≡ net_count n
  pub sound : (x tables : ℕ) → slice_index reach x ≡ tables + 1 → VotedPath n voted x tables
  pub starts : (x : ℕ) → IsStart n x → slice_index reach x ≡ 1
  pub closed : (k y j : ℕ) → k < i → slice_index order k ≡ length n.inputs + y → IsTable (node_of n (length n.inputs + y))
      → j < length (node_pins n y) → 0 < along n voted reach y j → along n voted reach y j + 1 ≤ slice_index reach (length n.inputs + y)
  pub few : (x : ℕ) → slice_index reach x ≤ 2 * i + 1

-- the most at an output
abbrev pub IsMostOut : Net → List ℕ → ℕ → Type 0
IsMostOut n reach most = IsMostOf (λ k. slice_index reach (slice_index n.outputs k)) (length n.outputs) most

abbrev pub kept_of : Option Node → ℕ → ℕ
kept_of None reach = 0
kept_of (Some (Table name cover pins)) reach = 0
kept_of (Some (Register name init pin)) reach = reach

-- what comes along the pin of node y, if it is a register
abbrev pub kept : Net → (ℕ → ℕ → Bool) → List ℕ → ℕ → ℕ
kept n voted reach y = kept_of (node_of n (length n.inputs + y)) (along n voted reach y 0)

-- the most that comes along the pin of a register
abbrev pub IsMostKept : Net → (ℕ → ℕ → Bool) → List ℕ → ℕ → Type 0
IsMostKept n voted reach most = IsMostOf (kept n voted reach) (length n.nodes) most

-- the most tables on a path to an output or a register, where a voted pin counts one more
pub record AreVotedLevels (n : Net) (voted : ℕ → ℕ → Bool) (levels : ℕ) : Type 0 where
  pub most : (tables : ℕ) → VotedEnd n voted tables → tables ≤ levels
  pub some : (levels ≡ 0) ⊎ VotedEnd n voted levels
