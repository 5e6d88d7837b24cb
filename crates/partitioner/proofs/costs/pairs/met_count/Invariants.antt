use Rattle.std.proofs.Common.{◌≡◌, ◌≤◌, ◌==◌, ℕ, List, length, slice_index}
use Rattle.partitioner.specs.Below.{count_below}
use Rattle.partitioner.specs.Private.Meeting.{is_met}
use Rattle.partitioner.proofs.costs.pairs.met_count.Given as goal

-- the partitions met so far in this turn, and how many they are
pub record Met (last : List ℕ) (turn count bound own : ℕ) (of row : List ℕ) (j : ℕ) : Type 0 where
  pub met : (q : ℕ) → (slice_index last q == turn) ≡ is_met own of row j q
  pub counted : count ≡ count_below bound (is_met own of row j)
  pub few : count ≤ j
  pub long : length last ≡ bound
  pub past : (q : ℕ) → slice_index last q ≤ turn

abbrev pub invariant-loop-y : goal.invariant-loop-y
invariant-loop-y l = Met l.last.items l.turn l.count (length l.initial.last.items) l.own l.of l.row l.y-index
