-- Counts for 64 partitions at once, in the bits of words.
use Rattle.std.specs.Prelude.{◌≡◌, ℕ, ◌≤◌, ◌+◌, ◌*◌, true, ◌⊎◌}
use Rattle.table_cover.specs.Words.{word_bit}
use Rattle.partitioner.specs.declared.costs.lanes.Lanes.{Lanes}
use Rattle.partitioner.specs.Below.{one_if}

-- the number in bit j of the four words
abbrev pub lane_value : Lanes → ℕ → ℕ
lane_value lanes j =
    one_if (word_bit j lanes.ones) + 2 * one_if (word_bit j lanes.twos) + 4 * one_if (word_bit j lanes.fours) + 8 * one_if (word_bit j lanes.eights)

-- the number in bit j is no less than k, or it ran over
abbrev pub Reaches : Lanes → ℕ → ℕ → Type 0
Reaches lanes j k = (word_bit j lanes.over ≡ true) ⊎ (k ≤ lane_value lanes j)
