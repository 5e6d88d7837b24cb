-- The numbers of the hardened design's nets.
use Rattle.std.specs.Prelude.{ℕ, ◌+◌, ◌*◌, ◌<◌, Bool, nat_lt, length, filter, if◌then◌else◌}
use Rattle.std.specs.List.{flat_map, range_with_len}
use Rattle.tmr_base.specs.declared.copies.CopyNo.{CopyNo}
use Rattle.tmr_base.specs.Copies.{copy_number}
use Rattle.tmr_base.specs.Parts.{PlainParts}
use Rattle.flat_net.specs.Net.{Net}
use Rattle.triplicate.specs.Voting.{needs_voter}
use Rattle.triplicate.specs.Blocks.{block, copies_of, hardened_roles}

-- the number of the first net that stands for net x, among those that are no copies of inputs
unfoldable pub block_start : Net → PlainParts → (ℕ → ℕ → Bool) → ℕ → ℕ
block_start n parts voted x = 3 * length n.inputs + length (flat_map (block n parts voted) (range_with_len 0 x))

-- copy c of net x
unfoldable pub copy_net : Net → PlainParts → (ℕ → ℕ → Bool) → ℕ → CopyNo → ℕ
copy_net n parts voted x c = if nat_lt x (length n.inputs) then 3 * x + copy_number c else block_start n parts voted x + copy_number c

-- how many partitions below p need a voter of net x
abbrev pub voter_rank : Net → PlainParts → (ℕ → ℕ → Bool) → ℕ → ℕ → ℕ
voter_rank n parts voted x p = length (filter (needs_voter n parts voted x) (range_with_len 0 p))

-- the voter of net x for partition p that gives copy c
unfoldable pub voter_net : Net → PlainParts → (ℕ → ℕ → Bool) → ℕ → ℕ → CopyNo → ℕ
voter_net n parts voted x p c = block_start n parts voted x + length (copies_of n x) + 3 * voter_rank n parts voted x p + copy_number c

-- the hardened design has fewer nets than there are numbers
abbrev pub HasFewNets : Net → PlainParts → (ℕ → ℕ → Bool) → Type 0
HasFewNets n parts voted = 3 * length n.inputs + length (hardened_roles n parts voted) < 4294967295
