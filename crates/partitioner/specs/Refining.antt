-- Moves of single nodes, passes of moves, and where no move helps.
use Rattle.std.specs.Prelude.{◌≡◌, ◌≢◌, ℕ, zero, suc, ◌<◌, ◌≤◌, Bool, true, not, nat_lt, nat_le, ◌&&◌, ◌||◌, length, slice_index, slice_set, unwrap_or}
use Rattle.std.specs.List.{find, list_all, range_with_len}
use Rattle.tmr_base.specs.Parts.{PlainParts}
use Rattle.flat_net.specs.Net.{Net}
use Rattle.partitioner.specs.Cost.{cost}
use Rattle.partitioner.specs.Sizes.{capacity, held}

-- a partition that holds fewer nodes than it may has room for one more
abbrev pub has_room : ℕ → PlainParts → ℕ → Bool
has_room size parts p = nat_lt (held parts.of p) (capacity size)

-- the same with node i in partition p
abbrev pub put : PlainParts → ℕ → ℕ → PlainParts
put parts i p = record { count = parts.count; of = slice_set parts.of i p }

-- b passes, f is lower there than at `start`, and f is lower at no number below the bound that passes
abbrev pub is_least : (ℕ → ℕ) → (ℕ → Bool) → ℕ → ℕ → ℕ → Bool
is_least f passes start bound b =
    passes b && (nat_lt (f b) (f start) && list_all (λ c. not (passes c) || nat_le (f b) (f c)) (range_with_len 0 bound))

-- the first of the numbers below a bound that are least so, if there is one, else `start`
unfoldable pub lowest : (ℕ → ℕ) → (ℕ → Bool) → ℕ → ℕ → ℕ
lowest f passes start bound = unwrap_or (find (is_least f passes start bound) (range_with_len 0 bound)) start

-- where node i goes: the partition with room where the cost is lowest, the first of several, if that is lower than now
abbrev pub place : Net → ℕ → PlainParts → ℕ → ℕ
place n size parts i = lowest (λ p. cost n (put parts i p)) (has_room size parts) (slice_index parts.of i) parts.count

-- the move of node i
abbrev pub move : Net → ℕ → PlainParts → ℕ → PlainParts
move n size parts i = put parts i (place n size parts i)

-- the moves of the first k nodes, in their order
unfoldable pub moves : Net → ℕ → PlainParts → ℕ → PlainParts
moves n size parts zero = parts
moves n size parts (suc k) = move n size (moves n size parts k) k

-- a pass: the moves of all nodes, in their order
abbrev pub pass : Net → ℕ → PlainParts → PlainParts
pass n size parts = moves n size parts (length n.nodes)

-- a number of passes, one after the other
unfoldable pub refined : Net → ℕ → PlainParts → ℕ → PlainParts
refined n size parts zero = parts
refined n size parts (suc k) = pass n size (refined n size parts k)

-- no single node moved to a partition with room lowers the cost
abbrev pub IsMinimal : Net → ℕ → PlainParts → Type 0
IsMinimal n size parts =
    (i p : ℕ) → i < length n.nodes → p < parts.count → slice_index parts.of i ≢ p → has_room size parts p ≡ true
    → cost n parts ≤ cost n (put parts i p)
