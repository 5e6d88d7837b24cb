-- How large partitions are.
use Rattle.std.specs.Prelude.{◌≡◌, ℕ, ◌+◌, ◌/◌, ◌<◌, ◌≤◌, ◌==◌, List, All, length, map, count_by}
use Rattle.std.specs.List.{range_with_len}
use Rattle.std.specs.Int.{div_ceil}
use Rattle.tmr_base.specs.Parts.{PlainParts}
use Rattle.flat_net.specs.Net.{Net}

-- the most nodes that a partition may hold
abbrev pub capacity : ℕ → ℕ
capacity size = size + size / 4

-- how many nodes partition p holds
abbrev pub held : List ℕ → ℕ → ℕ
held of p = count_by (λ q. q == p) of

-- there are at most as many partitions as the size asks for, rounded up; each node stands in one of them, that is, the number of its
-- partition lies below their count; and none holds too many nodes
pub record KeepsSize (n : Net) (size : ℕ) (parts : PlainParts) : Type 0 where
  pub count : parts.count ≤ div_ceil (length n.nodes) size
  pub each : length parts.of ≡ length n.nodes
  pub in_range : All (λ p. p < parts.count) parts.of
  pub held_few : (p : ℕ) → p < parts.count → held parts.of p ≤ capacity size

-- the plain cut: node i stands in partition i / size
abbrev pub plain_parts : Net → ℕ → PlainParts
plain_parts n size = record {
  count = div_ceil (length n.nodes) size;
  of = map (λ i. i / size) (range_with_len 0 (length n.nodes));
}
