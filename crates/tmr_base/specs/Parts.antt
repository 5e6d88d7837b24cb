-- Nodes in partitions.
use Rattle.std.specs.Prelude.{ℕ, ◌<◌, List, All, length}

-- how many partitions there are, and the partition of each node
pub record PlainParts : Type 0 where
  pub count : ℕ
  pub of : List ℕ

-- each node is in one of the partitions
pub record AreParts (parts : PlainParts) : Type 0 where
  pub in_range : All (λ p. p < parts.count) parts.of
  pub few : length parts.of < 4294967295
