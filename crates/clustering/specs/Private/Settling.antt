-- Private to the code: nodes that are put into partitions one after the other.
use Rattle.std.specs.Prelude.{◌≡◌, ℕ, ◌<◌, ◌≤◌, ◌++◌, ◌∷◌, [], List, All, length, sum, slice_index}
use Rattle.partitioner.specs.Sizes.{held}

-- the partition of each node so far, and how many nodes each partition holds by it
pub record AreSettled (of holds : List ℕ) : Type 0 where
  pub in_range : All (λ p. p < length holds) of
  pub counted : (p : ℕ) → p < length holds → slice_index holds p ≡ held of p
  pub total : sum holds ≡ length of

-- no partition holds more nodes than there is room for, and those before one are full
pub record KeepsRoom (room first : ℕ) (holds : List ℕ) : Type 0 where
  pub most : (p : ℕ) → p < length holds → slice_index holds p ≤ room
  pub full : (p : ℕ) → p < first → room ≤ slice_index holds p

-- where nodes stand before it, one stands in partition p so: in the wanted one, if that is one of so many and holds fewer nodes than there is
-- room for; else in the first that does
pub record StandsBy (room parts wanted : ℕ) (before : List ℕ) (p : ℕ) : Type 0 where
  pub here : wanted < parts → held before wanted < room → p ≡ wanted
  pub free : (wanted < parts → room ≤ held before wanted) → held before p < room
  pub first : (wanted < parts → room ≤ held before wanted) → (q : ℕ) → q < p → room ≤ held before q

-- one more node stands in a partition so
pub record IsPut (room parts wanted : ℕ) (before after : List ℕ) : Type 0 where
  pub place : ℕ
  pub is : after ≡ before ++ place ∷ []
  pub stands : StandsBy room parts wanted before place
