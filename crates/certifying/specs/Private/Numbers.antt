-- Numbers of partitions.
use Rattle.std.specs.Prelude.{◌≡◌, ℕ, ◌<◌, List, length, Option, slice_index}
use Rattle.certifying.specs.Private.Forests.{GoesAlong}

-- the first so many numbers of a forest are in partitions below `count`; two of one partition are sorted alike by each sorting
-- that goes along the forest
pub record AreNumbered (up : List ℕ) (numbers : List ℕ) (count : ℕ) : Type 0 where
  pub below : (i : ℕ) → i < length numbers → slice_index numbers i < count
  pub alike : (f : ℕ → Option ℕ) → GoesAlong f up → (i j : ℕ) → i < length numbers → j < length numbers
      → slice_index numbers i ≡ slice_index numbers j → f i ≡ f j
