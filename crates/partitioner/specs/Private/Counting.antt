-- Counts kept in a map, by node and partition.
use Rattle.std.specs.Prelude.{ℕ, ◌==◌, Bool, ◌&&◌, unwrap_or}
use Rattle.std.specs.HashMap.{HashMap, get}

-- the same node and the same partition
abbrev pub same_spot : ℕ × ℕ → ℕ × ℕ → Bool
same_spot a b = (a.0 == b.0) && (a.1 == b.1)

-- the count that is kept for node x and partition p, 0 where none is
abbrev pub count_at : {S : Type 0} → HashMap (ℕ × ℕ) ℕ S → ℕ → ℕ → ℕ
count_at counts x p = unwrap_or (get same_spot counts (x, p)) 0
