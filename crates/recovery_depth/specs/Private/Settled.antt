-- Labels and marks of vertices, each from those of the vertices that it reads.
use Rattle.std.specs.Prelude.{◌≡◌, ℕ, ◌+◌, ◌<◌, ◌≤◌, ◌==◌, ◌&&◌, Bool, List, length, slice_index_or, if◌then◌else◌}
use Rattle.graph.specs.Rows.{row}
use Rattle.recovery_depth.specs.Walks.{is_marked}
use Rattle.recovery_depth.specs.Private.Vertices.{one_if}
use Rattle.recovery_depth.specs.Private.Reaching.{IsGreatestOf}

-- x is marked exactly where it is a register and the greatest label that it reads is `most`; its label is that greatest one, or
-- 0 where x is marked, and one more for a register
pub record IsSettled (rows : List (List ℕ)) (bits marks : List Bool) (labels : List ℕ) (most x : ℕ) : Type 0 where
  pub greatest : ℕ
  pub is_greatest : IsGreatestOf (row rows x) labels greatest
  pub mark : is_marked marks x ≡ (is_marked bits x && greatest == most)
  pub label : slice_index_or labels x 0 ≡ (if is_marked marks x then 0 else greatest) + one_if (is_marked bits x)

pub record AreSettled (rows : List (List ℕ)) (bits marks : List Bool) (labels : List ℕ) (most : ℕ) : Type 0 where
  pub marks_long : length marks ≡ length rows
  pub long : length labels ≡ length rows
  pub each : (x : ℕ) → x < length rows → IsSettled rows bits marks labels most x
  pub bounded : (x : ℕ) → slice_index_or labels x 0 ≤ most
