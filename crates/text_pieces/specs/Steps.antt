-- A text that is made step by step.
use Rattle.std.specs.Prelude.{ℕ, ◌-◌, List}
use Rattle.std.specs.List.{flat_map, range_with_len}

-- what is left of it at each step, and how many steps there are
pub record TextInSteps : Type 0 where
  pub rest : ℕ → List ℕ
  pub count : ℕ

-- what comes at the steps from k on, of so many
abbrev pub from_step : (ℕ → List ℕ) → ℕ → ℕ → List ℕ
from_step text count k = flat_map text (range_with_len k (count - k))
