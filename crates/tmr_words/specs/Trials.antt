-- What the words of `trial NUMBER NODES` mean.
use Rattle.std.specs.Prelude.{ℕ, nat_le, List, [], ◌∷◌, Option, Some, None, if◌then◌else◌}
use Rattle.std.specs.Option.{option_and_then, option_map}
use Rattle.tmr_base.specs.Numbers.{number_of}

-- the number that a design is drawn from, and how many nodes it has
pub record Trial : Type 0 where
  pub number : ℕ
  pub nodes : ℕ

-- a number from 0 to 100,000, decimal and without leading zeros
unfoldable pub nodes_number : List ℕ → Option ℕ
nodes_number word = option_and_then (λ n. if nat_le n 100000 then Some n else None) (number_of 32 word)

abbrev pub trial_from : ℕ → ℕ → Trial
trial_from number nodes = record { number = number; nodes = nodes }

-- two words: a number below 2^64, and a number of nodes
unfoldable pub trial_of : List (List ℕ) → Option Trial
trial_of (number ∷ nodes ∷ []) = option_and_then (λ n. option_map (trial_from n) (nodes_number nodes)) (number_of 64 number)
trial_of words = None
