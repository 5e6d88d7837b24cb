-- The numbers of `campaign`.
use Rattle.std.specs.Prelude.{ℕ, ◌&&◌, nat_lt, nat_le, List, Option, Some, None, if◌then◌else◌}
use Rattle.std.specs.Option.{option_and_then}
use Rattle.tmr_base.specs.Numbers.{number_of}

-- a number from 1 to 100,000, decimal and without leading zeros
unfoldable pub cycles_number : List ℕ → Option ℕ
cycles_number word = option_and_then (λ n. if nat_lt 0 n && nat_le n 100000 then Some n else None) (number_of 32 word)
