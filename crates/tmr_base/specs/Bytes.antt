-- Bytes that stand in a value or in memory of their own.
use Rattle.std.specs.Prelude.{ℕ, ◌≤◌, List, take}
use Rattle.tmr_base.specs.declared.name_bytes.Form.{Form}
use Rattle.tmr_base.specs.declared.name_bytes.Form.TheVariants.{Short, Long}

abbrev pub bytes_in : Form → List ℕ
bytes_in (Short length room) = take length room
bytes_in (Long bytes) = bytes.items

-- no more of them stand in the value than there is room
abbrev pub IsWithin : Form → Type 0
IsWithin (Short length room) = length ≤ 30
IsWithin (Long bytes) = Unit {0}
