-- What of a name is hashed. No promise of a name rests on it, but that equal names hash alike.
use Rattle.std.specs.Prelude.{ℕ, ◌-◌, ◌==◌, Bool, ◌&&◌, ◌||◌, nat_lt, nat_le, List, length, take, slice_index, if◌then◌else◌}

-- `0` to `2` end the name of a copy, and `a` to `c` that of a voter
abbrev pub tells_copy : ℕ → Bool
tells_copy b = (nat_le 48 b && nat_le b 50) || (nat_le 97 b && nat_le b 99)

-- the name ends with `~` and a byte that tells a copy
abbrev pub ends_in_copy : List ℕ → Bool
ends_in_copy name = nat_lt 1 (length name) && slice_index name (length name - 2) == 126 && tells_copy (slice_index name (length name - 1))

-- all of it but such a last byte
abbrev pub hashed_part : List ℕ → List ℕ
hashed_part name = if ends_in_copy name then take (length name - 1) name else name
