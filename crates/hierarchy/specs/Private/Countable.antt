-- How many nets and pins a flat model has.
use Rattle.std.specs.Prelude.{ℕ, ◌+◌, ◌&&◌, Bool, nat_lt, length, sum_by}
use Rattle.blif_text.specs.Models.{PlainElement, Table, Register, Instance, PlainModel}

-- the pins of an element
abbrev pub pins_of : PlainElement → ℕ
pins_of (Table pins out cover) = length pins
pins_of (Register pin out control init) = 1
pins_of (Instance model bindings) = 0

-- the nets and the pins of its design are fewer than 32 bits count
unfoldable pub is_countable : PlainModel → Bool
is_countable m = nat_lt (length m.inputs + length m.elements) 4294967295 && nat_lt (sum_by pins_of m.elements) 4294967295
