-- The number of a net.
use Rattle.std.specs.Prelude.{ℕ}
use Rattle.tmr_base.specs.declared.ids.NetId.{NetId}

abbrev pub number_of : NetId → ℕ
number_of x = x.0
