-- A triple of an array.
use Rattle.std.specs.Prelude.{ℕ, List, map, slice_index}
use Rattle.tmr_base.specs.Copies.{Three}
use Rattle.tmr_base.specs.declared.ids.NetId.{NetId}

abbrev pub three_of : List ℕ → Three
three_of xs = record { first = slice_index xs 0; second = slice_index xs 1; third = slice_index xs 2 }

abbrev pub three_ids : List NetId → Three
three_ids xs = three_of (map (λ x. x.0) xs)
