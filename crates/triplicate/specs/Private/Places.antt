-- Only private functions cite this: where the places stand that are noted for pins.
use Rattle.std.specs.Prelude.{◌≡◌, ℕ, ◌<◌, length, slice_index, sum_by}
use Rattle.std.specs.List.{range_with_len}
use Rattle.flat_net.specs.Net.{Net}
use Rattle.feedback_cut.specs.Inner.{node_pins}
use Rattle.triplicate.specs.declared.taps.Taps.{Taps}

-- where the places for the pins of node y begin: behind those for the pins of all nodes before it
abbrev pub tap_start : Net → ℕ → ℕ
tap_start n y = sum_by (λ z. length (node_pins n z)) (range_with_len 0 y)

-- there is a place for each pin, node by node
pub record HasPlaces (n : Net) (taps : Taps) : Type 0 where
  pub long : length taps.firsts.items ≡ length n.nodes
  pub each : (y : ℕ) → y < length n.nodes → slice_index taps.firsts.items y ≡ tap_start n y
  pub places : length taps.places.items ≡ tap_start n (length n.nodes)
