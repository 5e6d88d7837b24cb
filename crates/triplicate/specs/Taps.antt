-- Which voter of its net each pin reads, noted for all pins node by node.
use Rattle.std.specs.Prelude.{◌≡◌, ℕ, suc, ◌+◌, ◌≤◌, ◌<◌, Bool, length, slice_index, if◌then◌else◌}
use Rattle.tmr_base.specs.Parts.{PlainParts}
use Rattle.flat_net.specs.Net.{Net}
use Rattle.feedback_cut.specs.Inner.{node_pins}
use Rattle.triplicate.specs.declared.taps.Taps.{Taps}
use Rattle.triplicate.specs.Numbers.{voter_rank}

-- the place of the voter that pin j of node y reads, counted from 1 among those of its net; 0 where it reads a copy
abbrev pub tap_of : Net → PlainParts → (ℕ → ℕ → Bool) → ℕ → ℕ → ℕ
tap_of n parts voted y j = if voted y j then suc (voter_rank n parts voted (slice_index (node_pins n y) j) (slice_index parts.of y)) else 0

-- the place that is noted for pin j of node y
abbrev pub tap_in : Taps → ℕ → ℕ → ℕ
tap_in taps y j = slice_index taps.places.items (slice_index taps.firsts.items y + j)

-- the places of all pins of node y are noted
pub record IsTapped (n : Net) (parts : PlainParts) (voted : ℕ → ℕ → Bool) (taps : Taps) (y : ℕ) : Type 0 where
  pub within : slice_index taps.firsts.items y + length (node_pins n y) ≤ length taps.places.items
  pub each : (j : ℕ) → j < length (node_pins n y) → tap_in taps y j ≡ tap_of n parts voted y j

-- those of all pins are
pub record AreTaps (n : Net) (parts : PlainParts) (voted : ℕ → ℕ → Bool) (taps : Taps) : Type 0 where
  pub long : length taps.firsts.items ≡ length n.nodes
  pub each : (y : ℕ) → y < length n.nodes → IsTapped n parts voted taps y
