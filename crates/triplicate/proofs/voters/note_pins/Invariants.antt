use Rattle.std.proofs.Common.{◌≡◌, ◌+◌, ◌<◌, ◌≤◌, ◌⊎◌, ℕ, length}
use Rattle.std.specs.Prelude.{slice_index}
use Rattle.feedback_cut.specs.Inner.{node_pins}
use Rattle.triplicate.specs.Pins.{pin_is_voted}
use Rattle.triplicate.specs.Private.Noted.{pins_noted, IsNoting}
use Rattle.triplicate.specs.Taps.{tap_of}
use Rattle.triplicate.proofs.voters.note_pins.Given as goal

abbrev pub invariant-loop-j : goal.invariant-loop-j
invariant-loop-j l = record {
  rows : l.rows ≡ pins_noted l.n.net l.parts (pin_is_voted l.n.net l.parts l.votes) l.y l.j l.fn.rows;
  long : length l.places.items ≡ length l.fn.places.items;
  done : (i : ℕ) → i < l.j → slice_index l.places.items (l.first + i) ≡ tap_of l.n.net l.parts (pin_is_voted l.n.net l.parts l.votes) l.y i;
  others : (k : ℕ) → (k < l.first) ⊎ (l.first + length (node_pins l.n.net l.y) ≤ k) → slice_index l.places.items k ≡ slice_index l.fn.places.items k;
  noting : IsNoting l.n.net l.parts (pin_is_voted l.n.net l.parts l.votes) (slice_index l.parts.of l.y) l.rows;
}
