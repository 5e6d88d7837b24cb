use Rattle.std.proofs.Common.{◌≡◌, ◌<◌, ℕ, [], length, replicate}
use Rattle.std.specs.Prelude.{slice_index}
use Rattle.flat_net.specs.Net.{net_count}
use Rattle.triplicate.specs.Pins.{pin_is_voted}
use Rattle.triplicate.specs.Private.Noted.{parts_noted}
use Rattle.triplicate.specs.Taps.{IsTapped}
use Rattle.triplicate.specs.Private.Places.{HasPlaces}
use Rattle.triplicate.proofs.voters.noted_parts.Given as goal

abbrev pub invariant-loop-p : goal.invariant-loop-p
invariant-loop-p l = record {
  rows : l.rows ≡ parts_noted l.n.net l.parts (pin_is_voted l.n.net l.parts l.votes) l.p (replicate (net_count l.n.net) []);
  places : HasPlaces l.n.net l.taps;
  done : (y : ℕ) → y < length l.n.net.nodes → slice_index l.parts.of y < l.p → IsTapped l.n.net l.parts (pin_is_voted l.n.net l.parts l.votes) l.taps y;
}
