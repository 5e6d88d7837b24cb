use Rattle.std.proofs.Common.{◌≡◌, ◌<◌, ℕ, length, take, All}
use Rattle.triplicate.specs.Pins.{pin_is_voted}
use Rattle.triplicate.specs.Private.Noted.{nodes_noted, IsNoting}
use Rattle.triplicate.specs.Taps.{IsTapped}
use Rattle.triplicate.specs.Private.Places.{HasPlaces}
use Rattle.triplicate.proofs.voters.note_members.Given as goal

abbrev pub invariant-loop-y : goal.invariant-loop-y
invariant-loop-y l = record {
  rows : l.rows ≡ nodes_noted l.n.net l.parts (pin_is_voted l.n.net l.parts l.votes) (take l.y-index l.members) l.fn.rows;
  noting : IsNoting l.n.net l.parts (pin_is_voted l.n.net l.parts l.votes) l.p l.rows;
  places : HasPlaces l.n.net l.taps;
  done : All (IsTapped l.n.net l.parts (pin_is_voted l.n.net l.parts l.votes) l.taps) (take l.y-index l.members);
  kept : (y : ℕ) → y < length l.n.net.nodes → IsTapped l.n.net l.parts (pin_is_voted l.n.net l.parts l.votes) l.fn.taps y → IsTapped l.n.net l.parts (pin_is_voted l.n.net l.parts l.votes) l.taps y;
}
