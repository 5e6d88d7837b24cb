use Rattle.std.proofs.Common.{◌≡◌, ◌<◌, ℕ, length}
use Rattle.std.specs.Prelude.{slice_index}
use Rattle.triplicate.specs.Pins.{pin_is_voted}
use Rattle.triplicate.specs.Numbers.{block_start}
use Rattle.triplicate.proofs.blocks.block_starts.Given as goal

abbrev pub invariant-loop-x : goal.invariant-loop-x
invariant-loop-x l = record {
  next : l.next ≡ block_start l.n.net l.parts (pin_is_voted l.n.net l.parts l.votes) l.x;
  long : length l.starts.items ≡ l.x;
  each : (z : ℕ) → z < l.x → slice_index l.starts.items z ≡ block_start l.n.net l.parts (pin_is_voted l.n.net l.parts l.votes) z;
}
