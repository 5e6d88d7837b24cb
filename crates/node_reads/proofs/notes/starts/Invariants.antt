use Rattle.std.proofs.Common.{◌≡◌, ◌<◌, ℕ, length}
use Rattle.std.specs.Prelude.{slice_index}
use Rattle.node_reads.specs.Private.Logged.{start_in}
use Rattle.node_reads.proofs.notes.starts.Given as goal

abbrev pub invariant-loop-x : goal.invariant-loop-x
invariant-loop-x l = record {
  next : l.next ≡ start_in l.log l.x;
  long : length l.starts.items ≡ l.x;
  each : (z : ℕ) → z < l.x → slice_index l.starts.items z ≡ start_in l.log z;
}
