use Rattle.std.proofs.Common.{◌≡◌, ℕ, ◌<◌, slice_index}
use Rattle.partitioner.specs.Refining.{place}
use Rattle.partitioner.specs.Private.Tracking.{held_parts}
use Rattle.partitioner.specs.Private.Ready.{IsReady}
use Rattle.partitioner.proofs.refinement.minimal.all_stay.Given as goal

abbrev pub invariant-loop-i : goal.invariant-loop-i
invariant-loop-i l = IsReady l.n.net l.size l.p l.spots l.tallies × ((k : ℕ) → k < l.i → place l.n.net l.size (held_parts l.p) k ≡ slice_index l.p.of.items k)
