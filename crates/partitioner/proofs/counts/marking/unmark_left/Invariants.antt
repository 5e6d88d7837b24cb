use Rattle.std.proofs.Common.{◌≡◌}
use Rattle.partitioner.specs.Private.Tracking.{Tracks, held_parts}
use Rattle.partitioner.proofs.counts.marking.unmark_left.Given as goal

abbrev pub invariant-loop-j : goal.invariant-loop-j
invariant-loop-j l = record {
  tracks : Tracks l.n.net l.p;
  parts : held_parts l.p ≡ held_parts l.fn.p;
}
