use Rattle.std.proofs.Common.{◌≡◌, ◌+◌, ◌≤◌, length, take}
use Rattle.std.specs.Prelude.{not}
use Rattle.std.specs.List.{suffix_len}
use Rattle.partition_graph.specs.Groups.{is_slash}
use Rattle.partition_graph.proofs.paths.slash_end.Given as goal

abbrev pub invariant-loop-end : goal.invariant-loop-end
invariant-loop-end l = record {
  few : l.end ≤ length l.name;
  same : l.end + suffix_len (λ b. not (is_slash b)) l.name ≡ length l.name + suffix_len (λ b. not (is_slash b)) (take l.end l.name);
}

abbrev pub decreases-loop-end : goal.decreases-loop-end
decreases-loop-end l = l.end
