use Rattle.std.proofs.Common.{ℕ, ◌+◌, ◌<◌, length}
use Rattle.validator.specs.NodeRules.{NodeHolds}
use Rattle.validator.specs.Sides.{net_in, marks_in}
use Rattle.validator.proofs.node_rules.first_bad_node.Given as goal

abbrev pub invariant-loop-place : goal.invariant-loop-place
invariant-loop-place l = (i : ℕ) → i < l.place → NodeHolds (net_in l.n) (marks_in l.n) (net_in l.h) (marks_in l.h) l.c l.rule (length (net_in l.h).inputs + i)
