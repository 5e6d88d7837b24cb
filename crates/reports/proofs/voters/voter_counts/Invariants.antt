use Rattle.std.proofs.Common.{◌≡◌, take}
use Rattle.std.specs.Prelude.{count_by}
use Rattle.reports.specs.Counts.{is_border_voter, is_feedback_voter, is_input_voter}
use Rattle.reports.proofs.voters.voter_counts.Given as goal

abbrev pub invariant-loop-g : goal.invariant-loop-g
invariant-loop-g l = record {
  border : l.border ≡ count_by (is_border_voter l.c) (take l.g l.c.roles);
  feedback : l.feedback ≡ count_by (is_feedback_voter l.c) (take l.g l.c.roles);
  inputs : l.inputs ≡ count_by (is_input_voter l.c) (take l.g l.c.roles);
}
