use Rattle.std.proofs.Common.{◌+◌, ◌<◌, ℕ, length, refl, ap, arith}
use Rattle.reports.specs.Counts.{is_border_voter, is_feedback_voter, is_input_voter}
use Rattle.reports.proofs.CountLaws.{role_more}
use Rattle.reports.proofs.voters.voter_counts.Goals as goal

pub loop-g-preserved : goal.loop-g-preserved
loop-g-preserved c =
    let net = ap (λ (k : ℕ). k + c.loop-g.g) c.hardened_inputs-first.ensures.value in
    let h : c.loop-g.g < length c.args.c.now.roles = omega (arith, c.loop-g-test.true, c.node_count-g-end.ensures, c.requires.hardened_nodes) in
    record {
      border = role_more (is_border_voter c.args.c.now) c.args.c.now c.loop-g.g (c.hardened_inputs-first.result + c.loop-g.g) c.loop-g.border (c.loop-g.border + c.one_if-border.result) c.one_if-border.result c.role-role.result c.is_border.result net c.role-role.ensures.role h c.is_border.ensures c.one_if-border.ensures.count c.loop-g.invariant.border refl;
      feedback = role_more (is_feedback_voter c.args.c.now) c.args.c.now c.loop-g.g (c.hardened_inputs-first.result + c.loop-g.g) c.loop-g.feedback (c.loop-g.feedback + c.one_if-feedback.result) c.one_if-feedback.result c.role-role.result c.is_feedback.result net c.role-role.ensures.role h c.is_feedback.ensures c.one_if-feedback.ensures.count c.loop-g.invariant.feedback refl;
      inputs = role_more (is_input_voter c.args.c.now) c.args.c.now c.loop-g.g (c.hardened_inputs-first.result + c.loop-g.g) c.loop-g.inputs (c.loop-g.inputs + c.one_if-inputs.result) c.one_if-inputs.result c.role-role.result c.is_of_input.result net c.role-role.ensures.role h c.is_of_input.ensures c.one_if-inputs.ensures.count c.loop-g.invariant.inputs refl;
    }
