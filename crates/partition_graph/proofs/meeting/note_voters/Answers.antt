use Rattle.std.proofs.Common.{◌+◌, ℕ, ap, arith}
use Rattle.partition_graph.specs.Edges.{votes_for}
use Rattle.partition_graph.specs.Private.Meeting.{is_met}
use Rattle.partition_graph.proofs.MeetLaws.{any_more, role_here}
use Rattle.partition_graph.proofs.meeting.note_voters.Goals as goal

pub loop-g-preserved : goal.loop-g-preserved
loop-g-preserved c = record {
  counted = c.in_ok-note_role.ensures.counted;
  met = λ y a.
      any_more (votes_for c.args.c.now y a) c.args.c.now.roles c.loop-g.g c.role-role.result (is_met c.args.edges.now y a) (is_met c.loop-g.edges y a) (is_met c.note_role.new.edges y a)
      (omega (arith, c.loop-g-test.true, c.node_count-g-end.ensures, c.requires.fits.hardened_nodes))
      (role_here c.args.c.now c.loop-g.g (c.hardened_inputs-first.result + c.loop-g.g) c.role-role.result (ap (λ (m : ℕ). m + c.loop-g.g) c.hardened_inputs-first.ensures.value) c.role-role.ensures.role)
      (c.loop-g.invariant.met y a) (c.in_ok-note_role.ensures.met y a);
}
