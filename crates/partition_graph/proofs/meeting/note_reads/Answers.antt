use Rattle.partition_graph.specs.Edges.{reads_input}
use Rattle.partition_graph.specs.Private.Meeting.{is_met}
use Rattle.partition_graph.proofs.MeetLaws.{numbers_more}
use Rattle.partition_graph.proofs.meeting.note_reads.Goals as goal

pub loop-y-preserved : goal.loop-y-preserved
loop-y-preserved c = record {
  counted = c.in_ok-note_pins.ensures.counted;
  met = λ x a. numbers_more (reads_input c.args.n.now.net c.args.c.now x a) c.loop-y.y (is_met c.args.edges.now x a) (is_met c.loop-y.edges x a) (is_met c.note_pins.new.edges x a) (c.loop-y.invariant.met x a) (c.in_ok-note_pins.ensures.met x a);
}
