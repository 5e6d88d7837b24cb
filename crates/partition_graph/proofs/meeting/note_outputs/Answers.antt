use Rattle.std.proofs.Common.{◌+◌, ◌&&◌, ◌||◌, ℕ, sym, ap, ◌∙◌}
use Rattle.std.specs.Prelude.{◌==◌}
use Rattle.std.proofs.lemmas.Option.{get_or_from_slice_get, slice_get_within}
use Rattle.partition_graph.specs.Places.{outputs_place}
use Rattle.partition_graph.specs.Private.Meeting.{is_met}
use Rattle.partition_graph.proofs.MeetLaws.{any_more}
use Rattle.partition_graph.proofs.meeting.note_outputs.Goals as goal

pub loop-i-preserved : goal.loop-i-preserved
loop-i-preserved c = record {
  counted = c.in_ok-note.ensures.counted;
  met = λ x a.
      any_more (λ y. y == x && outputs_place c.args.c.now == a) c.args.n.now.net.outputs c.loop-i.i c.output.result.0 (is_met c.args.edges.now x a) (is_met c.loop-i.edges x a) (is_met c.note.new.edges x a)
      (slice_get_within c.args.n.now.net.outputs c.loop-i.i c.output.result.0 c.output.ensures.output)
      (sym (get_or_from_slice_get c.args.n.now.net.outputs c.loop-i.i c.output.result.0 c.output.result.0 c.output.ensures.output)) (c.loop-i.invariant.met x a)
      (c.in_ok-note.ensures.met x a ∙ ap (λ (m : ℕ). is_met c.loop-i.edges x a || (c.output.result.0 == x && m + 2 == a)) c.parts.ensures.count);
}
