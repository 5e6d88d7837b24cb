use Rattle.partition_graph.specs.Private.Meeting.{is_met}
use Rattle.partition_graph.proofs.MeetLaws.{leads_are, edges_are}
use Rattle.partition_graph.proofs.meeting.edges.Goals as goal

pub note_voters-requires-clause-counted : goal.note_voters-requires-clause-counted
note_voters-requires-clause-counted c = c.no_edges-edges.ensures.counted c.args.homes.now

pub returns : goal.returns
returns c =
    edges_are c.args.n.now.net c.args.c.now c.args.homes.now c.note_outputs.new.edges c.requires.homes c.in_ok-note_outputs.ensures.counted
    (λ x b. leads_are c.args.n.now.net c.args.c.now x b (is_met c.no_edges-edges.result x b) (is_met c.note_voters.new.edges x b) (is_met c.note_reads.new.edges x b) (is_met c.note_outputs.new.edges x b)
    (c.no_edges-edges.ensures.none x b) (c.in_ok-note_voters.ensures.met x b) (c.in_ok-note_reads.ensures.met x b) (c.in_ok-note_outputs.ensures.met x b))
