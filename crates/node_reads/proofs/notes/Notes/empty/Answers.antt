use Rattle.std.proofs.Common.{length}
use Rattle.node_reads.proofs.LoggedLaws.{rows_empty}
use Rattle.node_reads.proofs.notes.Notes.empty.Goals as goal

pub returns : goal.returns
returns c = rows_empty (length c.in_ok-tallies.tallies.items) c.args.count c.in_ok-log.log.items c.in_ok-log.ensures.items c.in_ok-tallies.ensures.long
