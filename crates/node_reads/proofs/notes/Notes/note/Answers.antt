use Rattle.std.proofs.Common.{◌≡◌, length, ap, arith}
use Rattle.node_reads.specs.Private.Logged.{rows_of}
use Rattle.node_reads.proofs.LoggedLaws.{rows_long}
use Rattle.node_reads.proofs.notes.Notes.note.Goals as goal

pub note_once-requires-clause-row : goal.note_once-requires-clause-row
note_once-requires-clause-row c =
    let rows : length (rows_of (length c.self.inside.tallies.items) c.self.inside.log.items) ≡ length c.args.self.now = ap length c.self.view_is in
    omega (arith, c.requires, rows, rows_long (length c.self.inside.tallies.items) c.self.inside.log.items)
