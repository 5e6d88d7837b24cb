use Rattle.std.proofs.Common.{◌≡◌, length, true, false, sym, ◌∙◌}
use Rattle.node_reads.specs.Noting.{ends_in}
use Rattle.node_reads.specs.Private.Logged.{row_of}
use Rattle.node_reads.proofs.LoggedLaws.{rows_noted, rows_same, tells_last}
use Rattle.node_reads.proofs.notes.note_once.Goals as goal

pub returns-then-is_last-clause-rows : goal.returns-then-is_last-clause-rows
returns-then-is_last-clause-rows c =
    let ends : ends_in (row_of c.args.log.now.items c.args.x) c.args.k ≡ true = sym (tells_last c.args.tallies.now.items c.args.log.now.items c.args.x c.args.k c.index.result.now c.requires.tallies c.requires.row c.index.ensures) ∙ (sym c.is_last.ensures ∙ c.if-is_last.true) in
    rows_same (length c.args.tallies.now.items) c.args.log.now.items c.args.x c.args.k c.requires.row ends

pub returns-clause-rows : goal.returns-clause-rows
returns-clause-rows c =
    let ends : ends_in (row_of c.args.log.now.items c.args.x) c.args.k ≡ false = sym (tells_last c.args.tallies.now.items c.args.log.now.items c.args.x c.args.k c.index.result.now c.requires.tallies c.requires.row c.index.ensures) ∙ (sym c.is_last.ensures ∙ c.if-is_last.false) in
    c.in_ok-add_note.ensures.rows ∙ rows_noted (length c.args.tallies.now.items) c.args.log.now.items c.args.x c.args.k c.requires.row ends
