use Rattle.std.proofs.Common.{◌≡◌, ◌<◌, List, ℕ, [], length, get_or, sym, ap, ◌∙◌, arith}
use Rattle.node_reads.specs.declared.notes.Note.{Note}
use Rattle.node_reads.specs.Private.Logged.{row_of, rows_of}
use Rattle.node_reads.proofs.LoggedLaws.{row_in, rows_long}
use Rattle.node_reads.proofs.notes.Notes.count.Goals as goal

pub count_in-requires-clause-row : goal.count_in-requires-clause-row
count_in-requires-clause-row c =
    let rows : length (rows_of (length c.self.inside.tallies.items) c.self.inside.log.items) ≡ length c.args.self.now = ap length c.self.view_is in
    omega (arith, c.requires, rows, rows_long (length c.self.inside.tallies.items) c.self.inside.log.items, ap length c.deref.ensures.value)

pub returns : goal.returns
returns c =
    let rows : length (rows_of (length c.self.inside.tallies.items) c.self.inside.log.items) ≡ length c.args.self.now = ap length c.self.view_is in
    let within : c.args.x < length c.self.inside.tallies.items = omega (arith, c.requires, rows, rows_long (length c.self.inside.tallies.items) c.self.inside.log.items) in
    c.count_in.ensures
    ∙ (ap (λ (log : List Note). length (row_of log c.args.x)) c.deref-2.ensures.value
    ∙ ap length (sym (row_in (length c.self.inside.tallies.items) c.self.inside.log.items c.args.x within) ∙ ap (λ (rs : List (List ℕ)). get_or rs c.args.x []) c.self.view_is))
