use Rattle.std.proofs.Common.{◌+◌, ◌<◌, List, length, sym, ap, subst, ◌∙◌, arith}
use Rattle.std.proofs.lemmas.List.{length_push}
use Rattle.node_reads.specs.declared.notes.Tally.{Tally}
use Rattle.node_reads.specs.Private.Logged.{rows_of, AreTallies}
use Rattle.node_reads.proofs.LoggedLaws.{rows_pushed, tallies_pushed}
use Rattle.node_reads.proofs.notes.add_note.Goals as goal

pub returns-clause-tallies : goal.returns-clause-tallies
returns-clause-tallies c =
    let few : length c.args.log.now.items + 1 < 18446744073709551616 = omega (arith, length_push c.args.log.now.items (record { row = c.args.x; number = c.args.k }), ap length c.in_ok-push.ensures.items, c.len-long.ensures) in
    subst (λ (tallies : List Tally). AreTallies tallies c.push.new.self.items) (sym c.count_note.ensures)
    (subst (AreTallies _) (sym c.in_ok-push.ensures.items)
    (tallies_pushed c.args.tallies.now.items c.args.log.now.items (record { row = c.args.x; number = c.args.k }) c.requires.tallies c.requires.row few))

pub returns-clause-rows : goal.returns-clause-rows
returns-clause-rows c =
    ap (rows_of (length c.args.tallies.now.items)) c.in_ok-push.ensures.items ∙ rows_pushed (length c.args.tallies.now.items) c.args.log.now.items (record { row = c.args.x; number = c.args.k }) c.requires.row
