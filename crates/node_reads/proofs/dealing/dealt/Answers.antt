use Rattle.std.proofs.Common.{◌+◌, ◌/◌, ◌<◌, List, length, get_or, take, sym, subst, arith}
use Rattle.node_reads.specs.declared.notes.Note.{Note}
use Rattle.node_reads.specs.Private.Dealt.{logs_of, AreDealt}
use Rattle.node_reads.proofs.LoggedLaws.{no_note}
use Rattle.node_reads.proofs.DealtLaws.{dealt_next}
use Rattle.node_reads.proofs.dealing.dealt.Goals as goal

pub loop-k-preserved : goal.loop-k-preserved
loop-k-preserved c =
    let row = c.requires c.loop-k.k no_note c.loop-k-test.true in
    let within : (get_or c.args.log.now c.loop-k.k no_note).row / 16384 < length c.args.tallies.now / 16384 + 1 = omega (arith, row) in
    subst (λ (blocks : List (List Note)). AreDealt 16384 (length c.args.tallies.now / 16384 + 1) (take (c.loop-k.k + 1) c.args.log.now) blocks) (sym c.in_ok-deal.ensures)
    (dealt_next 16384 (length c.args.tallies.now / 16384 + 1) c.args.log.now c.loop-k.k (logs_of c.loop-k.blocks.items) c.loop-k.invariant c.loop-k-test.true within)
