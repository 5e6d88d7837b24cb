use Rattle.std.proofs.Common.{◌≡◌, ◌+◌, ◌*◌, ◌/◌, ◌<◌, ◌≤◌, ◌++◌, List, length, take, drop, sym, ap, subst, ◌∙◌, arith}
use Rattle.node_reads.specs.declared.notes.Note.{Note}
use Rattle.node_reads.specs.declared.notes.Tally.{Tally}
use Rattle.node_reads.specs.Private.Dealt.{block_of}
use Rattle.node_reads.specs.Private.Logged.{rows_of, AreTallies}
use Rattle.node_reads.proofs.DealtLaws.{log_at, logs_long, block_tallied, packed_more}
use Rattle.node_reads.proofs.notes.packed_blocks.Goals as goal

pub push_rows-requires : goal.push_rows-requires
push_rows-requires c =
    let within : c.loop-b.b < length c.args.tallies.now / 16384 + 1 = omega (arith, c.loop-b-test.true, c.requires.blocks.long, logs_long c.args.blocks.now) in
    let block : c.deref.result.now ≡ block_of 16384 c.loop-b.b c.args.log.now = c.deref.ensures.value ∙ (log_at c.args.blocks.now c.loop-b.b c.index-blocks-b.result c.loop-b-test.true c.index-blocks-b.is ∙ c.requires.blocks.each c.loop-b.b within) in
    subst (λ (tallies : List Tally). AreTallies tallies c.deref.result.now) (sym c.block_tallies.ensures)
    (subst (λ (log : List Note). AreTallies (take 16384 (drop (c.loop-b.b * 16384) c.args.tallies.now)) log) (sym block) (block_tallied 16384 c.loop-b.b c.args.tallies.now c.args.log.now (omega arith) c.requires.tallies))

pub loop-b-preserved : goal.loop-b-preserved
loop-b-preserved c =
    let within : c.loop-b.b < length c.args.tallies.now / 16384 + 1 = omega (arith, c.loop-b-test.true, c.requires.blocks.long, logs_long c.args.blocks.now) in
    let block : c.deref.result.now ≡ block_of 16384 c.loop-b.b c.args.log.now = c.deref.ensures.value ∙ (log_at c.args.blocks.now c.loop-b.b c.index-blocks-b.result c.loop-b-test.true c.index-blocks-b.is ∙ c.requires.blocks.each c.loop-b.b within) in
    let fits : c.loop-b.b * 16384 ≤ length c.args.tallies.now = omega (arith, within) in
    packed_more 16384 c.loop-b.b c.args.tallies.now c.args.log.now c.loop-b.rows c.push_rows.new.rows (omega arith) fits c.loop-b.invariant
    (c.in_ok-push_rows.ensures
    ∙ (ap (λ (log : List Note). c.loop-b.rows ++ rows_of (length c.block_tallies.result.now) log) block
    ∙ ap (λ (tallies : List Tally). c.loop-b.rows ++ rows_of (length tallies) (block_of 16384 c.loop-b.b c.args.log.now)) c.block_tallies.ensures))
