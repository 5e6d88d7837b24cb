use Rattle.std.proofs.Common.{◌<◌, ◌∙◌, ℕ, List, length, sym, ap, subst, arith}
use Rattle.std.specs.List.{All, filter}
use Rattle.node_reads.specs.Sources.{is_source, is_wide}
use Rattle.node_reads.proofs.SourceLaws.{related_below}
use Rattle.node_reads.proofs.WideRows.{wide_row_added}
use Rattle.node_reads.proofs.wide.wide_sources_of.Goals as goal

pub wide_among-requires-clause-row : goal.wide_among-requires-clause-row
wide_among-requires-clause-row c =
    let net = c.args.n.now.net in
    let within : c.loop-i.i < length net.nodes = omega (arith, c.nodes_of-count.ensures.count, c.loop-i-test.true) in
    subst (λ (xs : List ℕ). All (λ x. x < length net.nodes) xs) (sym (c.row.ensures ∙ c.requires.sources.row c.loop-i.i within)) (related_below (is_source net) (length net.nodes) c.loop-i.i)

pub loop-i-preserved : goal.loop-i-preserved
loop-i-preserved c =
    let net = c.args.n.now.net in
    let within : c.loop-i.i < length net.nodes = omega (arith, c.nodes_of-count.ensures.count, c.loop-i-test.true) in
    let row = c.as_slice.ensures.value ∙ (c.in_ok-wide.ensures ∙ ap (filter (is_wide net)) (c.row.ensures ∙ c.requires.sources.row c.loop-i.i within)) in
    wide_row_added net c.loop-i.rows c.push.new.self c.as_slice.result.now c.loop-i.i c.loop-i.invariant.0 c.loop-i.invariant.1 c.in_ok-push.ensures row
