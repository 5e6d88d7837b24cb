use Rattle.std.proofs.Common.{◌≡◌, ◌<◌, ◌∙◌, ℕ, List, true, length, sym, subst, rules}
use Rattle.std.specs.List.{All}
use Rattle.node_reads.specs.Sources.{is_wide, wide_sources}
use Rattle.node_reads.proofs.WideRows.{wide_below, wide_pass}
use Rattle.partitioner.proofs.counts.marking.unmark_left.Goals as goal

pub unmark_one-requires-in-loop-j-clause-node : goal.unmark_one-requires-in-loop-j-clause-node
unmark_one-requires-in-loop-j-clause-node c =
    let row : c.row.result.now ≡ wide_sources c.args.n.now.net c.args.i = c.row.ensures ∙ c.loop-j.invariant.tracks.wide c.args.i c.requires.node in
    let within : c.loop-j.j < length c.row.result.now = search rules in
    subst (λ (xs : List ℕ). All (λ x. x < length c.args.n.now.net.nodes) xs) (sym row) (wide_below c.args.n.now.net c.args.i) c.loop-j.j 0 within

pub unmark_one-requires-in-loop-j-clause-wide : goal.unmark_one-requires-in-loop-j-clause-wide
unmark_one-requires-in-loop-j-clause-wide c =
    let row : c.row.result.now ≡ wide_sources c.args.n.now.net c.args.i = c.row.ensures ∙ c.loop-j.invariant.tracks.wide c.args.i c.requires.node in
    let within : c.loop-j.j < length c.row.result.now = search rules in
    subst (λ (xs : List ℕ). All (λ x. is_wide c.args.n.now.net x ≡ true) xs) (sym row) (wide_pass c.args.n.now.net c.args.i) c.loop-j.j 0 within
