use Rattle.std.proofs.Common.{◌<◌, ◌+◌, ◌∙◌, ℕ, List, length, get_or, refl, sym, subst, arith}
use Rattle.node_reads.specs.Sources.{reads_other}
use Rattle.node_reads.proofs.SourceLaws.{MarkedSources, rows_below, source_noted, sources_start, sources_end}
use Rattle.node_reads.proofs.reading.note_readers.Goals as goal

pub loop-y-init : goal.loop-y-init
loop-y-init c = sources_start c.args.n.now.net c.args.x c.row-y-items.result.now c.args.rows.now c.requires.listed

pub note-requires : goal.note-requires
note-requires c =
    let row = c.row-y-items.ensures in
    let below : get_or c.row-y-items.result.now c.loop-y.y-index 0 < length c.args.n.now.net.nodes =
    subst (λ (xs : List ℕ). c.loop-y.y-index < length xs → get_or xs c.loop-y.y-index 0 < length c.args.n.now.net.nodes) (sym row)
    (rows_below (reads_other c.args.n.now.net) (length c.args.n.now.net.nodes) (length c.args.n.now.net.nodes) c.args.readers.now c.args.x c.loop-y.y-index c.requires.readers c.requires.node) c.loop-y-test.true in
    omega (arith, below, c.loop-y.invariant.long)

pub loop-y-preserved : goal.loop-y-preserved
loop-y-preserved c =
    let row = c.row-y-items.result.now in
    let y = get_or row c.loop-y.y-index 0 in
    let within : y < length c.args.n.now.net.nodes =
    subst (λ (xs : List ℕ). c.loop-y.y-index < length xs → get_or xs c.loop-y.y-index 0 < length c.args.n.now.net.nodes) (sym c.row-y-items.ensures)
    (rows_below (reads_other c.args.n.now.net) (length c.args.n.now.net.nodes) (length c.args.n.now.net.nodes) c.args.readers.now c.args.x c.loop-y.y-index c.requires.readers c.requires.node) c.loop-y-test.true in
    subst (λ (rows : List (List ℕ)). MarkedSources c.args.n.now.net c.args.x row (c.loop-y.y-index + 1) rows) (sym c.in_ok-note.ensures.rows)
    (source_noted c.args.n.now.net c.args.x row c.loop-y.y-index y c.loop-y.rows c.loop-y.invariant c.loop-y-test.true refl within)

pub returns : goal.returns
returns c =
    sources_end c.args.n.now.net c.args.x c.row-y-items.result.now c.loop-y.y-index c.loop-y.rows c.loop-y.invariant c.loop-y-test.false
    (c.row-y-items.ensures ∙ c.requires.readers.row c.args.x c.requires.node)
