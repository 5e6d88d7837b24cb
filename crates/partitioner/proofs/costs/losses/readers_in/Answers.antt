use Rattle.std.proofs.Common.{◌≡◌, ◌<◌, ◌∙◌, ℕ, List, length, eqb, get_or, sym, ap, subst}
use Rattle.std.specs.List.{All, count_by}
use Rattle.node_reads.specs.Sources.{reads_other, other_readers}
use Rattle.partitioner.specs.Private.Tracking.{reader_count}
use Rattle.node_reads.proofs.SourceLaws.{related_below}
use Rattle.partitioner.proofs.costs.losses.readers_in.Goals as goal

pub count_in-requires-clause-row : goal.count_in-requires-clause-row
count_in-requires-clause-row c =
    let net = c.args.n.now.net in
    let row = c.row-row.ensures ∙ c.requires.tracks.readers.row c.args.x c.requires.node in
    let long : length c.as_slice.result.now ≡ length net.nodes = ap length c.as_slice.ensures.value ∙ c.requires.tracks.long in
    subst (λ (bound : ℕ). All (λ y. y < bound) c.row-row.result.now) (sym long)
    (subst (λ (xs : List ℕ). All (λ y. y < length net.nodes) xs) (sym row) (related_below (reads_other net) (length net.nodes) c.args.x))

pub returns-else-is_long : goal.returns-else-is_long
unfolding reader_count
returns-else-is_long c =
    let row : c.row-row.result.now ≡ other_readers c.args.n.now.net c.args.x = c.row-row.ensures ∙ c.requires.tracks.readers.row c.args.x c.requires.node in
    c.count_in.ensures
    ∙ (ap (λ (of : List ℕ). count_by (λ y. eqb (get_or of y 0) c.args.q) c.row-row.result.now) c.as_slice.ensures.value
    ∙ ap (λ (xs : List ℕ). count_by (λ y. eqb (get_or c.args.p.now.of.items y 0) c.args.q) xs) row)
