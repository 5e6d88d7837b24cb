use Rattle.std.proofs.Common.{◌≡◌, ◌∙◌, ℕ, not, List, take, get_or, sym, ap, subst, arith, IsPermutation}
use Rattle.std.proofs.lemmas.List.{length-take}
use Rattle.std.proofs.lemmas.List.Sums.{count_by-le-length}
use Rattle.partitioner.specs.Below.{one_if}
use Rattle.node_reads.specs.Sources.{other_sources}
use Rattle.partitioner.specs.Private.Loss.{is_fresh, is_wanted}
use Rattle.partitioner.proofs.BelowLaws.{one_if_le, byte_of}
use Rattle.partitioner.proofs.LossLaws.{loss_so_far, loss_more, loss_all, loss_at_least, sources_below, sources_read}
use Rattle.partitioner.proofs.costs.losses.loss_up_to.Goals as goal

pub loop-j-init : goal.loop-j-init
loop-j-init c =
    let net = c.args.n.now.net in
    let of = c.args.p.now.of.items in
    let row = c.row-row.result.now in
    let counted = c.args.gains.now.counted in
    let missed : c.from-loss.result ≡ loss_so_far net of c.args.i c.args.q row counted =
    c.from-loss.ensures ∙ (c.missed_in.ensures ∙ ap (λ (xs : List ℕ). loss_so_far net of c.args.i c.args.q xs counted) (sym c.row-row.ensures)) in
    let most = one_if_le (not (is_wanted net of c.args.i c.args.q)) in
    let few = count_by-le-length (λ x. is_fresh net of c.args.i x c.args.q) (take counted row) in
    let long = length-take counted row in
    (missed, omega (arith, missed, most, few, long))

pub returns-then-most-loss-clause-above : goal.returns-then-most-loss-clause-above
returns-then-most-loss-clause-above c = λ h.
    let perm : IsPermutation (other_sources c.args.n.now.net c.args.i) c.row-row.result.now = subst (λ (row : List ℕ). IsPermutation (other_sources c.args.n.now.net c.args.i) row) (sym c.row-row.ensures) (c.requires.counted.tracks.sources c.args.i c.requires.counted.node) in
    let least = loss_at_least c.args.n.now.net c.args.p.now.of.items c.args.i c.args.q c.row-row.result.now c.loop-j.j perm in
    omega (arith, h, least, c.loop-j.invariant.0)

pub is_fresh-requires-clause-source : goal.is_fresh-requires-clause-source
is_fresh-requires-clause-source c =
    let perm : IsPermutation (other_sources c.args.n.now.net c.args.i) c.row-row.result.now = subst (λ (row : List ℕ). IsPermutation (other_sources c.args.n.now.net c.args.i) row) (sym c.row-row.ensures) (c.requires.counted.tracks.sources c.args.i c.requires.counted.node) in
    sources_below c.args.n.now.net c.args.i c.row-row.result.now perm c.loop-j.j 0 c.loop-j-test.true

pub is_fresh-requires-clause-reads : goal.is_fresh-requires-clause-reads
is_fresh-requires-clause-reads c =
    let perm : IsPermutation (other_sources c.args.n.now.net c.args.i) c.row-row.result.now = subst (λ (row : List ℕ). IsPermutation (other_sources c.args.n.now.net c.args.i) row) (sym c.row-row.ensures) (c.requires.counted.tracks.sources c.args.i c.requires.counted.node) in
    sources_read c.args.n.now.net c.args.i c.row-row.result.now perm c.loop-j.j 0 c.loop-j-test.true

pub loop-j-preserved : goal.loop-j-preserved
loop-j-preserved c =
    let x = get_or c.row-row.result.now c.loop-j.j 0 in
    let more = loss_more c.args.n.now.net c.args.p.now.of.items c.args.i c.args.q c.row-row.result.now c.loop-j.j c.loop-j-test.true in
    let one : c.from-loss-in-loop-j.result ≡ one_if (is_fresh c.args.n.now.net c.args.p.now.of.items c.args.i x c.args.q) =
    c.from-loss-in-loop-j.ensures ∙ (byte_of c.is_fresh.result ∙ ap one_if c.is_fresh.ensures) in
    let most = one_if_le (is_fresh c.args.n.now.net c.args.p.now.of.items c.args.i x c.args.q) in
    (omega (arith, more, one, c.loop-j.invariant.0), omega (arith, one, most, c.loop-j.invariant.1))

pub returns-clause-exact : goal.returns-clause-exact
returns-clause-exact c = λ h.
    let perm : IsPermutation (other_sources c.args.n.now.net c.args.i) c.row-row.result.now = subst (λ (row : List ℕ). IsPermutation (other_sources c.args.n.now.net c.args.i) row) (sym c.row-row.ensures) (c.requires.counted.tracks.sources c.args.i c.requires.counted.node) in
    c.loop-j.invariant.0 ∙ loss_all c.args.n.now.net c.args.p.now.of.items c.args.i c.args.q c.row-row.result.now c.loop-j.j perm c.loop-j-test.false

pub returns-clause-above : goal.returns-clause-above
returns-clause-above c = λ h.
    let perm : IsPermutation (other_sources c.args.n.now.net c.args.i) c.row-row.result.now = subst (λ (row : List ℕ). IsPermutation (other_sources c.args.n.now.net c.args.i) row) (sym c.row-row.ensures) (c.requires.counted.tracks.sources c.args.i c.requires.counted.node) in
    let least = loss_at_least c.args.n.now.net c.args.p.now.of.items c.args.i c.args.q c.row-row.result.now c.loop-j.j perm in
    omega (arith, h, least, c.loop-j.invariant.0)
