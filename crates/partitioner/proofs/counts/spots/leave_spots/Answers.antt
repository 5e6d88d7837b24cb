use Rattle.std.proofs.Common.{◌≡◌, ◌<◌, ◌∙◌, length, get_or, sym, subst}
use Rattle.partitioner.specs.declared.counts.spots.Spots.{Spots}
use Rattle.partitioner.specs.Private.Tracking.{held_parts, reader_count}
use Rattle.partitioner.specs.Private.Spotting.{AreSpots}
use Rattle.partitioner.proofs.SpotLaws.{spots_left}
use Rattle.partitioner.proofs.counts.spots.leave_spots.Goals as goal
use Rattle.partitioner.proofs.counts.spots.leave_spots.Goals.{then-count_at-eq0, else-count_at-eq0}

pub loop-x-preserved : goal.loop-x-preserved
loop-x-preserved c =
    let n = c.args.n.now.net in
    let parts = held_parts c.args.p.now in
    let x = get_or c.args.row.now c.loop-x.x-index 0 in
    let within : x < length n.nodes = c.requires.row c.loop-x.x-index 0 c.loop-x-test.true in
    let counted = c.requires.tracks.counts x c.args.q within c.requires.partition (c.requires.wide c.loop-x.x-index 0 c.loop-x-test.true) in
    elim c.if-count_at-eq0.branch [
      | then-count_at-eq0 w ↦
          let none : reader_count n c.args.p.now.of.items x c.args.q ≡ 0 = sym counted ∙ (sym c.count_at.ensures ∙ w.if-count_at-eq0.true) in
          subst (λ (s : Spots). AreSpots n c.args.size parts s) (sym w.spots-is)
          (spots_left n c.args.size parts c.loop-x.spots (record { free = w.remove.new.self; nets = w.remove-then-count_at-eq0.new.self }) x c.args.q c.loop-x.invariant none w.remove.ensures.long w.remove-then-count_at-eq0.ensures.long
          w.remove.ensures.kept w.remove.ensures.others w.remove-then-count_at-eq0.ensures.kept w.remove-then-count_at-eq0.ensures.others)
      | else-count_at-eq0 w ↦ subst (λ (s : Spots). AreSpots n c.args.size parts s) (sym w.spots-is) c.loop-x.invariant
    ]
