use Rattle.std.proofs.Common.{◌≡◌, ◌<◌, ◌∙◌, ◌+◌, ℕ, List, true, length, get_or, sym, subst, arith}
use Rattle.std.specs.List.{All}
use Rattle.node_reads.specs.Sources.{reads_other, other_readers}
use Rattle.partitioner.specs.Private.Sets.{has}
use Rattle.partitioner.specs.declared.counts.spots.Spots.{Spots}
use Rattle.node_reads.proofs.SourceLaws.{related_below}
use Rattle.partitioner.proofs.SpotLaws.{SpottedBelow, spotted_more, spotted_narrow}
use Rattle.partitioner.proofs.counts.spots.spots_of.Goals as goal
use Rattle.partitioner.proofs.counts.spots.spots_of.Goals.{then-is_wide+in_ok-note_readers, else-is_wide}

pub note_readers-requires-clause-row : goal.note_readers-requires-clause-row
note_readers-requires-clause-row c =
    let net = c.args.n.now.net in
    let within : c.loop-x.x < length net.nodes = omega (arith, c.nodes_of-nodes.ensures.count, c.loop-x-test.true) in
    subst (λ (xs : List ℕ). All (λ y. y < length net.nodes) xs) (sym (c.row.ensures ∙ c.requires.readers.row c.loop-x.x within)) (related_below (reads_other net) (length net.nodes) c.loop-x.x)

pub loop-x-preserved : goal.loop-x-preserved
loop-x-preserved c =
    let net = c.args.n.now.net in
    let of = c.args.p.now.of.items in
    let within : c.loop-x.x < length net.nodes = omega (arith, c.nodes_of-nodes.ensures.count, c.loop-x-test.true) in
    elim c.if-is_wide.branch [
      | then-is_wide+in_ok-note_readers w ↦
          let row : w.row.result.now ≡ other_readers net c.loop-x.x = w.row.ensures ∙ c.requires.readers.row c.loop-x.x within in
          subst (λ (s : Spots). SpottedBelow net of c.args.p.now.count (c.loop-x.x + 1) s) (sym w.spots-is)
          (spotted_more net of c.args.p.now.count c.loop-x.x c.loop-x.spots w.note_readers.new.spots c.loop-x.invariant w.in_ok-note_readers.ensures.kept.free_long w.in_ok-note_readers.ensures.kept.nets_long w.in_ok-note_readers.ensures.kept.free_kept w.in_ok-note_readers.ensures.kept.nets_kept
          (subst (λ (xs : List ℕ). All (λ y. has w.note_readers.new.spots.free c.loop-x.x (get_or of y 0) ≡ true) xs) row w.in_ok-note_readers.ensures.free)
          (subst (λ (xs : List ℕ). All (λ y. has w.note_readers.new.spots.nets (get_or of y 0) c.loop-x.x ≡ true) xs) row w.in_ok-note_readers.ensures.nets))
      | else-is_wide w ↦
          subst (λ (s : Spots). SpottedBelow net of c.args.p.now.count (c.loop-x.x + 1) s) (sym w.spots-is)
          (spotted_narrow net of c.args.p.now.count c.loop-x.x c.loop-x.spots (sym c.is_wide.ensures ∙ w.if-is_wide.false) c.loop-x.invariant)
    ]
