use Rattle.std.proofs.Common.{◌≡◌, ◌<◌, ◌∙◌, ◌+◌, ℕ, List, true, length, get_or, sym, subst, arith}
use Rattle.std.specs.List.{All}
use Rattle.node_reads.specs.Sources.{reads_other, other_readers}
use Rattle.partitioner.specs.Private.Marks.{is_marked}
use Rattle.node_reads.proofs.SourceLaws.{related_below}
use Rattle.partitioner.proofs.NearLaws.{MarksBelow, marks_more, marks_narrow}
use Rattle.partitioner.proofs.counts.marking.marks_of.Goals as goal
use Rattle.partitioner.proofs.counts.marking.marks_of.Goals.{then-is_wide+in_ok-mark_wide, else-is_wide}

pub mark_wide-requires-clause-row : goal.mark_wide-requires-clause-row
mark_wide-requires-clause-row c =
    let net = c.args.n.now.net in
    let within : c.loop-x.x < length net.nodes = omega (arith, c.nodes_of-nodes.ensures.count, c.loop-x-test.true) in
    subst (λ (bound : ℕ). All (λ y. y < bound) c.row.result.now) (sym c.requires.long)
    (subst (λ (xs : List ℕ). All (λ y. y < length net.nodes) xs) (sym (c.row.ensures ∙ c.requires.readers.row c.loop-x.x within)) (related_below (reads_other net) (length net.nodes) c.loop-x.x))

pub loop-x-preserved : goal.loop-x-preserved
loop-x-preserved c =
    let net = c.args.n.now.net in
    let of = c.args.of.now in
    let within : c.loop-x.x < length net.nodes = omega (arith, c.nodes_of-nodes.ensures.count, c.loop-x-test.true) in
    elim c.if-is_wide.branch [
      | then-is_wide+in_ok-mark_wide w ↦
          let row : w.row.result.now ≡ other_readers net c.loop-x.x = w.row.ensures ∙ c.requires.readers.row c.loop-x.x within in
          subst (λ (m : List (List ℕ)). MarksBelow net of (c.loop-x.x + 1) m) (sym w.marks-is)
          (marks_more net of c.loop-x.x c.loop-x.marks w.mark_wide.new.marks (sym c.is_wide.ensures ∙ w.if-is_wide.true) c.loop-x.invariant w.in_ok-mark_wide.ensures.long w.in_ok-mark_wide.ensures.rows w.in_ok-mark_wide.ensures.kept w.in_ok-mark_wide.ensures.own
          (subst (λ (xs : List ℕ). All (λ y. is_marked w.mark_wide.new.marks c.loop-x.x (get_or of y 0) ≡ true) xs) row w.in_ok-mark_wide.ensures.row))
      | else-is_wide w ↦
          subst (λ (m : List (List ℕ)). MarksBelow net of (c.loop-x.x + 1) m) (sym w.marks-is)
          (marks_narrow net of c.loop-x.x c.loop-x.marks (sym c.is_wide.ensures ∙ w.if-is_wide.false) c.loop-x.invariant)
    ]
