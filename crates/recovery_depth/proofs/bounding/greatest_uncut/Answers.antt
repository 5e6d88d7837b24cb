use Rattle.std.proofs.Common.{◌≡◌, length, ap, arith}
use Rattle.graph.specs.Rows.{row}
use Rattle.recovery_depth.proofs.UncutLaws.{greatest_at}
use Rattle.recovery_depth.proofs.bounding.greatest_uncut.Goals as goal

pub returns : goal.returns
returns c =
    let all : c.loop-place.place ≡ length (row c.args.graph.now c.args.y) = omega (arith, c.loop-place-test.false, c.loop-place.auto.place-end, ap length c.row.ensures, c.requires.few) in
    greatest_at c.args.graph.now c.args.cut.now c.args.y c.loop-place.place c.loop-place.greatest c.args.labels.now all c.loop-place.invariant
