use Rattle.std.proofs.Common.{subst, sym}
use Rattle.partitioner.specs.Sizes.{KeepsSize}
use Rattle.partitioner.proofs.RefineLaws.{refined_keeps}
use Rattle.triplicate.proofs.choosing.refined_from.Goals as goal

pub returns-clause-told : goal.returns-clause-told
returns-clause-told c =
    let n = c.args.n.now.net in
    let size = c.args.size in
    let refined = c.in_ok-refined.ensures in
    record {
      keeps = subst (KeepsSize n size) (sym refined.exact) (refined_keeps n size c.args.start.now 8 c.requires.start);
      range = refined.range;
      pairs = refined.cost;
      minimal = refined.minimal;
    }
