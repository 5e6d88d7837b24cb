use Rattle.std.proofs.Common.{length, ◌∙◌, ap}
use Rattle.tmr_base.specs.Parts.{PlainParts}
use Rattle.partitioner.specs.Cost.{cost}
use Rattle.partitioner.specs.Refining.{refined}
use Rattle.partitioner.proofs.RefineLaws.{refined_keeps}
use Rattle.triplicate.proofs.choosing.plain_partitions.Goals as goal

pub returns-clause-chosen : goal.returns-clause-chosen
returns-clause-chosen c = record {
  parts = c.in_ok-refined.ensures.exact ∙ ap (λ (p : PlainParts). refined c.args.n.now.net c.args.size p 8) c.in_ok-start.ensures.exact;
  long = ap (λ (p : PlainParts). length p.of) c.in_ok-refined.ensures.exact ∙ (refined_keeps c.args.n.now.net c.args.size c.in_ok-start.start 8 c.in_ok-start.ensures.size).each;
  range = c.in_ok-refined.ensures.range;
  pairs = c.in_ok-refined.ensures.cost;
  plain_pairs = c.in_ok-refined.ensures.before ∙ ap (cost c.args.n.now.net) c.in_ok-start.ensures.exact;
  minimal = c.in_ok-refined.ensures.minimal;
}
