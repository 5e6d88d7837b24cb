use Rattle.std.proofs.Common.{ℕ, ◌+◌, ◌-◌, length, get_or, ap, ◌∙◌}
use Rattle.certificate.specs.Cert.{copy_of}
use Rattle.certifying.proofs.DepthLaws.{more_long, more_each, more_small}
use Rattle.certifying.proofs.depths.node_labels.Goals as goal

pub loop-i-preserved : goal.loop-i-preserved
loop-i-preserved c = record {
  long = more_long c.args.n.now.net c.args.h.now.net c.args.k.now c.args.labels.now c.loop-i.threes.items c.push.new.self.items c.three_labels.result c.loop-i.i c.loop-i.invariant.long c.in_ok-push.ensures.items;
  each = more_each c.args.n.now.net c.args.h.now.net c.args.k.now c.args.labels.now c.loop-i.threes.items c.push.new.self.items c.three_labels.result c.loop-i.i c.loop-i.invariant.long c.in_ok-push.ensures.items
      c.loop-i.invariant.each
      (λ d. c.three_labels.ensures.labels d ∙ ap (λ (z : ℕ). get_or c.args.labels.now (copy_of c.args.k.now (z + c.loop-i.i) d - length c.args.h.now.net.inputs) 0) c.input_count-original.ensures.count);
  small = more_small c.args.n.now.net c.args.h.now.net c.args.k.now c.args.labels.now c.loop-i.threes.items c.push.new.self.items c.three_labels.result c.loop-i.i c.loop-i.invariant.long c.in_ok-push.ensures.items
      c.loop-i.invariant.small c.three_labels.ensures.small;
}
