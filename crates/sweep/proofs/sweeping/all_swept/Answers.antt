use Rattle.std.proofs.Common.{◌*◌, length, refl, ap, arith}
use Rattle.flat_net.specs.Net.{Design}
use Rattle.sweep.proofs.SweepLaws.{first_swept, next_swept}
use Rattle.sweep.proofs.sweeping.all_swept.Goals as goal

pub loop-size-init : goal.loop-size-init
loop-size-init c = record {
  sweeping = first_swept c.args.form c.args.n.now c.args.version c.args.most c.new-lines.result.items c.push.new.self.items c.in_ok-first.first.swept c.new-lines.ensures.items c.in_ok-push.ensures.items c.in_ok-first.ensures.swept;
  survey = c.in_ok-first.ensures.survey;
}

pub loop-size-preserved : goal.loop-size-preserved
loop-size-preserved c = record {
  sweeping = next_swept c.args.form c.args.n.now c.args.version c.args.most c.loop-size.lines.items c.push-in-loop-size.new.self.items c.loop-size.size (c.loop-size.size * 2) c.in_ok-next.next.swept c.loop-size.invariant.sweeping
      (omega (arith, c.loop-size-test.true, c.nodes_of-nodes.ensures.count, ap (λ (d : Design). length d.net.nodes) c.net.ensures.net)) refl c.in_ok-push-2.ensures.items c.in_ok-next.ensures.swept;
  survey = c.in_ok-next.ensures.survey;
}
