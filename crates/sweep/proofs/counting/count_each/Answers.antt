use Rattle.sweep.proofs.CountLaws.{none_counted}
use Rattle.sweep.proofs.counting.count_each.Goals as goal

pub loop-p-init : goal.loop-p-init
loop-p-init c = none_counted c.args.counts.now c.args.parts.now
