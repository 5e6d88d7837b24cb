use Rattle.std.proofs.Common.{◌++◌, List, ap, ◌∙◌}
use Rattle.sweep.specs.declared.swept.Swept.{Swept}
use Rattle.sweep.specs.Private.Written.{lines_left}
use Rattle.sweep.proofs.SweepLaws.{text_is}
use Rattle.sweep.proofs.sweeping.sweep.Goals as goal

pub returns : goal.returns
returns c =
    text_is c.args.form c.args.n.now c.net-net.result.now c.args.version c.args.most c.in_ok-levels.levels c.in_ok-lines.lines.items c.new-out.result.items c.put_original.new.out.items c.put_swept.new.out.items c.net-net.ensures.net c.in_ok-levels.ensures c.in_ok-lines.ensures c.new-out.ensures.items c.in_ok-put_original.ensures
    (c.in_ok-put_swept.ensures ∙ ap (λ (ss : List Swept). c.put_original.new.out.items ++ lines_left c.net-net.result.now.net ss 0) c.deref.ensures.value)
