use Rattle.std.proofs.Common.{ap, ◌∙◌, length, length-append, arith}
use Rattle.certifying.proofs.JoinLaws.{none_more}
use Rattle.certifying.proofs.joining.no_readers.Goals as goal

pub loop-made-preserved : goal.loop-made-preserved
loop-made-preserved c = record {
  long = ap length c.in_ok-push.ensures.items ∙ (length-append c.loop-made.readers.items _ ∙ omega (arith, c.loop-made.invariant.long));
  none = none_more c.loop-made.readers.items c.push.new.self.items c.in_ok-push.ensures.items c.loop-made.invariant.none;
}
