use Rattle.std.proofs.Common.{◌∙◌}
use Rattle.certifying.proofs.joining.join_all.Goals as goal

pub loop-i-init : goal.loop-i-init
loop-i-init c = record {
  forest = c.in_ok-up.ensures.forest;
  nodes = c.in_ok-up.ensures.long ∙ c.nodes_of.ensures.count;
  hardened = c.in_ok-readers.ensures.long ∙ c.nodes_of-2.ensures.count;
  along = λ f w keeps. c.in_ok-up.ensures.along f;
  followed = λ f w keeps v y e. absurd (c.in_ok-readers.ensures.none v y e);
}
