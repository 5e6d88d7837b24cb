use Rattle.std.proofs.Common.{◌*◌, ◌-◌}
use Rattle.triplicate.specs.Surveyed.{IsSurvey}
use Rattle.sweep.specs.Private.Written.{IsSweeping}
use Rattle.sweep.proofs.sweeping.all_swept.Given as goal

abbrev pub invariant-loop-size : goal.invariant-loop-size
invariant-loop-size l = record {
  sweeping : IsSweeping l.form l.n l.version l.most l.lines.items l.size;
  survey : IsSurvey l.n.design.net l.survey;
}

abbrev pub decreases-loop-size : goal.decreases-loop-size
decreases-loop-size l = 2 * l.nodes - l.size
