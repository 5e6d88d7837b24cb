use Rattle.std.proofs.Common.{◌+◌, length}
use Rattle.feedback_cut.proofs.GatherLaws.{IsGathering, left}
use Rattle.feedback_cut.proofs.gathering.gather.Given as goal

abbrev pub invariant-waiting : goal.invariant-waiting
invariant-waiting l = IsGathering l.readers l.none l.group l.root l.fn.numbers.items l.numbers.items l.waiting.items

abbrev pub decreases-waiting : goal.decreases-waiting
decreases-waiting l = left l.none l.numbers.items l.readers + length l.waiting.items
