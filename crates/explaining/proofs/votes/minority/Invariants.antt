use Rattle.std.proofs.Common.{Bool, ◌<◌}
use Rattle.explaining.specs.Reasons.{bits_number, IsVoteOn}
use Rattle.explaining.proofs.votes.minority.Given as goal

abbrev pub invariant-loop-number : goal.invariant-loop-number
invariant-loop-number l = (d e f : Bool) → bits_number d e f < l.number → IsVoteOn l.cover d e f
