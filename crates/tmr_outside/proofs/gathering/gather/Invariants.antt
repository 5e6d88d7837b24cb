use Rattle.std.proofs.Common.{◌≡◌, ◌++◌}
use Rattle.tmr_outside.proofs.gathering.gather.Given as goal

abbrev pub invariant-loop-bytes : goal.invariant-loop-bytes
invariant-loop-bytes g l = l.bytes.items ++ g.G.Giver.rest l.from ≡ g.G.Giver.rest l.fn.from

abbrev pub decreases-loop-bytes : goal.decreases-loop-bytes
decreases-loop-bytes g l = g.G.Giver.left l.from
