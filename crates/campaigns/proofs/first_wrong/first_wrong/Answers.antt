use Rattle.std.proofs.Common.{arith}
use Rattle.campaigns.proofs.SeekLaws.{all_seen}
use Rattle.campaigns.proofs.first_wrong.first_wrong.Goals as goal

pub returns : goal.returns
returns c = all_seen c.args.outcomes.now c.loop-j.j c.loop-j.found (omega (arith, c.loop-j-test.false, c.loop-j.auto.j-end, c.requires)) c.loop-j.invariant
