use Rattle.std.proofs.Common.{◌<◌, arith}
use Rattle.schedule_replay.proofs.WideOutcomes.{some_of}
use Rattle.replay_cases.proofs.stepping.put_step.Goals as goal

pub put_outputs-requires-clause-started : goal.put_outputs-requires-clause-started
put_outputs-requires-clause-started c = some_of _ c.step.new.self.last (let first : 0 < 64 = omega arith in c.step.ensures.cycle 0 first)
