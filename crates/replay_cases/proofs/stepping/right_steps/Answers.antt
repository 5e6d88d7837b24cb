use Rattle.std.proofs.Common.{◌<◌, arith}
use Rattle.schedule_replay.proofs.WideOutcomes.{some_of}
use Rattle.replay_cases.proofs.stepping.right_steps.Goals as goal

pub is_right-requires-clause-started : goal.is_right-requires-clause-started
is_right-requires-clause-started c = some_of _ c.step.new.self.last (let first : 0 < 64 = omega arith in c.step.ensures.cycle 0 first)
