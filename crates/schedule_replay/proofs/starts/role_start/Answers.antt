use Rattle.schedule_replay.proofs.Placing.{role_value}
use Rattle.schedule_replay.proofs.starts.role_start.Goals as goal

pub returns-in-Copy : goal.returns-in-Copy
returns-in-Copy c = role_value c.args.c.now c.args.values.now c.args.role c.in-Copy.node c.in-Copy.copy c.args.inputs c.in-Copy.is c.requires.inputs c.requires.range c.requires.values
