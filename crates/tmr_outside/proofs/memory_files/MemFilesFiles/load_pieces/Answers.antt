use Rattle.std.proofs.Common.{arith}
use Rattle.std.proofs.lemmas.Grind.{common_steps}
use Rattle.tmr_outside.proofs.MemoryLemmas.{load_fails}
use Rattle.tmr_outside.proofs.memory_files.MemFilesFiles.load_pieces.Goals as goal

pub returns-in-Err-Failed-clause-seen : goal.returns-in-Err-Failed-clause-seen
returns-in-Err-Failed-clause-seen g c = rw (← c.self.view_is) (load_fails c.args.name.now c.args.limit c.fail_load.result c.self.inside.stored c.self.inside.failed c.fail_load.new.failed c.self.inside.plan c.begin-keep.new.self c.fail_load.ensures.failed c.fail_load.ensures.memory c.fail_load.ensures.kinds (grind (arith, common_steps)) (grind (arith, common_steps)))
