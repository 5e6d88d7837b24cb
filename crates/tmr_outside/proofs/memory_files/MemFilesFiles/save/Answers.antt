use Rattle.std.proofs.Common.{arith}
use Rattle.std.proofs.lemmas.Grind.{common_steps}
use Rattle.tmr_outside.proofs.MemoryLemmas.{save_stores, save_fails}
use Rattle.tmr_outside.proofs.memory_files.MemFilesFiles.save.Goals as goal

pub returns-in-None-clause-seen : goal.returns-in-None-clause-seen
returns-in-None-clause-seen c = rw (← c.self.view_is) (save_stores c.args.name.now c.args.bytes.now c.store.result c.self.inside.stored c.store.new.stored c.self.inside.failed c.self.inside.plan c.begin.new.self c.store.ensures.ok c.store.ensures.err c.store.ensures.kinds (grind (arith, common_steps)))

pub returns-in-Some-clause-seen : goal.returns-in-Some-clause-seen
returns-in-Some-clause-seen c = rw (← c.self.view_is) (save_fails c.args.name.now c.args.bytes.now _ c.fail_save.result c.self.inside.stored c.fail_save.new.stored c.self.inside.failed c.fail_save.new.failed c.self.inside.plan c.begin.new.self c.fail_save.ensures.noted c.fail_save.ensures.left c.fail_save.ensures.memory c.fail_save.ensures.memory_left (grind (arith, common_steps)) (grind (arith, common_steps)))
