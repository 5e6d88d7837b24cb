use Rattle.std.proofs.Common.{◌++◌}
use Rattle.std.specs.Vec.Iter.{into_iter_items}
use Rattle.hardened_pair.proofs.RoleSteps.{put_next}
use Rattle.hardened_pair.proofs.naming.insert_all.Goals as goal

pub loop-name-preserved : goal.loop-name-preserved
loop-name-preserved c = put_next (c.args.names.now.keys ++ c.args.waiting.items) c.loop-name.names.keys (into_iter_items c.loop-name.name-iterator) (into_iter_items c.next.new.self) c.insert.new.self.keys c.in-Some.name c.requires c.loop-name.invariant c.in-Some.ensures.steps.0 c.in_ok-insert.ensures.keys
