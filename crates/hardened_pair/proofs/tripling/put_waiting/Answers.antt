use Rattle.hardened_pair.proofs.RoleSteps.{names_apart}
use Rattle.hardened_pair.proofs.tripling.put_waiting.Goals as goal

pub put_names-requires : goal.put_names-requires
put_names-requires c = names_apart c.args.layout.now c.args.made.now c.requires.layout.room c.requires.made c.requires.next
