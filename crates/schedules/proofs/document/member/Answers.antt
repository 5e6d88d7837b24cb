use Rattle.toml.proofs.Views.{table_get}
use Rattle.schedules.proofs.document.member.Goals as goal

pub returns : goal.returns
returns c = table_get c.get.result c.args.key.now c.args.ms.now.entries c.get.ensures.value
