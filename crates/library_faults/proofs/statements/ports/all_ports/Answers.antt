use Rattle.library_faults.proofs.Items.{item_has}
use Rattle.blif_text.specs.Library.{IsModel}
use Rattle.blif_text.specs.Views.{plain_model}
use Rattle.library_faults.proofs.statements.ports.all_ports.Goals as goal

pub ports_of-requires : goal.ports_of-requires
ports_of-requires c = item_has IsModel plain_model c.args.models.now c.loop-model.model-index c.model-item.result c.requires c.loop-model-test.true c.model-item.is
