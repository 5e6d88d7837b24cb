use Rattle.hierarchy.proofs.FlatModels.{first_of}
use Rattle.hierarchy.proofs.design.flat_model.into_main.Goals as goal

pub returns : goal.returns
returns c = first_of c.args.models.items c.swap_remove.result c.requires c.swap_remove.ensures.value
