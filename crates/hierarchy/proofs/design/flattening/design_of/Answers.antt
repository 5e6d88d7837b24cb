use Rattle.blif_text.specs.Views.{plain_model}
use Rattle.hierarchy.proofs.Sizing.{rows_within}
use Rattle.hierarchy.proofs.design.flattening.design_of.Goals as goal

pub returns-clause-rows : goal.returns-clause-rows
returns-clause-rows c = rows_within (plain_model c.args.flat) c.in_ok-net.net.net c.in_ok-net.ensures.ok
