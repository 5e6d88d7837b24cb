use Rattle.std.proofs.Common.{map}
use Rattle.blif_text.specs.Views.{plain_model}
use Rattle.hierarchy.proofs.Marks.{free_only, free_fault_only}
use Rattle.hierarchy.proofs.design.flattening.flattened.Goals as goal

pub returns-clause-ok_only : goal.returns-clause-ok_only
returns-clause-ok_only c = free_only (map plain_model c.args.models.items) c.args.limit c.taken_flat.result c.taken_flat.ensures.ok c.taken_flat.ensures.fault

pub returns-clause-fault_only : goal.returns-clause-fault_only
returns-clause-fault_only c = free_fault_only (map plain_model c.args.models.items) c.args.limit c.taken_flat.result c.taken_flat.ensures.ok c.taken_flat.ensures.fault
