use Rattle.flat_net.proofs.OneFault.{ok_only, fault_only}
use Rattle.flat_net.proofs.building.build.Goals as goal

pub returns-clause-ok_only : goal.returns-clause-ok_only
returns-clause-ok_only c = ok_only c.args.draft (λ net. net.net) c.design_or_fault.result c.design_or_fault.ensures.ok c.design_or_fault.ensures.fault

pub returns-clause-fault_only : goal.returns-clause-fault_only
returns-clause-fault_only c = fault_only c.args.draft (λ net. net.net) c.design_or_fault.result c.design_or_fault.ensures.faultless c.design_or_fault.ensures.fault
