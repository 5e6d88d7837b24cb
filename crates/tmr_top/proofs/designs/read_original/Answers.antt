use Rattle.tmr_top.proofs.LimitLaws.{netlist_given, within_same}
use Rattle.tmr_top.proofs.designs.read_original.Goals as goal

pub returns-clause-gives : goal.returns-clause-gives
returns-clause-gives c = netlist_given _ _ _ _ _ c.original.ensures.is c.read_netlist.ensures.gives

pub returns-clause-within : goal.returns-clause-within
returns-clause-within c = within_same _ _ _ c.original.ensures.is c.read_netlist.ensures.within
