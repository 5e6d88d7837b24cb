use Rattle.tmr_top.proofs.LimitLaws.{netlist_opened}
use Rattle.tmr_top.proofs.loads.load_hardened.Goals as goal

pub returns : goal.returns
returns g c = netlist_opened _ _ _ _ _ _ _ _ c.hardened.ensures.is c.load_netlist.ensures
