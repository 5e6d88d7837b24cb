use Rattle.tmr_top.proofs.LimitLaws.{shown_given, within_same}
use Rattle.tmr_top.proofs.shown_pairs.read_hardened.Goals as goal

pub returns-clause-gives : goal.returns-clause-gives
returns-clause-gives c = shown_given _ _ _ _ _ c.hardened.ensures.is c.read_netlist.ensures.gives

pub returns-clause-within : goal.returns-clause-within
returns-clause-within c = within_same _ _ _ c.hardened.ensures.is c.read_netlist.ensures.within
