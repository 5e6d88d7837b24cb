use Rattle.std.proofs.Common.{ℕ, List, subst}
use Rattle.tmr_top.specs.Private.Opened.{netlist_file, bytes_file, HoldsBytes, IsRefusal}
use Rattle.tmr_top.specs.Private.Shown.{IsShownNetlist}
use Rattle.tmr_top.proofs.ShownLaws.{netlist_gives}
use Rattle.tmr_top.proofs.shown_pairs.read_netlist.Goals as goal

pub returns-in-Ok-clause-gives : goal.returns-in-Ok-clause-gives
returns-in-Ok-clause-gives c = netlist_gives c.args.name.now c.args.limit c.args.bytes.items c.deref.result.now _ c.design_of.result c.deref.ensures.value c.in-Ok.ensures c.design_of.ensures.gives

pub returns-clause-gives : goal.returns-clause-gives
returns-clause-gives c = subst (λ (b : List ℕ). IsRefusal (λ held. HoldsBytes held (bytes_file c.args.name.now c.args.limit) b) (IsShownNetlist (netlist_file c.args.name.now c.args.limit)) c.refuse_netlist.result) c.deref-in-Err.ensures.value (c.refuse_netlist.ensures c.args.limit)
