use Rattle.std.proofs.Common.{List, Result, sym, subst}
use Rattle.blif_text.specs.Models.{PlainModel}
use Rattle.blif_text.specs.declared.fault.TextFault.{TextFault}
use Rattle.tmr_top.specs.Private.Opened.{netlist_file, HoldsText, IsRefusal}
use Rattle.tmr_top.specs.Private.Refused.{IsRefusedNetlist}
use Rattle.tmr_top.proofs.designs.read_netlist.Goals as goal

pub returns-in-Err-clause-gives : goal.returns-in-Err-clause-gives
returns-in-Err-clause-gives c =
    let load = netlist_file c.args.name.now c.args.limit in
    subst (λ (t : Result (List PlainModel) TextFault). IsRefusal (λ held. HoldsText held load t) (IsRefusedNetlist load) c.refuse_text.result) (sym c.in-Err.is) (c.refuse_text.ensures c.args.limit)
