use Rattle.std.proofs.Common.{◌≢◌, Ok}
use Rattle.hierarchy.specs.declared.flat_fault.FlatFault.TheVariants.{Memory}
use Rattle.tmr_texts.specs.Reasons.{flat_reason}
use Rattle.tmr_top.specs.Private.Opened.{netlist_file, HoldsText}
use Rattle.tmr_top.specs.Private.Refused.{IsRefusedNetlist}
use Rattle.tmr_top.proofs.DesignLaws.{holds_flat, holds_fault}
use Rattle.tmr_top.proofs.LoadLaws.{is_refusal}
use Rattle.tmr_top.proofs.designs.design_of.Goals as goal

pub returns-in-Ok-clause-gives : goal.returns-in-Ok-clause-gives
returns-in-Ok-clause-gives c = λ held holds. holds_flat held (netlist_file c.args.name.now c.args.limit) c.args.library _ _ c.in-Ok.ensures.ok holds

pub returns-in-Err-clause-gives : goal.returns-in-Err-clause-gives
returns-in-Err-clause-gives c =
    let load = netlist_file c.args.name.now c.args.limit in
    is_refusal c.args.name.now c.reason_of.result (flat_reason c.in-Err.fault) (c.in-Err.fault ≢ Memory) (λ held. HoldsText held load (Ok c.args.library)) (IsRefusedNetlist load) _ c.refuse_for.ensures c.reason_of.ensures.reason c.reason_of.ensures.caused
    (λ line held says caused holds. record { reason = flat_reason c.in-Err.fault; unread = holds_fault held load c.args.library c.in-Err.fault caused c.in-Err.ensures.fault holds; says = says })
