use Rattle.std.proofs.Common.{Err, refl}
use Rattle.tmr_texts.specs.Reasons.{kind_text}
use Rattle.tmr_texts.specs.Texts.{line_reason}
use Rattle.tmr_top.specs.Private.Opened.{netlist_file, HoldsText}
use Rattle.tmr_top.specs.Private.Refused.{IsRefusedNetlist}
use Rattle.tmr_top.proofs.DesignLaws.{holds_bad}
use Rattle.tmr_top.proofs.LoadLaws.{is_refusal, on_ok}
use Rattle.tmr_top.proofs.designs.refuse_text.Goals as goal

pub returns-in-Bad : goal.returns-in-Bad
returns-in-Bad c = λ limit.
    let load = netlist_file c.args.name.now limit in
    let line = c.in-Bad.line in
    let kind = c.in-Bad.kind in
    is_refusal c.args.name.now c.bad_line.result (line_reason line (kind_text kind)) (Unit {0}) (λ held. HoldsText held load (Err c.args.fault)) (IsRefusedNetlist load) _ c.refuse_for.ensures c.bad_line.ensures (on_ok c.bad_line.result)
    (λ text held says caused holds. record {
      reason = line_reason line (kind_text kind);
      unread = holds_bad held load (Err c.args.fault) c.args.fault line kind refl c.in-Bad.is holds;
      says = says;
    })
