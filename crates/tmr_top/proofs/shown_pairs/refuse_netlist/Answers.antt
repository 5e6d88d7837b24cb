use Rattle.std.proofs.Common.{subst}
use Rattle.blif_text.specs.Reading.{reading, IsFaultOf}
use Rattle.blif_text.specs.declared.fault.TextFault.{TextFault}
use Rattle.tmr_texts.specs.Reasons.{kind_text}
use Rattle.tmr_texts.specs.Texts.{line_reason}
use Rattle.tmr_top.specs.Private.Opened.{netlist_file, bytes_file, HoldsBytes}
use Rattle.tmr_top.specs.Private.Shown.{IsShownNetlist}
use Rattle.tmr_top.proofs.LoadLaws.{on_ok}
use Rattle.tmr_top.proofs.ShownLaws.{is_shown_refusal, bad_shown}
use Rattle.tmr_top.proofs.shown_pairs.refuse_netlist.Goals as goal

pub returns-in-Bad : goal.returns-in-Bad
returns-in-Bad c = λ limit.
    let name = c.args.name.now in
    let bytes = c.args.bytes.now in
    let line = c.in-Bad.line in
    let kind = c.in-Bad.kind in
    let bad = subst (λ (f : TextFault). IsFaultOf (reading bytes) f) c.in-Bad.is c.requires in
    is_shown_refusal name c.bad_line.result (line_reason line (kind_text kind)) bytes line (Unit {0}) (λ held. HoldsBytes held (bytes_file name limit) bytes) (IsShownNetlist (netlist_file name limit)) _ c.refuse_showing.ensures c.bad_line.ensures (on_ok c.bad_line.result)
    (λ text held says caused holds. bad_shown held name limit bytes holds line kind text bad says)
