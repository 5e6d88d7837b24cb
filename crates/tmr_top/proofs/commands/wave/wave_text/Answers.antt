use Rattle.std.proofs.Common.{ℕ, ◌*◌, length, sym, ap, ◌∙◌}
use Rattle.flat_net.specs.Net.{Design}
use Rattle.tmr_texts.specs.ReplayText.{output_waves}
use Rattle.tmr_top.proofs.WaveLaws.{values_long}
use Rattle.tmr_top.proofs.commands.wave.wave_text.Goals as goal

pub write_vcd-requires-clause-values : goal.write_vcd-requires-clause-values
write_vcd-requires-clause-values c =
    let names = c.deref.ensures.value ∙ (c.in_ok-names.ensures ∙ ap (λ (d : Design). output_waves d.net) c.net.ensures.net) in
    ap (λ (t : ℕ). length c.deref.result.now * t) c.cycles.ensures.count
    ∙ (values_long c.args.n.now.design.net c.args.n.now.free c.args.h.now.design.net c.args.h.now.free c.args.c.now c.args.s.now c.deref.result.now c.in_ok-values.values.items c.in_ok-values.ensures names
    ∙ ap length (sym c.deref-2.ensures.value))
