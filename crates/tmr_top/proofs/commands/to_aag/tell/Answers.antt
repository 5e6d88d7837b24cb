use Rattle.std.proofs.Common.{refl, ap, ◌∙◌}
use Rattle.flat_net.specs.Net.{Design}
use Rattle.tmr_texts.specs.Texts.{graph_line}
use Rattle.tmr_top.proofs.RoomLaws.{if_ok, done_over}
use Rattle.tmr_top.proofs.commands.to_aag.tell.Goals as goal

pub returns : goal.returns
returns c = if_ok c.saving.result _ _ (λ w is. done_over _ _ _ _ _ w is refl (λ t e. cc)
    (λ held holds. record {
      original = c.args.design.now;
      holds = holds;
      bytes = _;
      gates = _;
      file = c.in_ok-file.ensures;
      saves = refl;
      says = c.in_ok-text.ensures ∙ (ap (λ (d : Design). graph_line d.net c.in_ok-file.file.gates c.free_count.result) c.net.ensures.net ∙ ap (graph_line c.args.design.now.design.net c.in_ok-file.file.gates) c.free_count.ensures);
    })
    (λ held holds p e. absurd cc)) c.saving.ensures
