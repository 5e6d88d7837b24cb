use Rattle.std.proofs.Common.{List, ℕ, [], ◌∷◌, refl, ap, ◌∙◌}
use Rattle.flat_net.specs.Net.{Design}
use Rattle.blif_writer.specs.Text.{flat_text}
use Rattle.tmr_texts.specs.Texts.{flattened_line}
use Rattle.tmr_top.proofs.RoomLaws.{if_ok, done_over}
use Rattle.tmr_top.proofs.commands.flatten.tell.Goals as goal

pub returns : goal.returns
returns c = if_ok c.saving.result _ _ (λ w is. done_over _ _ _ _ _ w is refl (λ t e. cc)
    (λ held holds. record {
      design = _;
      free = _;
      holds = holds;
      saves = ap (λ (t : List ℕ). t ∷ []) (c.in_ok-bytes.ensures.text ∙ ap (λ (d : Design). flat_text d.net) c.net.ensures.net);
      says = c.in_ok-text.ensures ∙ (ap (λ (d : Design). flattened_line d.net c.free_count.result) c.net-2.ensures.net ∙ ap (flattened_line _) c.free_count.ensures);
    })
    (λ held holds p e. absurd cc)) c.saving.ensures
