use Rattle.std.proofs.Common.{List, ℕ, [], ◌∷◌, refl, ap, ◌∙◌}
use Rattle.tmr_texts.specs.Texts.{aag_line}
use Rattle.tmr_top.proofs.RoomLaws.{if_ok, done_over}
use Rattle.tmr_top.proofs.commands.from_aag.tell.Goals as goal

pub returns : goal.returns
returns c = if_ok c.saving.result _ _ (λ w is. done_over _ _ _ _ _ w is refl (λ t e. cc)
    (λ held holds. record {
      design = c.args.read.now.net;
      holds = record { bytes = holds.bytes; there = holds.there; short = holds.short; fact = holds.fact.read };
      saves = ap (λ (t : List ℕ). t ∷ []) c.in_ok-bytes.ensures.text;
      says = c.in_ok-text.ensures ∙ ap aag_line holds.fact.counts;
    })
    (λ held holds p e. absurd cc)) c.saving.ensures
