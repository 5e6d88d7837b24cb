use Rattle.std.proofs.Common.{inl, refl, ap, ◌∙◌}
use Rattle.flat_net.specs.Net.{Design}
use Rattle.certifying.specs.Lines.{no_certificate_text}
use Rattle.tmr_top.proofs.RoomLaws.{denied_over}
use Rattle.tmr_top.proofs.commands.certify.tell_none.Goals as goal

pub returns-in_ok-text-in_default : goal.returns-in_ok-text-in_default
returns-in_ok-text-in_default c = denied_over _ _ _ _ c.denying.ensures refl (λ t e. cc)
    (λ held are saved. inl (record {
      designs = record { original = _; free = _; original_read = are.original_read; hardened = _; hardened_free = _; hardened_read = are.hardened_read };
      cause = c.args.why.now;
      caused = c.in_default.not-Memory;
      placed = c.requires;
      says = c.in_ok-text-in_default.ensures
          ∙ (ap (λ (d : Design). no_certificate_text d.net c.net-in_default.result.now.net c.args.why.now) c.net.ensures.net
          ∙ ap (λ (d : Design). no_certificate_text c.args.designs.now.original.design.net d.net c.args.why.now) c.net-in_default.ensures.net);
    }))
