use Rattle.std.proofs.Common.{◌*◌, length, sym, ap, ◌∙◌, subst}
use Rattle.std.specs.List.{flat_map}
use Rattle.flat_net.specs.Net.{Design}
use Rattle.certificate.specs.Text.{line_text}
use Rattle.campaigns.specs.NearCampaign.{IsNearCampaign, near_lines}
use Rattle.campaigns.proofs.RunLaws.{three_inputs, three_of_each}
use Rattle.campaigns.proofs.near_campaigning.near_report.Goals as goal

pub near_campaign-requires-clause-inputs : goal.near_campaign-requires-clause-inputs
near_campaign-requires-clause-inputs c =
    ap (λ (d : Design). length d.net.inputs) c.net-hardened.ensures.net
    ∙ (three_inputs c.args.n.now.design.net c.args.n.now.free c.args.h.now.design.net c.args.h.now.free c.args.c.now c.requires.corresponds ∙ ap (λ (d : Design). 3 * length d.net.inputs) (sym c.net-original.ensures.net))

pub near_campaign-requires-clause-outputs : goal.near_campaign-requires-clause-outputs
near_campaign-requires-clause-outputs c =
    ap (λ (d : Design). length d.net.outputs) c.net-hardened.ensures.net
    ∙ (three_of_each c.args.n.now.design.net c.args.n.now.free c.args.h.now.design.net c.args.h.now.free c.args.c.now c.requires.corresponds ∙ ap (λ (d : Design). 3 * length d.net.outputs) (sym c.net-original.ensures.net))

pub returns : goal.returns
returns c =
    let sums = c.in_ok-told.told.sums in
    let first = c.in_ok-told.told.first in
    record {
      sums = sums;
      first = first;
      campaign =
          subst (λ (d : Design). IsNearCampaign c.args.number c.args.cycles c.args.n.now.design.net d.net c.args.c.now sums first) c.net-hardened.ensures.net
          (subst (λ (d : Design). IsNearCampaign c.args.number c.args.cycles d.net c.net-hardened.result.now.net c.args.c.now sums first) c.net-original.ensures.net c.in_ok-told.ensures.campaign);
      text_is = c.in_ok-text.ensures ∙ ap (λ (d : Design). flat_map line_text (near_lines d.net sums first)) c.net-original.ensures.net;
    }
